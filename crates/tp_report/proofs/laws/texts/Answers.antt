-- Computed from the definitions.
use Rattle.std.proofs.Common.{refl}
use Rattle.std.specs.Fmt.{digits}
use Rattle.tp_report.specs.Report.{switch_line, end_text, usage_text, refusal_text, bound_text, bound_2_text, shared_parts_text, entries_text, entry_text, entry_line, accepted_text, too_long_text, unprotected_text}
use Rattle.kernel_clone.specs.Permissions.{may_make, calls_below}
use Rattle.pad_bound.specs.Bound.{worst_instruction, worst_operation, worst_leave, worst_prefetch, worst_flush, worst_enter, bound_of, most_written}
use Rattle.hex.specs.Hex.{encode_with}
use Rattle.tp_report.specs.Texts.{h8, state_text, register_text, registers_text, thread_line, thread_text, threads_text}
use Rattle.world_view.specs.View.{memory_sum}
use Rattle.tp_report.specs.Demo.{demo_head, demo_domain}
use Rattle.tp_report.proofs.laws.texts.Goals as goal

pub returns-clause-least : goal.returns-clause-least
unfolding switch_line digits
returns-clause-least c = refl

pub returns-clause-greatest : goal.returns-clause-greatest
unfolding switch_line digits
returns-clause-greatest c = refl

pub returns-clause-end : goal.returns-clause-end
unfolding end_text
returns-clause-end c = refl

pub returns-clause-usage : goal.returns-clause-usage
unfolding usage_text
returns-clause-usage c = refl

pub returns-clause-refusal : goal.returns-clause-refusal
unfolding refusal_text digits
returns-clause-refusal c = refl

pub returns-clause-bound : goal.returns-clause-bound
unfolding bound_text digits
returns-clause-bound c = refl

pub returns-clause-bound_2 : goal.returns-clause-bound_2
unfolding bound_2_text shared_parts_text entries_text entry_text entry_line worst_instruction worst_operation
    worst_leave worst_prefetch worst_flush worst_enter bound_of most_written may_make calls_below digits
returns-clause-bound_2 c = refl

pub returns-clause-accepted : goal.returns-clause-accepted
unfolding accepted_text
returns-clause-accepted c = refl

pub returns-clause-too_long : goal.returns-clause-too_long
unfolding too_long_text
returns-clause-too_long c = refl

pub returns-clause-unprotected : goal.returns-clause-unprotected
unfolding unprotected_text
returns-clause-unprotected c = refl

pub returns-clause-waiting : goal.returns-clause-waiting
unfolding thread_text thread_line state_text h8 encode_with registers_text register_text digits
returns-clause-waiting c = refl

pub returns-clause-second : goal.returns-clause-second
unfolding thread_text thread_line state_text h8 encode_with registers_text register_text digits
returns-clause-second c = refl

pub returns-clause-never : goal.returns-clause-never
unfolding thread_text
returns-clause-never c = λ t pc regs. refl

pub returns-clause-ascending : goal.returns-clause-ascending
unfolding threads_text thread_text thread_line state_text h8 encode_with registers_text register_text digits
returns-clause-ascending c = refl

pub returns-clause-demo_head : goal.returns-clause-demo_head
unfolding demo_head digits
returns-clause-demo_head c = refl

pub returns-clause-demo_domain : goal.returns-clause-demo_domain
unfolding demo_domain memory_sum h8 encode_with digits
returns-clause-demo_domain c = refl
