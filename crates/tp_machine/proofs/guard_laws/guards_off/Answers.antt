use Rattle.std.proofs.Common.{refl}
use Rattle.tp_machine.proofs.GuardsOff.{keeps_others, same_parts, sets_of_a_frame, keeps_all_but_buffer}
use Rattle.tp_machine.proofs.guard_laws.guards_off.Goals as goal

pub returns-clause-others : goal.returns-clause-others
returns-clause-others c i off = keeps_others i off

pub returns-clause-parts : goal.returns-clause-parts
returns-clause-parts c i off = same_parts i off

pub returns-clause-uncoloured : goal.returns-clause-uncoloured
returns-clause-uncoloured c i = sets_of_a_frame i

pub returns-clause-unflushed : goal.returns-clause-unflushed
returns-clause-unflushed c i k = keeps_all_but_buffer i k

pub returns-clause-one_clone : goal.returns-clause-one_clone
returns-clause-one_clone c i d = refl
