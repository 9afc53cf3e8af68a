use Rattle.std.proofs.Common.{◌≡◌, ◌&&◌, pos}
use Rattle.kernel_clone.specs.Permissions.{is_call, calls_below}
use Rattle.image_record.specs.Numbers.{names}
use Rattle.domain_check.proofs.calls.calls_among.Given as goal

abbrev pub invariant-loop-call : goal.invariant-loop-call
invariant-loop-call l = l.calls ≡ calls_below (λ n. is_call n && names l.numbers (pos n)) l.call
