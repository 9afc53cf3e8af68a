use Rattle.std.proofs.Common.{◌≡◌, ◌&&◌}
use Rattle.std.specs.Prelude.{not}
use Rattle.kernel_clone.specs.Permissions.{is_mail, is_call, may_make, calls_below}
use Rattle.kernel_clone.proofs.operation.without_mail.Given as goal

abbrev pub invariant-loop-number : goal.invariant-loop-number
invariant-loop-number l = l.others ≡ calls_below (λ n. is_call n && (may_make l.calls n && not (is_mail n))) l.number
