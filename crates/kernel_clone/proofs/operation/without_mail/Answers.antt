use Rattle.std.proofs.Common.{◌&&◌, arith, refl}
use Rattle.std.specs.Prelude.{not}
use Rattle.kernel_clone.specs.Permissions.{is_mail, is_call, may_make, calls_below}
use Rattle.kernel_clone.proofs.CallLaws.{bits_more, bits_fit}
use Rattle.kernel_clone.proofs.operation.without_mail.Goals as goal

pub loop-number-init : goal.loop-number-init
unfolding calls_below
loop-number-init c = refl

pub overflow_add-others : goal.overflow_add-others
overflow_add-others c =
    let fit =
    bits_fit (λ n. is_call n && (may_make c.args.calls n && not (is_mail n))) c.loop-number.number c.loop-number.others
    c.bit_without_mail-others.result c.loop-number-test.true c.loop-number.invariant c.bit_without_mail-others.ensures.value in
    omega (arith, fit)

pub loop-number-preserved : goal.loop-number-preserved
loop-number-preserved c =
    let more = bits_more (λ n. is_call n && (may_make c.args.calls n && not (is_mail n))) c.loop-number.number in
    omega (arith, more, c.loop-number.invariant, c.bit_without_mail-others.ensures.value)
