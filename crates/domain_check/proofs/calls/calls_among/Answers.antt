use Rattle.std.proofs.Common.{◌&&◌, pos, arith, refl}
use Rattle.kernel_clone.specs.Permissions.{is_call, calls_below}
use Rattle.image_record.specs.Numbers.{names}
use Rattle.kernel_clone.proofs.CallLaws.{bits_more, bits_fit}
use Rattle.domain_check.proofs.calls.calls_among.Goals as goal

pub loop-call-init : goal.loop-call-init
unfolding calls_below
loop-call-init c = refl

pub overflow_add-calls : goal.overflow_add-calls
overflow_add-calls c =
    let fit =
    bits_fit (λ n. is_call n && names c.args.numbers.now (pos n)) c.loop-call.call c.loop-call.calls
    c.bit_of-calls.result c.loop-call-test.true c.loop-call.invariant c.bit_of-calls.ensures.value in
    omega (arith, fit)

pub loop-call-preserved : goal.loop-call-preserved
loop-call-preserved c =
    let more = bits_more (λ n. is_call n && names c.args.numbers.now (pos n)) c.loop-call.call in
    omega (arith, more, c.loop-call.invariant, c.bit_of-calls.ensures.value)
