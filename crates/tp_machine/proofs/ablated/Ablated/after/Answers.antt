use Rattle.std.proofs.Common.{◌≡◌, ◌∙◌, arith}
use Rattle.tp_machine.proofs.ablated.Ablated.after.Goals as goal

pub returns : goal.returns
returns c =
    let over : c.loop-slot.slot ≡ c.args.slots = omega arith in
    record { slots = c.loop-slot.invariant.slots ∙ over; image = c.loop-slot.invariant.image; off = c.loop-slot.invariant.off }
