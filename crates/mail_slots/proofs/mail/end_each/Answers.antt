use Rattle.mail_slots.specs.Boxes.{box_ends}
use Rattle.mail_slots.proofs.Slots.{one_more}
use Rattle.mail_slots.proofs.mail.end_each.Goals as goal

pub loop-slot-preserved : goal.loop-slot-preserved
loop-slot-preserved c =
    one_more (box_ends c.args.d) c.args.slots.now c.loop-slot.slots c.loop-slot.slot-index c.slot-item.result
    c.end_one.new.slot c.loop-slot-test.true c.loop-slot.invariant c.slot-item.is c.end_one.ensures.becomes
