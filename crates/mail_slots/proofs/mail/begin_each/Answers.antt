use Rattle.mail_slots.specs.Boxes.{box_begins}
use Rattle.mail_slots.proofs.Slots.{one_more}
use Rattle.mail_slots.proofs.mail.begin_each.Goals as goal

pub loop-slot-preserved : goal.loop-slot-preserved
loop-slot-preserved c =
    one_more (box_begins c.args.d) c.args.slots.now c.loop-slot.slots c.loop-slot.slot-index c.slot-item.result
    c.begin_one.new.slot c.loop-slot-test.true c.loop-slot.invariant c.slot-item.is c.begin_one.ensures.becomes
