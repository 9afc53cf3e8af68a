-- What the code's boxes stand for.
use Rattle.mail_slots.specs.declared.slot.Slot.{Slot}
use Rattle.mail_slots.specs.Boxes.{Mailbox}

abbrev pub box_model : Slot → Mailbox
box_model s = record {
  from = s.from;
  to = s.to;
  out = s.out.items;
  sent = s.sent.items;
  inbox = s.inbox.items;
}
