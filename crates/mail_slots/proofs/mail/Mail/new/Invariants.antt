use Rattle.std.proofs.Common.{◌≡◌, ◌≤◌, length, map, take}
use Rattle.mail_slots.specs.Boxes.{empty_box}
use Rattle.mail_slots.specs.Models.{box_model}
use Rattle.mail_slots.proofs.mail.Mail.new.Given as goal

abbrev pub invariant-loop-from : goal.invariant-loop-from
invariant-loop-from l = record {
  long : length l.slots.items ≡ l.from-index;
  room : length l.boxes ≤ l.slots.cap;
  made : map box_model l.slots.items ≡ map empty_box (take l.from-index l.boxes);
}
