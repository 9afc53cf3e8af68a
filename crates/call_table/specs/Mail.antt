-- The calls on mailboxes, 19 SEND and 20 RECV; and each call over all that calls work on. The number is in x17, a and b are in x10 and
-- x11. A call on mailboxes is refused by 14 NoBox, 15 BoxFull or 16 NoMail. It leaves memory, and each other call leaves the boxes.
use Rattle.std.specs.Prelude.{ℕ, nat_eq, if◌then◌else◌, [], Result, Ok, Err}
use Rattle.std.proofs.Common.{inl, inr}
use Rattle.tp_base.specs.Act.{Done}
use Rattle.phys_mem.specs.Mem.{Mem}
use Rattle.rv_core.specs.Registers.{register}
use Rattle.mail_slots.specs.declared.refusal.MailRefusal.{MailRefusal}
use Rattle.mail_slots.specs.declared.refusal.MailRefusal.TheVariants as refusal
use Rattle.mail_slots.specs.Boxes.{Boxes, send, Received, receive}
use Rattle.call_table.specs.Domain.{Dom, done, refused}
use Rattle.call_table.specs.Claims.{Estate}
use Rattle.call_table.specs.Calls.{Note, call_of, number_made}

-- all that domains may change beside their own state
pub record Storage : Type 0 where
  pub mem : Mem
  pub boxes : Boxes

-- what a call on boxes leaves behind
abbrev pub MailDone : Type 0
MailDone = Done Boxes Note Dom Dom

abbrev pub mail_error : MailRefusal → ℕ
mail_error refusal.NoBox = 14
mail_error refusal.BoxFull = 15
mail_error refusal.NoMail = 16

abbrev pub not_done : MailRefusal → Dom → Boxes → MailDone
not_done r d boxes = record { notes = []; state = boxes; value = inl (refused (mail_error r) d) }

-- ---- 19 SEND a b: puts the word b into box a

abbrev pub has_sent : Dom → Boxes → Result Boxes MailRefusal → MailDone
has_sent d boxes (Ok later) = record { notes = []; state = later; value = inr (done 0 d) }
has_sent d boxes (Err r) = not_done r d boxes

abbrev pub send_word : Estate → Dom → ℕ → ℕ → Boxes → MailDone
send_word e d a b boxes = has_sent d boxes (send e.number a b boxes)

-- ---- 20 RECV a: takes the first word that came in box a, and gives it

abbrev pub has_received : Dom → Boxes → Result Received MailRefusal → MailDone
has_received d boxes (Ok r) = record { notes = []; state = r.boxes; value = inr (done r.word d) }
has_received d boxes (Err r) = not_done r d boxes

abbrev pub receive_word : Estate → Dom → ℕ → Boxes → MailDone
receive_word e d a boxes = has_received d boxes (receive e.number a boxes)

-- ---- all calls

-- of a call on boxes memory stays, and of one on memory the boxes do
abbrev pub on_boxes : Storage → MailDone → Done Storage Note Dom Dom
on_boxes s r = record { notes = r.notes; state = record s { boxes = r.state }; value = r.value }

abbrev pub on_memory : Storage → Done Mem Note Dom Dom → Done Storage Note Dom Dom
on_memory s r = record { notes = r.notes; state = record s { mem = r.state }; value = r.value }

unfoldable pub called_of : Estate → Dom → ℕ → ℕ → ℕ → ℕ → Storage → Done Storage Note Dom Dom
called_of e d number a b c s =
    if nat_eq number 19 then on_boxes s (send_word e d a b s.boxes)
    else if nat_eq number 20 then on_boxes s (receive_word e d a s.boxes)
    else on_memory s (call_of e d number a b c s.mem)

-- the call that the current thread makes
unfoldable pub called : Estate → Dom → Storage → Done Storage Note Dom Dom
called e d s =
    let regs = d.threads.current.regs in
    called_of e d (number_made e d) (register regs 10) (register regs 11) (register regs 12) s
