-- Declared boxes, each one way, from a domain to another; and what calls and switches make of them.
use Rattle.std.specs.Prelude.{◌≤◌, ℕ, nat_eq, nat_lt, if◌then◌else◌, List, [], ◌∷◌, ◌++◌, length, map, slice_get, slice_set, Option, Some, None, Result, Ok, Err}
use Rattle.std.specs.List.{All}
use Rattle.mail_slots.specs.declared.refusal.MailRefusal.{MailRefusal}
use Rattle.mail_slots.specs.declared.refusal.MailRefusal.TheVariants as refusal

pub record Mailbox : Type 0 where
  pub from : ℕ
  pub to : ℕ
  pub out : List ℕ  -- what its sender put in since a slot of it ended
  pub sent : List ℕ  -- what waits for a slot of its receiver
  pub inbox : List ℕ  -- what its receiver may take

-- by their numbers
abbrev pub Boxes : Type 0
Boxes = List Mailbox

-- how many words each of the three lists has at most
abbrev pub most_words : ℕ
most_words = 16

-- and how many boxes there are at most
abbrev pub most_boxes : ℕ
most_boxes = 64

abbrev pub empty_box : ℕ × ℕ → Mailbox
empty_box ends = record { from = ends.0; to = ends.1; out = []; sent = []; inbox = [] }

-- for each pair that is declared, sender and receiver, a box with no words
unfoldable pub opening : List (ℕ × ℕ) → Boxes
opening declared = map empty_box declared

-- whether its lists are as short as they are to be
pub record IsFit (b : Mailbox) : Type 0 where
  pub out : length b.out ≤ most_words
  pub sent : length b.sent ≤ most_words
  pub inbox : length b.inbox ≤ most_words

abbrev pub AreFit : Boxes → Type 0
AreFit boxes = All IsFit boxes

-- ---- calls

-- what is done to a box, where there is one
abbrev pub at_box : {A : Type 0} → (Mailbox → Result A MailRefusal) → Option Mailbox → Result A MailRefusal
at_box f None = Err refusal.NoBox
at_box f (Some b) = f b

abbrev pub with_word : ℕ → Mailbox → Mailbox
with_word word b = record b { out = b.out ++ word ∷ [] }

abbrev pub put_in : ℕ → ℕ → Mailbox → Result Mailbox MailRefusal
put_in d word b =
    if nat_eq b.from d
    then (if nat_lt (length b.out) most_words then Ok (with_word word b) else Err refusal.BoxFull)
    else Err refusal.NoBox

abbrev pub boxes_with : ℕ → Boxes → Result Mailbox MailRefusal → Result Boxes MailRefusal
boxes_with a boxes (Ok b) = Ok (slice_set boxes a b)
boxes_with a boxes (Err r) = Err r

-- SEND: domain d puts a word into box a
unfoldable pub send : ℕ → ℕ → ℕ → Boxes → Result Boxes MailRefusal
send d a word boxes = boxes_with a boxes (at_box (put_in d word) (slice_get boxes a))

-- a word, and the box without it
pub record Taken : Type 0 where
  pub word : ℕ
  pub box : Mailbox

abbrev pub take_first : Mailbox → List ℕ → Result Taken MailRefusal
take_first b [] = Err refusal.NoMail
take_first b (word ∷ words) = Ok (record { word = word; box = record b { inbox = words } })

abbrev pub take_out : ℕ → Mailbox → Result Taken MailRefusal
take_out d b = if nat_eq b.to d then take_first b b.inbox else Err refusal.NoBox

-- a word, and all boxes without it
pub record Received : Type 0 where
  pub word : ℕ
  pub boxes : Boxes

abbrev pub received_from : ℕ → Boxes → Result Taken MailRefusal → Result Received MailRefusal
received_from a boxes (Ok t) = Ok (record { word = t.word; boxes = slice_set boxes a t.box })
received_from a boxes (Err r) = Err r

-- RECV: domain d takes the first word that came in box a
unfoldable pub receive : ℕ → ℕ → Boxes → Result Received MailRefusal
receive d a boxes = received_from a boxes (at_box (take_out d) (slice_get boxes a))

-- ---- switches

-- words, if there are any, wait in the place of those that waited
abbrev pub sent_off : Mailbox → List ℕ → Mailbox
sent_off b [] = b
sent_off b (word ∷ words) = record b { sent = word ∷ words; out = [] }

abbrev pub box_ends : ℕ → Mailbox → Mailbox
box_ends d b = if nat_eq b.from d then sent_off b b.out else b

-- a slot of domain d ends: what it put in waits
unfoldable pub ends : ℕ → Boxes → Boxes
ends d boxes = map (box_ends d) boxes

-- words, if there are any, come in the place of those that were not taken
abbrev pub come_in : Mailbox → List ℕ → Mailbox
come_in b [] = b
come_in b (word ∷ words) = record b { inbox = word ∷ words; sent = [] }

abbrev pub box_begins : ℕ → Mailbox → Mailbox
box_begins d b = if nat_eq b.to d then come_in b b.sent else b

-- a slot of domain d begins: what waits for it comes in
unfoldable pub begins : ℕ → Boxes → Boxes
begins d boxes = map (box_begins d) boxes
