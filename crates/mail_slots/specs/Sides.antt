-- What one domain has of the boxes, what it hasn't, and what comes to it as its slot begins.
use Rattle.std.specs.Prelude.{ℕ, nat_eq, if◌then◌else◌, List, [], ◌∷◌, map}
use Rattle.mail_slots.specs.Boxes.{Mailbox, Boxes}

-- of a box: what it put in, where the box is from it, and what it may take, where it is to it
abbrev pub own_part : ℕ → Mailbox → Mailbox
own_part d b = record {
  from = b.from;
  to = b.to;
  out = if nat_eq b.from d then b.out else [];
  sent = [];
  inbox = if nat_eq b.to d then b.inbox else [];
}

unfoldable pub own_side : ℕ → Boxes → Boxes
own_side d boxes = map (own_part d) boxes

-- all else of a box
abbrev pub others_part : ℕ → Mailbox → Mailbox
others_part d b = record {
  from = b.from;
  to = b.to;
  out = if nat_eq b.from d then [] else b.out;
  sent = b.sent;
  inbox = if nat_eq b.to d then [] else b.inbox;
}

unfoldable pub others_side : ℕ → Boxes → Boxes
others_side d boxes = map (others_part d) boxes

-- ---- arrivals

-- the words that come in, a list for each box by its number
abbrev pub Arrival : Type 0
Arrival = List (List ℕ)

-- none where the box is to another
abbrev pub arriving : ℕ → Mailbox → List ℕ
arriving d b = if nat_eq b.to d then b.sent else []

-- what a slot of domain d begins with
unfoldable pub arrival : ℕ → Boxes → Arrival
arrival d boxes = map (arriving d) boxes

abbrev pub brought : Mailbox → List ℕ → Mailbox
brought b [] = b
brought b (word ∷ words) = record b { inbox = word ∷ words }

-- words are put where a receiver may take them, wherever they come from
unfoldable pub bring : Arrival → Boxes → Boxes
bring [] boxes = boxes
bring (words ∷ arrival) [] = []
bring (words ∷ arrival) (b ∷ boxes) = brought b words ∷ bring arrival boxes
