-- What waits in boxes: an event of a slot leaves it, and a switch goes by it and by the side of who leaves.
use Rattle.std.proofs.Common.{◌≡◌, ℕ, Bool, true, false, List, [], ◌∷◌, Option, Some, None, map, ap, ap₂, sym, ◌∙◌, refl}
use Rattle.std.specs.Prelude.{nat_eq, if◌then◌else◌}
use Rattle.mail_slots.specs.Boxes.{Mailbox, Boxes, sent_off, box_ends, ends, come_in, box_begins, begins}
use Rattle.mail_slots.specs.Sides.{own_part, own_side, others_part, others_side, arriving, arrival}
use Rattle.mail_slots.proofs.Sides.{mailbox, read_after, same_heads, same_tails, changed_alike}
use Rattle.world_view.specs.Mail.{left_boxes, switched_boxes}
use Rattle.hart_machine.specs.HartMachine.{waiting_part, waiting}

-- ---- what is left where a domain's own side alone changes

waiting_of_others : (d : ℕ) (boxes : Boxes) → waiting (others_side d boxes) ≡ waiting boxes
unfolding waiting others_side
waiting_of_others d boxes = read_after waiting_part waiting_part (others_part d) (λ b. refl) boxes

pub waiting_still : (d : ℕ) (later boxes : Boxes) → others_side d later ≡ others_side d boxes
    → waiting later ≡ waiting boxes
waiting_still d later boxes same = sym (waiting_of_others d later) ∙ ap waiting same ∙ waiting_of_others d boxes

-- ---- as a slot ends

-- a reading of each box that goes by two others
read_by_two : {A : Type 0} (f g : Mailbox → Mailbox) (read : Mailbox → A) (by : Mailbox → Mailbox → A)
    → ((b : Mailbox) → read b ≡ by (f b) (g b)) → (xs ys : Boxes) → map f xs ≡ map f ys → map g xs ≡ map g ys
    → map read xs ≡ map read ys
read_by_two f g read by is [] [] e q = refl
read_by_two f g read by is [] (y ∷ ys) e q = absurd (cc e)
read_by_two f g read by is (x ∷ xs) [] e q = absurd (cc e)
read_by_two {A} f g read by is (x ∷ xs) (y ∷ ys) e q =
    ap₂ (λ (a : A) (more : List A). a ∷ more)
    (is x
    ∙ ap₂ by (same_heads (f x) (f y) (map f xs) (map f ys) e) (same_heads (g x) (g y) (map g xs) (map g ys) q)
    ∙ sym (is y))
    (read_by_two f g read by is xs ys (same_tails (f x) (f y) (map f xs) (map f ys) e)
    (same_tails (g x) (g y) (map g xs) (map g ys) q))

-- what waits then: by what waited, and by the side of who leaves
abbrev waits_then : ℕ → Mailbox → Mailbox → Mailbox
waits_then d w own = if nat_eq w.from d then sent_off w own.out else w

waits_by : (d from to : ℕ) (out sent inbox : List ℕ) (f : Bool) → nat_eq from d ≡ f
    → let b = mailbox from to out sent inbox in
    waiting_part (if f then sent_off b out else b)
    ≡ (if f then sent_off (waiting_part b) (own_part d b).out else waiting_part b)
waits_by d from to out sent inbox false e = refl
waits_by d from to [] sent inbox true e = rw e refl
waits_by d from to (word ∷ words) sent inbox true e = rw e refl

waits_so : (d : ℕ) (b : Mailbox) → waiting_part (box_ends d b) ≡ waits_then d (waiting_part b) (own_part d b)
waits_so d b = waits_by d b.from b.to b.out b.sent b.inbox (nat_eq b.from d) refl

ended_alike : (d : ℕ) (xs ys : Boxes) → waiting xs ≡ waiting ys → own_side d xs ≡ own_side d ys
    → waiting (ends d xs) ≡ waiting (ends d ys)
unfolding waiting own_side ends
ended_alike d xs ys same own =
    read_after waiting_part (λ b. waiting_part (box_ends d b)) (box_ends d) (λ b. refl) xs
    ∙ read_by_two waiting_part (own_part d) (λ b. waiting_part (box_ends d b)) (waits_then d) (waits_so d) xs ys same own
    ∙ sym (read_after waiting_part (λ b. waiting_part (box_ends d b)) (box_ends d) (λ b. refl) ys)

-- equal for who leaves, by its own number: nobody does at the boot
abbrev pub SameLeaving : Option ℕ → Boxes → Boxes → Type 0
SameLeaving None xs ys = Unit {0}
SameLeaving (Some d) xs ys = own_side d xs ≡ own_side d ys

left_alike : (out : Option ℕ) (xs ys : Boxes) → waiting xs ≡ waiting ys → SameLeaving out xs ys
    → waiting (left_boxes out xs) ≡ waiting (left_boxes out ys)
left_alike None xs ys same own = same
left_alike (Some d) xs ys same own = ended_alike d xs ys same own

-- ---- as a slot begins

-- what comes in is among what waits
arrives_waiting : (e : ℕ) (boxes : Boxes) → arrival e (waiting boxes) ≡ arrival e boxes
unfolding arrival waiting
arrives_waiting e boxes = read_after (arriving e) (arriving e) waiting_part (λ b. refl) boxes

-- and it waits no more
abbrev taken : ℕ → Mailbox → Mailbox
taken e w = if nat_eq w.to e then record w { sent = [] } else w

taken_by : (e from to : ℕ) (out sent inbox : List ℕ) (t : Bool)
    → let b = mailbox from to out sent inbox in
    waiting_part (if t then come_in b sent else b) ≡ (if t then record (waiting_part b) { sent = [] } else waiting_part b)
taken_by e from to out sent inbox false = refl
taken_by e from to out [] inbox true = refl
taken_by e from to out (word ∷ words) inbox true = refl

taken_so : (e : ℕ) (b : Mailbox) → waiting_part (box_begins e b) ≡ taken e (waiting_part b)
taken_so e b = taken_by e b.from b.to b.out b.sent b.inbox (nat_eq b.to e)

begun_alike : (e : ℕ) (xs ys : Boxes) → waiting xs ≡ waiting ys → waiting (begins e xs) ≡ waiting (begins e ys)
unfolding waiting begins
begun_alike e xs ys same =
    read_after waiting_part (λ b. taken e (waiting_part b)) (box_begins e) (taken_so e) xs
    ∙ changed_alike waiting_part (taken e) xs ys same
    ∙ sym (read_after waiting_part (λ b. taken e (waiting_part b)) (box_begins e) (taken_so e) ys)

-- ---- a switch

module _ (out : Option ℕ) (xs ys : Boxes) (same : waiting xs ≡ waiting ys) (own : SameLeaving out xs ys) where
  -- the same comes in
  pub comes_alike : (e : ℕ) → arrival e (left_boxes out xs) ≡ arrival e (left_boxes out ys)
  comes_alike e =
      sym (arrives_waiting e (left_boxes out xs)) ∙ ap (arrival e) (left_alike out xs ys same own)
      ∙ arrives_waiting e (left_boxes out ys)

  -- and the same waits
  pub switched_alike : (e : ℕ) → waiting (switched_boxes out e xs) ≡ waiting (switched_boxes out e ys)
  switched_alike e = begun_alike e (left_boxes out xs) (left_boxes out ys) (left_alike out xs ys same own)
