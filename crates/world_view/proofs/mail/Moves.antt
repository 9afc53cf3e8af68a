-- What a switch does to a box: the words of who leaves go off, and then those that wait for who enters come in.
use Rattle.std.proofs.Common.{◌≡◌, ◌≢◌, ◌⊎◌, ℕ, List, [], ◌∷◌, Option, Some, None, inl, inr, ap, sym, ◌∙◌, refl}
use Rattle.std.specs.Prelude.{slice_get, option_map}
use Rattle.std.proofs.lemmas.Bool.{cases_eq}
use Rattle.std.proofs.lemmas.Option.{same_Some, slice_get-map}
use Rattle.mail_slots.specs.Boxes.{Mailbox, Boxes, box_ends, ends, box_begins, begins}
use Rattle.mail_slots.specs.Laws.{EndsBox, BeginsBox, pair_of, pairs_of}
use Rattle.mail_slots.proofs.Moves.{end_moves_law, begin_moves_law, pairs_law}
use Rattle.world_view.specs.Mail.{left_boxes, switched_boxes}

-- ---- a box

abbrev pub box_left : Option ℕ → Mailbox → Mailbox
box_left None b = b
box_left (Some d) b = box_ends d b

abbrev pub box_switched : Option ℕ → ℕ → Mailbox → Mailbox
box_switched out d b = box_begins d (box_left out b)

ends_box : (d : ℕ) (b : Mailbox) → EndsBox d b (box_ends d b)
unfolding ends
ends_box d b = end_moves_law d 0 (b ∷ []) b (box_ends d b) refl refl

pub begins_box : (d : ℕ) (b : Mailbox) → BeginsBox d b (box_begins d b)
unfolding begins
begins_box d b = begin_moves_law d 0 (b ∷ []) b (box_begins d b) refl refl

same_pair : (x y : ℕ × ℕ) → x ∷ [] ≡ y ∷ [] → x ≡ y
same_pair x y e = cc e

pair_left : (out : Option ℕ) (b : Mailbox) → pair_of (box_left out b) ≡ pair_of b
unfolding pairs_of ends
pair_left None b = refl
pair_left (Some d) b = same_pair _ _ (pairs_law d (b ∷ [])).ended

pair_begun : (d : ℕ) (b : Mailbox) → pair_of (box_begins d b) ≡ pair_of b
unfolding pairs_of begins
pair_begun d b = same_pair _ _ (pairs_law d (b ∷ [])).begun

-- ---- what its sender put in

-- some words, or none
pub some_or_none : (words : List ℕ) → (words ≢ []) ⊎ (words ≡ [])
some_or_none [] = inr refl
some_or_none (word ∷ words) = inl (λ e. absurd (cc e))

-- it goes off where its sender leaves
pub left_off : (out : Option ℕ) (b : Mailbox) → out ≡ Some b.from → b.out ≢ [] → (box_left out b).sent ≡ b.out
left_off None b is some = absurd (cc is)
left_off (Some d) b is some = ((ends_box d b).own (sym (same_Some _ _ is))).whole some

-- else what waited still waits
pub left_waiting : (out : Option ℕ) (b : Mailbox) → (out ≡ Some b.from → b.out ≡ []) → (box_left out b).sent ≡ b.sent
left_waiting None b none = refl
left_waiting (Some d) b none = elim (cases_eq b.from d) [
  | inl same ↦ ((ends_box d b).own same).none (none (ap (λ (n : ℕ). Some n) (sym same)))
  | inr other ↦ ap (λ (x : Mailbox). x.sent) ((ends_box d b).others other)
]

-- and in a box of another nothing changes
pub left_other : (d : ℕ) (b : Mailbox) → b.from ≢ d → box_left (Some d) b ≡ b
left_other d b other = (ends_box d b).others other

-- who leaves reads nothing
pub left_unread : (out : Option ℕ) (b : Mailbox) → (box_left out b).inbox ≡ b.inbox
left_unread None b = refl
left_unread (Some d) b = elim (cases_eq b.from d) [
  | inl same ↦ ((ends_box d b).own same).unread
  | inr other ↦ ap (λ (x : Mailbox). x.inbox) ((ends_box d b).others other)
]

pub left_to : (out : Option ℕ) (b : Mailbox) → (box_left out b).to ≡ b.to
left_to out b = ap (λ (x : ℕ × ℕ). x.1) (pair_left out b)

-- ---- what waits for who enters

pub switched_to : (out : Option ℕ) (d : ℕ) (b : Mailbox) → (box_switched out d b).to ≡ b.to
switched_to out d b = ap (λ (x : ℕ × ℕ). x.1) (pair_begun d (box_left out b) ∙ pair_left out b)

-- nothing waits for it any more
pub switched_own : (out : Option ℕ) (d : ℕ) (b : Mailbox) → d ≡ b.to → (box_switched out d b).sent ≡ []
switched_own out d b is = ((begins_box d (box_left out b)).own (left_to out b ∙ sym is)).emptied

-- for another it waits still
pub switched_other : (out : Option ℕ) (d : ℕ) (b : Mailbox) → d ≢ b.to
    → (box_switched out d b).sent ≡ (box_left out b).sent
switched_other out d b other =
    ap (λ (x : Mailbox). x.sent) ((begins_box d (box_left out b)).others (λ q. other (sym (sym (left_to out b) ∙ q))))

-- ---- boxes by their numbers

left_none : (o : Option Mailbox) → o ≡ option_map (box_left None) o
left_none None = refl
left_none (Some b) = refl

begun_at : (out : Option ℕ) (d : ℕ) (o : Option Mailbox)
    → option_map (box_begins d) (option_map (box_left out) o) ≡ option_map (box_switched out d) o
begun_at out d None = refl
begun_at out d (Some b) = refl

pub left_at : (out : Option ℕ) (boxes : Boxes) (a : ℕ)
    → slice_get (left_boxes out boxes) a ≡ option_map (box_left out) (slice_get boxes a)
unfolding ends
left_at None boxes a = left_none (slice_get boxes a)
left_at (Some d) boxes a = slice_get-map (box_ends d) boxes a

pub switched_at : (out : Option ℕ) (d : ℕ) (boxes : Boxes) (a : ℕ)
    → slice_get (switched_boxes out d boxes) a ≡ option_map (box_switched out d) (slice_get boxes a)
unfolding begins
switched_at out d boxes a =
    slice_get-map (box_begins d) (left_boxes out boxes) a ∙ ap (option_map (box_begins d)) (left_at out boxes a)
    ∙ begun_at out d (slice_get boxes a)

-- which box a changed one was
pub changed_from : (change : Mailbox → Mailbox) (o : Option Mailbox) (later : Mailbox) → option_map change o ≡ Some later
    → (b : Mailbox) × (o ≡ Some b) × (change b ≡ later)
changed_from change None later is = absurd (cc is)
changed_from change (Some b) later is = (b, refl, same_Some _ _ is)
