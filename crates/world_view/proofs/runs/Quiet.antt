-- Where no box leads to a domain nothing comes to it, and alone it is as where nothing comes.
use Rattle.std.proofs.Common.{◌≡◌, ◌≢◌, ℕ, zero, suc, Bool, true, false, eqb, List, [], ◌∷◌, Option, Some, None, ap, ap₂, sym, ◌∙◌, refl}
use Rattle.std.specs.Prelude.{if◌then◌else◌}
use Rattle.std.specs.List.{All}
use Rattle.std.proofs.lemmas.Bool.{ne_eqb}
use Rattle.std.proofs.lemmas.List.Elements.{All-nil, All-cons, All-head, All-tail}
use Rattle.sched_table.specs.Schedule.{entry_of_slot, slot_end}
use Rattle.image_check.specs.Public.{Public}
use Rattle.image_check.specs.Own.{Own}
use Rattle.mail_slots.specs.Boxes.{Mailbox, Boxes}
use Rattle.mail_slots.specs.Sides.{Arrival, others_side, arriving, arrival, brought, bring}
use Rattle.mail_slots.specs.Laws.{pair_of, pairs_of}
use Rattle.mail_slots.proofs.Moves.{pairs_law}
use Rattle.world_view.specs.Mail.{left_boxes, turns, nth_of}
use Rattle.world_view.specs.Machine.{Local, setting, stretch, alone_enter, alone_in, alone_out, alone_if, alone_mail, alone}

abbrev pub AreNone : Arrival → Type 0
AreNone words = All (λ ws. ws ≡ []) words

-- ---- who a box is from and to

pub left_pairs : (out : Option ℕ) (boxes : Boxes) → pairs_of (left_boxes out boxes) ≡ pairs_of boxes
left_pairs None boxes = refl
left_pairs (Some d) boxes = (pairs_law d boxes).ended

others_pairs : (d : ℕ) (boxes : Boxes) → pairs_of (others_side d boxes) ≡ pairs_of boxes
unfolding pairs_of others_side
others_pairs d [] = refl
others_pairs d (b ∷ boxes) = ap (λ (xs : List (ℕ × ℕ)). pair_of b ∷ xs) (others_pairs d boxes)

-- so they stay where all but one domain's side of the boxes does
pub pairs_still : (d : ℕ) (later boxes : Boxes) → others_side d later ≡ others_side d boxes
    → pairs_of later ≡ pairs_of boxes
pairs_still d later boxes same = sym (others_pairs d later) ∙ ap pairs_of same ∙ others_pairs d boxes

-- ---- nothing that comes

abbrev LeadsElsewhere : ℕ → ℕ × ℕ → Type 0
LeadsElsewhere d box = box.1 ≢ d

pub nothing_arrives : (d : ℕ) (boxes : Boxes) → All (λ box. box.1 ≢ d) (pairs_of boxes) → AreNone (arrival d boxes)
unfolding pairs_of arrival
nothing_arrives d [] none = All-nil (λ (ws : List ℕ). ws ≡ [])
nothing_arrives d (b ∷ boxes) none =
    All-cons (λ (ws : List ℕ). ws ≡ []) (arriving d b) (arrival d boxes)
    (ap (λ (c : Bool). if c then b.sent else []) (ne_eqb b.to d (All-head (LeadsElsewhere d) (pair_of b) (pairs_of boxes) none)))
    (nothing_arrives d boxes (All-tail (LeadsElsewhere d) (pair_of b) (pairs_of boxes) none))

brought_none : (b : Mailbox) (ws : List ℕ) → ws ≡ [] → brought b ws ≡ b
brought_none b ws none = ap (brought b) none

bring_none : (words : Arrival) (boxes : Boxes) → AreNone words → bring words boxes ≡ boxes
unfolding bring
bring_none [] boxes none = refl
bring_none (ws ∷ words) [] none = refl
bring_none (ws ∷ words) (b ∷ boxes) none =
    ap₂ (λ (x : Mailbox) (xs : Boxes). x ∷ xs) (brought_none b ws (All-head (λ (v : List ℕ). v ≡ []) ws words none))
    (bring_none words boxes (All-tail (λ (v : List ℕ). v ≡ []) ws words none))

nth_none : (came : List Arrival) (n : ℕ) → All AreNone came → AreNone (nth_of came n)
nth_none [] n none = All-nil (λ (ws : List ℕ). ws ≡ [])
nth_none (words ∷ came) zero none = All-head AreNone words came none
nth_none (words ∷ came) (suc n) none = nth_none came n (All-tail AreNone words came none)

-- ---- the domain alone

module _ (p : Public) (o : Own) (d : ℕ) where
  pub enter_none : (k : ℕ) (words : Arrival) (s : Local) → AreNone words
      → alone_enter p o k words s ≡ alone_enter p o k [] s
  unfolding alone_enter bring
  enter_none k words s none =
      ap (λ (boxes : Boxes). record (alone_enter p o k [] s) { storage = record s.storage { boxes = boxes } })
      (bring_none words s.storage.boxes none)

  if_none : (b : Bool) (k : ℕ) (words : Arrival) (s : Local) → AreNone words
      → alone_if p o k words s b ≡ alone_if p o k [] s b
  unfolding alone_if alone_in
  if_none true k words s none =
      ap (λ (x : Local). alone_out p.hardware o (stretch (setting p.hardware o true) (slot_end p.schedule k) x))
      (enter_none k words s none)
  if_none false k words s none = refl

  pub alone_quiet : (came : List Arrival) (k : ℕ) → All AreNone came → alone_mail p o d came k ≡ alone p o d k
  unfolding alone_mail
  alone_quiet came zero none = refl
  alone_quiet came (suc k) none =
      let its = eqb (entry_of_slot p.schedule k).domain d in
      let n = turns p.schedule d k in
      if_none its k (nth_of came n) (alone_mail p o d came k) (nth_none came n none)
      ∙ ap (λ (s : Local). alone_if p o k [] s its) (alone_quiet came k none)
      ∙ sym (if_none its k (nth_of [] n) (alone p o d k) (nth_none [] n (All-nil AreNone)))
