-- Boxes of two runs that are alike one by one: what comes out of them at a switch is, too.
use Rattle.std.proofs.Common.{◌≡◌, ◌≢◌, ◌⊎◌, ℕ, suc, Bool, eq-eqb, ne_eqb, List, [], ◌∷◌, map, Option, Some, None, inl, inr, ap, ap₂, sym, ◌∙◌, refl}
use Rattle.std.specs.Prelude.{slice_get, if◌then◌else◌}
use Rattle.std.proofs.lemmas.Bool.{cases_eq}
use Rattle.std.proofs.lemmas.Option.{same_Some}
use Rattle.mail_slots.specs.Boxes.{Mailbox, Boxes, ends}
use Rattle.mail_slots.specs.Sides.{Arrival, arriving, arrival}
use Rattle.mail_slots.specs.Laws.{pair_of, pairs_of}
use Rattle.mail_slots.proofs.Sides.{read_after}
use Rattle.world_view.specs.Mail.{left_boxes}
use Rattle.world_view.proofs.mail.Moves.{some_or_none, box_left, box_switched, left_off, left_waiting, left_to, switched_own, switched_other}

-- ---- one box

sender_or_not : (out : Option ℕ) (e : ℕ) → (out ≡ Some e) ⊎ (out ≢ Some e)
sender_or_not None e = inr (λ q. absurd (cc q))
sender_or_not (Some d) e = elim (cases_eq d e) [
  | inl same ↦ inl (ap (λ (n : ℕ). Some n) same)
  | inr other ↦ inr (λ q. other (same_Some _ _ q))
]

module _ (out : Option ℕ) (x y : Mailbox) (pair : pair_of x ≡ pair_of y) (put : out ≡ Some x.from → x.out ≡ y.out)
    (sent : x.sent ≡ y.sent) where
  from : (e : ℕ) → out ≡ Some e → e ≡ y.from → out ≡ Some y.from
  from e is same = is ∙ ap (λ (n : ℕ). Some n) same

  same_from : x.from ≡ y.from
  same_from = ap (λ (p : ℕ × ℕ). p.0) pair

  same_to : x.to ≡ y.to
  same_to = ap (λ (p : ℕ × ℕ). p.1) pair

  -- what waits after someone left
  left_sent : (box_left out x).sent ≡ (box_left out y).sent
  left_sent = elim (sender_or_not out x.from) [
    | inl is ↦
        let same = put is in
        elim (some_or_none x.out) [
          | inl some ↦
              left_off out x is some ∙ same ∙ sym (left_off out y (from x.from is same_from) (λ none. some (same ∙ none)))
          | inr none ↦ left_waiting out x (λ q. none) ∙ sent ∙ sym (left_waiting out y (λ q. sym same ∙ none))
        ]
    | inr not ↦
        left_waiting out x (λ q. absurd (not q)) ∙ sent
        ∙ sym (left_waiting out y (λ q. absurd (not (q ∙ ap (λ (n : ℕ). Some n) (sym same_from)))))
  ]

  -- and after someone entered
  pub switched_sent : (d : ℕ) → (box_switched out d x).sent ≡ (box_switched out d y).sent
  switched_sent d = elim (cases_eq d x.to) [
    | inl its ↦ switched_own out d x its ∙ sym (switched_own out d y (its ∙ same_to))
    | inr other ↦
        switched_other out d x other ∙ left_sent ∙ sym (switched_other out d y (λ q. other (q ∙ sym same_to)))
  ]

-- ---- all boxes

module _ (f : ℕ) (out : Option ℕ) where
  -- of two boxes what comes to f is the same
  pub record AreAlike (x y : Mailbox) : Type 0 where
    pub put : x.to ≡ f → out ≡ Some x.from → x.out ≡ y.out
    pub sent : x.to ≡ f → x.sent ≡ y.sent

  abbrev comes : Mailbox → List ℕ
  comes b = arriving f (box_left out b)

  comes_own : (b : Mailbox) → b.to ≡ f → comes b ≡ (box_left out b).sent
  comes_own b is = ap (λ (c : Bool). if c then (box_left out b).sent else []) (eq-eqb (box_left out b).to f (left_to out b ∙ is))

  comes_other : (b : Mailbox) → b.to ≢ f → comes b ≡ []
  comes_other b other =
      ap (λ (c : Bool). if c then (box_left out b).sent else [])
      (ne_eqb (box_left out b).to f (λ q. other (sym (left_to out b) ∙ q)))

  same_comes : (x y : Mailbox) → pair_of x ≡ pair_of y → AreAlike x y → comes x ≡ comes y
  same_comes x y pair alike = elim (cases_eq x.to f) [
    | inl to ↦
        comes_own x to ∙ left_sent out x y pair (alike.put to) (alike.sent to)
        ∙ sym (comes_own y (sym (ap (λ (p : ℕ × ℕ). p.1) pair) ∙ to))
    | inr other ↦ comes_other x other ∙ sym (comes_other y (λ q. other (ap (λ (p : ℕ × ℕ). p.1) pair ∙ q)))
  ]

  same_head : (x y : ℕ × ℕ) (xs ys : List (ℕ × ℕ)) → x ∷ xs ≡ y ∷ ys → x ≡ y
  same_head x y xs ys e = cc e

  same_tail : (x y : ℕ × ℕ) (xs ys : List (ℕ × ℕ)) → x ∷ xs ≡ y ∷ ys → xs ≡ ys
  same_tail x y xs ys e = cc e

  all_come : (xs ys : Boxes) → pairs_of xs ≡ pairs_of ys
      → ((a : ℕ) (x y : Mailbox) → slice_get xs a ≡ Some x → slice_get ys a ≡ Some y → AreAlike x y)
      → map comes xs ≡ map comes ys
  unfolding pairs_of
  all_come [] [] pairs each = refl
  all_come [] (y ∷ ys) pairs each = absurd (cc pairs)
  all_come (x ∷ xs) [] pairs each = absurd (cc pairs)
  all_come (x ∷ xs) (y ∷ ys) pairs each =
      ap₂ (λ (ws : List ℕ) (rest : Arrival). ws ∷ rest)
      (same_comes x y (same_head _ _ _ _ pairs) (each 0 x y refl refl))
      (all_come xs ys (same_tail _ _ _ _ pairs) (λ a b c at at'. each (suc a) b c at at'))

pub left_comes : (f : ℕ) (out : Option ℕ) (boxes : Boxes)
    → arrival f (left_boxes out boxes) ≡ map (λ b. arriving f (box_left out b)) boxes
unfolding arrival ends
left_comes f None boxes = refl
left_comes f (Some d) boxes = read_after (arriving f) (λ b. arriving f (box_left (Some d) b)) (box_left (Some d)) (λ b. refl) boxes

pub left_alike : (f : ℕ) (out : Option ℕ) (xs ys : Boxes) → pairs_of xs ≡ pairs_of ys
    → ((a : ℕ) (x y : Mailbox) → slice_get xs a ≡ Some x → slice_get ys a ≡ Some y → AreAlike f out x y)
    → arrival f (left_boxes out xs) ≡ arrival f (left_boxes out ys)
left_alike f out xs ys pairs each =
    left_comes f out xs ∙ all_come f out xs ys pairs each ∙ sym (left_comes f out ys)
