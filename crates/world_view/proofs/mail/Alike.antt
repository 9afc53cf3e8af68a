-- What waits for a domain in boxes that are alike for it: it stays alike as slots end and begin.
use Rattle.std.proofs.Common.{◌≡◌, ◌≢◌, ◌++◌, ℕ, suc, Bool, true, false, eqb, List, [], ◌∷◌, map, Option, Some, None, inl, inr, ap, ap₂, sym, ◌∙◌, refl, eq-eqb, ne_eqb}
use Rattle.std.specs.Prelude.{slice_get, if◌then◌else◌}
use Rattle.std.proofs.lemmas.Bool.{cases_eq}
use Rattle.mail_slots.specs.Boxes.{Mailbox, Boxes, ends, box_begins, begins}
use Rattle.mail_slots.specs.Sides.{Arrival, own_part, own_side, others_part, others_side, arriving, arrival}
use Rattle.mail_slots.specs.Laws.{pair_of, pairs_of}
use Rattle.mail_slots.proofs.Sides.{read_after, same_heads, same_tails}
use Rattle.world_view.specs.Mail.{Came, arrivals_in, left_boxes, switched_boxes, came_to}
use Rattle.world_view.proofs.runs.Arrivals.{one_more, none_more}
use Rattle.world_view.proofs.runs.Quiet.{left_pairs}
use Rattle.world_view.proofs.mail.Moves.{some_or_none, box_left, left_off, left_waiting, left_to, left_other, begins_box}

-- ---- one box

arriving_own : (e : ℕ) (b : Mailbox) → b.to ≡ e → arriving e b ≡ b.sent
arriving_own e b is = ap (λ (t : Bool). if t then b.sent else []) (eq-eqb b.to e is)

arriving_other : (e : ℕ) (b : Mailbox) → b.to ≢ e → arriving e b ≡ []
arriving_other e b other = ap (λ (t : Bool). if t then b.sent else []) (ne_eqb b.to e other)

nothing_if : (t : Bool) (words : List ℕ) → words ≡ [] → (if t then words else []) ≡ []
nothing_if true words none = none
nothing_if false words none = refl

-- two boxes of one sender and one receiver, of whose words those for e are the same
record AreAlike (e : ℕ) (x y : Mailbox) : Type 0 where
  from : x.from ≡ y.from
  to : x.to ≡ y.to
  waits : arriving e x ≡ arriving e y

out_own : (f : ℕ) (b : Mailbox) → b.from ≡ f → (own_part f b).out ≡ b.out
out_own f b is = ap (λ (t : Bool). if t then b.out else []) (eq-eqb b.from f is)

module _ (e : ℕ) (x y : Mailbox) (alike : AreAlike e x y) where
  -- their sender leaves, and has put in the same
  own_left : (f : ℕ) → x.from ≡ f → x.to ≡ e → x.out ≡ y.out
      → arriving e (box_left (Some f) x) ≡ arriving e (box_left (Some f) y)
  own_left f from to out =
      let out_x : Some f ≡ Some x.from = ap (λ (n : ℕ). Some n) (sym from) in
      let out_y : Some f ≡ Some y.from = ap (λ (n : ℕ). Some n) (sym from ∙ alike.from) in
      let to_y = sym alike.to ∙ to in
      let sent = sym (arriving_own e x to) ∙ alike.waits ∙ arriving_own e y to_y in
      let left_x = arriving_own e (box_left (Some f) x) (left_to (Some f) x ∙ to) in
      let left_y = arriving_own e (box_left (Some f) y) (left_to (Some f) y ∙ to_y) in
      elim (some_or_none x.out) [
        | inl some ↦
            left_x ∙ left_off (Some f) x out_x some ∙ out
            ∙ sym (left_y ∙ left_off (Some f) y out_y (λ none. some (out ∙ none)))
        | inr none ↦
            left_x ∙ left_waiting (Some f) x (λ q. none) ∙ sent
            ∙ sym (left_y ∙ left_waiting (Some f) y (λ q. sym out ∙ none))
      ]

  -- someone leaves: if it is their sender, and they are to e, it has put in the same
  alike_left : (f : ℕ) → (pair_of x ≡ (f, e) → own_part f x ≡ own_part f y)
      → arriving e (box_left (Some f) x) ≡ arriving e (box_left (Some f) y)
  alike_left f own = elim (cases_eq x.to e) [
    | inl to ↦ elim (cases_eq x.from f) [
      | inl from ↦
          let same = own (ap₂ (λ (a b : ℕ). (a, b)) from to) in
          own_left f from to
          (sym (out_own f x from) ∙ ap (λ (b : Mailbox). b.out) same ∙ out_own f y (sym alike.from ∙ from))
      | inr other ↦
          ap (arriving e) (left_other f x other) ∙ alike.waits
          ∙ sym (ap (arriving e) (left_other f y (λ q. other (alike.from ∙ q))))
    ]
    | inr other ↦
        arriving_other e (box_left (Some f) x) (λ q. other (sym (left_to (Some f) x) ∙ q))
        ∙ sym (arriving_other e (box_left (Some f) y) (λ q. other (alike.to ∙ sym (left_to (Some f) y) ∙ q)))
  ]

  -- someone enters
  alike_begun : (n : ℕ) → arriving e (box_begins n x) ≡ arriving e (box_begins n y)
  alike_begun n = elim (cases_eq x.to n) [
    | inl to ↦
        let to_y = sym alike.to ∙ to in
        nothing_if (eqb (box_begins n x).to e) (box_begins n x).sent ((begins_box n x).own to).emptied
        ∙ sym (nothing_if (eqb (box_begins n y).to e) (box_begins n y).sent ((begins_box n y).own to_y).emptied)
    | inr other ↦
        ap (arriving e) ((begins_box n x).others other) ∙ alike.waits
        ∙ sym (ap (arriving e) ((begins_box n y).others (λ q. other (alike.to ∙ q))))
  ]

-- ---- all boxes

pair_head : (x y : ℕ × ℕ) (xs ys : List (ℕ × ℕ)) → x ∷ xs ≡ y ∷ ys → x ≡ y
pair_head x y xs ys e = cc e

pair_tail : (x y : ℕ × ℕ) (xs ys : List (ℕ × ℕ)) → x ∷ xs ≡ y ∷ ys → xs ≡ ys
pair_tail x y xs ys e = cc e

words_head : (x y : List ℕ) (xs ys : Arrival) → x ∷ xs ≡ y ∷ ys → x ≡ y
words_head x y xs ys e = cc e

words_tail : (x y : List ℕ) (xs ys : Arrival) → x ∷ xs ≡ y ∷ ys → xs ≡ ys
words_tail x y xs ys e = cc e

both_are : (e : ℕ) (x y : Mailbox) → pair_of x ≡ pair_of y → arriving e x ≡ arriving e y → AreAlike e x y
both_are e x y pair waits =
    record { from = ap (λ (p : ℕ × ℕ). p.0) pair; to = ap (λ (p : ℕ × ℕ). p.1) pair; waits = waits }

-- one of the boxes leads from f to e
abbrev pub HasBox : ℕ → ℕ → Boxes → Type 0
HasBox f e boxes = (a : ℕ) × (slice_get (pairs_of boxes) a ≡ Some (f, e))

module _ (e : ℕ) where
  ends_alike : (f : ℕ) (xs ys : Boxes) → pairs_of xs ≡ pairs_of ys → arrival e xs ≡ arrival e ys
      → (HasBox f e xs → own_side f xs ≡ own_side f ys) → arrival e (ends f xs) ≡ arrival e (ends f ys)
  unfolding pairs_of arrival own_side ends
  ends_alike f [] [] pairs waits own = refl
  ends_alike f [] (y ∷ ys) pairs waits own = absurd (cc pairs)
  ends_alike f (x ∷ xs) [] pairs waits own = absurd (cc pairs)
  ends_alike f (x ∷ xs) (y ∷ ys) pairs waits own =
      ap₂ (λ (ws : List ℕ) (rest : Arrival). ws ∷ rest)
      (alike_left e x y (both_are e x y (pair_head _ _ _ _ pairs) (words_head _ _ _ _ waits)) f
      (λ is. same_heads _ _ _ _ (own (0, ap (λ (p : ℕ × ℕ). Some p) is))))
      (ends_alike f xs ys (pair_tail _ _ _ _ pairs) (words_tail _ _ _ _ waits)
      (λ has. same_tails _ _ _ _ (own (suc has.0, has.1))))

  begins_alike : (n : ℕ) (xs ys : Boxes) → pairs_of xs ≡ pairs_of ys → arrival e xs ≡ arrival e ys
      → arrival e (begins n xs) ≡ arrival e (begins n ys)
  unfolding pairs_of arrival begins
  begins_alike n [] [] pairs waits = refl
  begins_alike n [] (y ∷ ys) pairs waits = absurd (cc pairs)
  begins_alike n (x ∷ xs) [] pairs waits = absurd (cc pairs)
  begins_alike n (x ∷ xs) (y ∷ ys) pairs waits =
      ap₂ (λ (ws : List ℕ) (rest : Arrival). ws ∷ rest)
      (alike_begun e x y (both_are e x y (pair_head _ _ _ _ pairs) (words_head _ _ _ _ waits)) n)
      (begins_alike n xs ys (pair_tail _ _ _ _ pairs) (words_tail _ _ _ _ waits))

  -- a switch: who leaves has put in the same where a box of it leads to e
  pub left_alike : (out : Option ℕ) (xs ys : Boxes) → pairs_of xs ≡ pairs_of ys → arrival e xs ≡ arrival e ys
      → ((f : ℕ) → out ≡ Some f → HasBox f e xs → own_side f xs ≡ own_side f ys)
      → arrival e (left_boxes out xs) ≡ arrival e (left_boxes out ys)
  left_alike None xs ys pairs waits own = waits
  left_alike (Some f) xs ys pairs waits own = ends_alike f xs ys pairs waits (own f refl)

  pub switched_alike : (out : Option ℕ) (n : ℕ) (xs ys : Boxes) → pairs_of xs ≡ pairs_of ys
      → arrival e (left_boxes out xs) ≡ arrival e (left_boxes out ys)
      → arrival e (switched_boxes out n xs) ≡ arrival e (switched_boxes out n ys)
  switched_alike out n xs ys pairs waits =
      begins_alike n (left_boxes out xs) (left_boxes out ys)
      (left_pairs out xs ∙ pairs ∙ sym (left_pairs out ys)) waits

  pub came_alike : (out : Option ℕ) (n : ℕ) (came more : List Came) (xs ys : Boxes)
      → arrivals_in e came ≡ arrivals_in e more
      → arrival e (left_boxes out xs) ≡ arrival e (left_boxes out ys)
      → arrivals_in e (came ++ came_to out n xs ∷ []) ≡ arrivals_in e (more ++ came_to out n ys ∷ [])
  came_alike out n came more xs ys before waits = elim (cases_eq n e) [
    | inl same ↦
        let its : (boxes : Boxes) → arrival n (left_boxes out boxes) ≡ arrival e (left_boxes out boxes) =
        λ boxes. ap (λ (m : ℕ). arrival m (left_boxes out boxes)) same in
        one_more e came (came_to out n xs) same
        ∙ ap₂ (λ (past : List Arrival) (words : Arrival). past ++ words ∷ []) before (its xs ∙ waits ∙ sym (its ys))
        ∙ sym (one_more e more (came_to out n ys) same)
    | inr other ↦ none_more e came (came_to out n xs) other ∙ before ∙ sym (none_more e more (came_to out n ys) other)
  ]

  -- where all but one domain's side stays, what waits does
  pub waits_still : (n : ℕ) (later boxes : Boxes) → others_side n later ≡ others_side n boxes
      → arrival e later ≡ arrival e boxes
  unfolding arrival others_side
  waits_still n later boxes same =
      sym (read_after (arriving e) (arriving e) (others_part n) (λ b. refl) later) ∙ ap (map (arriving e)) same
      ∙ read_after (arriving e) (arriving e) (others_part n) (λ b. refl) boxes
