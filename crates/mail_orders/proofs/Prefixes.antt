-- What holds after each event of an order, by induction on the events before.
use Rattle.std.proofs.Common.{◌≡◌, ◌++◌, ℕ, List, [], ◌∷◌, sym, ◌∙◌, subst}
use Rattle.std.specs.List.{All}
use Rattle.std.proofs.lemmas.List.{append-nil, append_assoc}
use Rattle.std.proofs.lemmas.List.Elements.{All-nil, All-cons, All-head, All-tail}

module _ (P : ℕ → Type 0) where
  pub all_before : (xs ys : List ℕ) → All P (xs ++ ys) → All P xs
  all_before [] ys all = All-nil P
  all_before (x ∷ xs) ys all =
      All-cons P x xs (All-head P x (xs ++ ys) all) (all_before xs ys (All-tail P x (xs ++ ys) all))

  all_after : (xs ys : List ℕ) → All P (xs ++ ys) → All P ys
  all_after [] ys all = all
  all_after (x ∷ xs) ys all = all_after xs ys (All-tail P x (xs ++ ys) all)

  -- of the one that comes next
  pub holds_next : (xs ys : List ℕ) (y : ℕ) → All P (xs ++ y ∷ ys) → P y
  holds_next xs ys y all = All-head P y ys (all_after xs (y ∷ ys) all)

-- what holds of no events, and stays with each event of the order
module _ (order : List ℕ) (P : List ℕ → Type 0)
    (more : (before later : List ℕ) (h : ℕ) → order ≡ before ++ h ∷ later → P before → P (before ++ h ∷ [])) where
  from : (done rest later : List ℕ) → order ≡ (done ++ rest) ++ later → P done → P (done ++ rest)
  from done [] later split holds = subst P (sym (append-nil done)) holds
  from done (h ∷ rest) later split holds =
      let one = append_assoc done (h ∷ []) rest in
      let whole : order ≡ ((done ++ h ∷ []) ++ rest) ++ later =
      subst (λ (xs : List ℕ). order ≡ xs ++ later) (sym one) split in
      subst P one
      (from (done ++ h ∷ []) rest later whole
      (more done (rest ++ later) h (split ∙ append_assoc done (h ∷ rest) later) holds))

  -- holds after each of its events
  pub each_prefix : P [] → (before later : List ℕ) → order ≡ before ++ later → P before
  each_prefix first before later split = from [] before later split first
