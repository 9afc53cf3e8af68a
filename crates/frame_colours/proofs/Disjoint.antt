-- Lists of colours that have none in common: the test for it, and the frames of their shares.
use Rattle.std.proofs.Common.{arith, ◌≡◌, ◌≢◌, ◌∙◌, sym, ap, subst, refl, ℕ, zero, suc, ◌<◌, ⊎_elim, inl, inr, Bool, true, false, true≢false, not, ◌&&◌, List, [], ◌∷◌, length, map}
use Rattle.std.specs.Prelude.{nat_lt}
use Rattle.std.specs.List.{list_all}
use Rattle.std.proofs.lemmas.Bool.{cases_lt, cases_eq, ltb-true, false_from_ne_true}
use Rattle.std.proofs.lemmas.List.{get_or-map, get_or_past, length-map}
use Rattle.frame_colours.specs.Colours.{Whole, Share, IsOwn, AreDisjoint, AreApart, are_disjoint, has, colour_of, share_of, share_at, list_at}
use Rattle.frame_colours.specs.FreeList.{FreeList, is_free, all_free}
use Rattle.frame_colours.proofs.Ascending.{has_other}
use Rattle.frame_colours.proofs.Pools.{IsOwn-pool}

-- ---- the test

both : (a b : Bool) → (a && b) ≡ true → (a ≡ true) × (b ≡ true)
both true b h = (refl, h)
both false b h = absurd (true≢false (sym h))

-- what all numbers of a list pass, each that stands in it does
passes : (p : ℕ → Bool) (xs : List ℕ) (n : ℕ) → list_all p xs ≡ true → has xs n ≡ true → p n ≡ true
passes p [] n all there = absurd (true≢false (sym there))
passes p (x ∷ xs) n all there =
    ⊎_elim
    (λ (same : x ≡ n). subst (λ (m : ℕ). p m ≡ true) same (both (p x) (list_all p xs) all).0)
    (λ (other : x ≢ n). passes p xs n (both (p x) (list_all p xs) all).1 (sym (has_other x n xs other) ∙ there))
    (cases_eq x n)

-- and so for lists
passes_at : (p : List ℕ → Bool) (lists : List (List ℕ)) (i n : ℕ) → list_all p lists ≡ true
    → has (list_at lists i) n ≡ true → p (list_at lists i) ≡ true
passes_at p [] i n all there = absurd (true≢false (sym there))
passes_at p (own ∷ lists) zero n all there = (both (p own) (list_all p lists) all).0
passes_at p (own ∷ lists) (suc i) n all there = passes_at p lists i n (both (p own) (list_all p lists) all).1 there

none_of : (a : Bool) → not a ≡ true → a ≡ false
none_of true h = absurd (true≢false (sym h))
none_of false h = refl

-- one more list before those that are disjoint
with_list : (colours : ℕ) (own : List ℕ) (lists : List (List ℕ))
    → list_all (λ c. nat_lt 0 c && nat_lt c colours) own ≡ true
    → list_all (λ other. list_all (λ c. not (has other c)) own) lists ≡ true → AreDisjoint colours lists → AreDisjoint colours (own ∷ lists)
with_list colours own lists good later rest = record { in_range = in_range; no_zero = no_zero; apart = apart }
  where
    ranges : (c : ℕ) → has own c ≡ true → (nat_lt 0 c ≡ true) × (nat_lt c colours ≡ true)
    ranges c there = both (nat_lt 0 c) (nat_lt c colours) (passes (λ c. nat_lt 0 c && nat_lt c colours) own c good there)

    in_range : (i c : ℕ) → has (list_at (own ∷ lists) i) c ≡ true → c < colours
    in_range zero c there = ltb-true c colours (ranges c there).1
    in_range (suc i) c there = rest.in_range i c there

    no_zero : (i : ℕ) → has (list_at (own ∷ lists) i) 0 ≡ false
    no_zero zero = false_from_ne_true (has own 0) (λ there. let some : 0 < 0 = ltb-true 0 0 (ranges 0 there).0 in absurd (omega arith))
    no_zero (suc i) = rest.no_zero i

    of_later : (j c : ℕ) → has own c ≡ true → has (list_at lists j) c ≡ true → ⊥
    of_later j c mine there =
        let none : not (has (list_at lists j) c) ≡ true =
        passes (λ c. not (has (list_at lists j) c)) own c
        (passes_at (λ other. list_all (λ c. not (has other c)) own) lists j c later there) mine in
        true≢false (sym there ∙ none_of (has (list_at lists j) c) none)

    apart : (i j c : ℕ) → i ≢ j → has (list_at (own ∷ lists) i) c ≡ true
        → has (list_at (own ∷ lists) j) c ≡ false
    apart zero zero c other there = absurd (other refl)
    apart zero (suc j) c other there = false_from_ne_true (has (list_at lists j) c) (of_later j c there)
    apart (suc i) zero c other there = false_from_ne_true (has own c) (λ mine. of_later i c mine there)
    apart (suc i) (suc j) c other there = rest.apart i j c (λ same. other (ap suc same)) there

pub disjoint_by_test : (colours : ℕ) (lists : List (List ℕ)) → are_disjoint colours lists ≡ true
    → AreDisjoint colours lists
disjoint_by_test colours [] test = record {
  in_range = λ i c there. absurd (true≢false (sym there));
  no_zero = λ i. refl;
  apart = λ i j c other there. refl;
}
disjoint_by_test colours (own ∷ lists) test =
    let first = both (list_all (λ c. nat_lt 0 c && nat_lt c colours) own) _ test in
    let second = both (list_all (λ other. list_all (λ c. not (has other c)) own) lists) (are_disjoint colours lists) first.1 in
    with_list colours own lists first.0 second.0 (disjoint_by_test colours lists second.1)

-- ---- the shares

-- a frame of share i has one of the colours of list i
coloured : (w : Whole) (lists : List (List ℕ)) (i f : ℕ) → IsOwn (share_at (map (share_of w) lists) i) f
    → has (list_at lists i) (colour_of w.colours f) ≡ true
coloured w lists i f own = elim (cases_lt i (length lists)) [
  | inl within ↦
      let same : share_at (map (share_of w) lists) i ≡ share_of w (list_at lists i) =
      get_or-map (share_of w) lists i [] (record { frames = 0; colours = 0; own = [] }) within in
      (subst (λ (s : Share). IsOwn s f) same own).coloured
  | inr past ↦
      let none : share_at (map (share_of w) lists) i ≡ record { frames = 0; colours = 0; own = [] } =
      get_or_past (map (share_of w) lists) i _ (omega (arith, length-map lists (share_of w))) in
      let below : f < 0 = (subst (λ (s : Share). IsOwn s f) none own).below in absurd (omega arith)
]

colours_of : (w : Whole) (lists : List (List ℕ)) (i f : ℕ) → IsOwn (share_at (map (share_of w) lists) i) f
    → (share_at (map (share_of w) lists) i).colours ≡ w.colours
colours_of w lists i f own = elim (cases_lt i (length lists)) [
  | inl within ↦ ap (λ (s : Share). s.colours) (get_or-map (share_of w) lists i [] (record { frames = 0; colours = 0; own = [] }) within)
  | inr past ↦
      let none : share_at (map (share_of w) lists) i ≡ record { frames = 0; colours = 0; own = [] } =
      get_or_past (map (share_of w) lists) i _ (omega (arith, length-map lists (share_of w))) in
      let below : f < 0 = (subst (λ (s : Share). IsOwn s f) none own).below in absurd (omega arith)
]

pub apart_by_lists : (w : Whole) (lists : List (List ℕ)) → AreDisjoint w.colours lists
    → AreApart (map (share_of w) lists)
apart_by_lists w lists disjoint = record {
  once =
      λ i j f other own too. true≢false (sym (coloured w lists j f too)
      ∙ disjoint.apart i j (colour_of w.colours f) other (coloured w lists i f own));
  no_zero = λ i f own is_zero. let zero_too : colour_of w.colours f ≡ 0 = ap (colour_of_f f) (sym (colours_of w lists i f own)) ∙ is_zero in
      true≢false (sym (coloured w lists i f own) ∙ ap (has (list_at lists i)) zero_too ∙ disjoint.no_zero i);
}
  where
    colour_of_f : ℕ → ℕ → ℕ
    colour_of_f f colours = colour_of colours f

-- no frame is free in the pools of two lists that are disjoint
pub pools_apart : (w : Whole) (xs ys : List ℕ) (first second : FreeList)
    → AreDisjoint w.colours (xs ∷ ys ∷ [])
    → first ≡ all_free (share_of w xs) → second ≡ all_free (share_of w ys) → (f : ℕ) → is_free first f ≡ true → is_free second f ≡ false
pools_apart w xs ys first second disjoint all_first all_second f here = false_from_ne_true (is_free second f) (λ there.
    let of_first = IsOwn-pool (share_of w xs) f (sym (ap (λ (list : FreeList). is_free list f) all_first) ∙ here) in
    let of_second = IsOwn-pool (share_of w ys) f (sym (ap (λ (list : FreeList). is_free list f) all_second) ∙ there) in
    true≢false (sym of_second.coloured ∙ disjoint.apart 0 1 (colour_of w.colours f) (λ e. absurd (omega arith)) of_first.coloured))
