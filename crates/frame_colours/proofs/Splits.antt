-- What is made of lists of colours: the shares, one after the other, and the pools of two of them.
use Rattle.std.proofs.Common.{◌≡◌, ◌∙◌, sym, ap, ap₂, arith, ℕ, ◌<◌, ◌≤◌, ◌+◌, true, false, List, [], ◌∷◌, ◌++◌, map, length, take, get_or, Result, Ok, Err}
use Rattle.std.specs.Prelude.{IfOk}
use Rattle.std.proofs.lemmas.List.{append-nil, map_push, map_more, take_all}
use Rattle.frame_colours.specs.Colours.{Whole, AreDisjoint, share_of}
use Rattle.frame_colours.specs.FreeList.{FreeList, is_free, all_free}
use Rattle.frame_colours.proofs.Disjoint.{pools_apart}

-- one more item is made
pub made_more : {A B C : Type 0} (h : B → C) (g : A → B) (old new : List C) (xs : List A) (k : ℕ) (x d : A)
    (v : C)
    → k < length xs → x ≡ get_or xs k d → old ≡ map h (map g (take k xs)) → new ≡ old ++ v ∷ [] → v ≡ h (g x)
    → new ≡ map h (map g (take (k + 1) xs))
made_more h g old new xs k x d v below is so_far pushed same =
    pushed ∙ ap₂ (λ vs y. vs ++ y ∷ []) so_far (same ∙ ap (λ y. h (g y)) is)
    ∙ sym (ap (map h) (map_more g xs k d below) ∙ map_push h (map g (take k xs)) (g (get_or xs k d)))

-- all items are made
pub all_made : {A B C : Type 0} (h : B → C) (g : A → B) (made : List C) (xs : List A) (k : ℕ)
    → length xs ≤ k → made ≡ map h (map g (take k xs)) → made ≡ map h (map g xs)
all_made h g made xs k past so_far = so_far ∙ ap (λ ys. map h (map g ys)) (take_all k xs past)

-- nothing is left to come
pub all_yielded : {A : Type 0} (yielded rest : List A) → length rest ≡ 0 → yielded ≡ yielded ++ rest
all_yielded yielded [] none = sym (append-nil yielded)
all_yielded yielded (x ∷ xs) none = absurd (omega (arith, none))

-- no frame is free in both of the pools that two disjoint lists make
pub made_apart : {E : Type 0} (w : Whole) (xs ys : List ℕ) (pools : Result (FreeList × FreeList) E)
    → AreDisjoint w.colours (xs ∷ ys ∷ [])
    → IfOk pools (λ p. p.0 ≡ all_free (share_of w xs)) → IfOk pools (λ p. p.1 ≡ all_free (share_of w ys))
    → IfOk pools (λ p. (f : ℕ) → is_free p.0 f ≡ true → is_free p.1 f ≡ false)
made_apart w xs ys (Ok p) disjoint first second = pools_apart w xs ys p.0 p.1 disjoint first second
made_apart w xs ys (Err e) disjoint first second = tt
