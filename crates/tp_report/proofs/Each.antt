-- Loops that add a text for each item of a list.
use Rattle.std.proofs.Common.{◌≡◌, ℕ, ◌+◌, ◌<◌, ◌≤◌, List, [], ◌∷◌, ◌++◌, length, take, drop, get_or, sym, ap, ◌∙◌, subst}
use Rattle.std.specs.List.{flat_map}
use Rattle.std.proofs.lemmas.List.{take-append-drop, drop_more, take_more, take_all, append-nil}
use Rattle.std.proofs.lemmas.List.Concat.{flat_map-append}
use Rattle.tp_report.specs.Batches.{Holding, Added, CutIn}
use Rattle.tp_report.proofs.Batches.{added_more, cut_between}

flat_map-at : {A : Type 0} (f : A → List ℕ) (xs : List A) (i : ℕ) (d : A) → i < length xs
    → flat_map f xs ≡ flat_map f (take i xs) ++ (f (get_or xs i d) ++ flat_map f (drop (i + 1) xs))
flat_map-at f xs i d h =
    ap (flat_map f) (sym (take-append-drop i xs)) ∙ flat_map-append f (take i xs) (drop i xs)
    ∙ ap (λ ys. flat_map f (take i xs) ++ flat_map f ys) (drop_more xs i d h)

flat_map_more : {A : Type 0} (f : A → List ℕ) (xs : List A) (i : ℕ) (x : A) → i < length xs
    → x ≡ get_or xs i x → flat_map f (take (i + 1) xs) ≡ flat_map f (take i xs) ++ f x
flat_map_more f xs i x h read =
    ap (flat_map f) (take_more xs i x h) ∙ flat_map-append f (take i xs) (get_or xs i x ∷ [])
    ∙ ap (λ z. flat_map f (take i xs) ++ (f z ++ [])) (sym read)
    ∙ ap (λ t. flat_map f (take i xs) ++ t) (append-nil (f x))

-- the step of such a loop, where the item at i was read as x
pub added_each : {A : Type 0} (f : A → List ℕ) (xs : List A) (i : ℕ) (x : A) (old mid new : Holding)
    → i < length xs → x ≡ get_or xs i x → Added old mid (flat_map f (take i xs)) → Added mid new (f x)
    → Added old new (flat_map f (take (i + 1) xs))
added_each f xs i x old mid new h read so_far more =
    subst (Added old new) (sym (flat_map_more f xs i x h read)) (added_more old mid new (flat_map f (take i xs)) (f x) so_far more)

-- the exit of such a loop, where the sink was cut short in the text of the item at i, which was read as x
pub cut_in_each : {A : Type 0} (f : A → List ℕ) (xs : List A) (i : ℕ) (x : A) (old mid new : Holding)
    → i < length xs → x ≡ get_or xs i x → Added old mid (flat_map f (take i xs)) → CutIn mid new (f x) → CutIn old new (flat_map f xs)
cut_in_each f xs i x old mid new h read so_far cut =
    subst (CutIn old new) (sym (flat_map-at f xs i x h)) (cut_between old mid new (flat_map f (take i xs))
    (f (get_or xs i x)) (flat_map f (drop (i + 1) xs)) so_far
    (subst (λ y. CutIn mid new (f y)) read cut))

-- the end of such a loop
pub added_all : {A : Type 0} (f : A → List ℕ) (xs : List A) (i : ℕ) (old mid : Holding) → length xs ≤ i
    → Added old mid (flat_map f (take i xs)) → Added old mid (flat_map f xs)
added_all f xs i old mid h so_far = subst (λ ys. Added old mid (flat_map f ys)) (take_all i xs h) so_far
