-- The first items of a list that grows.
use Rattle.std.proofs.Common.{◌≡◌, ℕ, ◌+◌, ◌-◌, ◌<◌, ◌≤◌, List, [], ◌∷◌, ◌++◌, length, take, Option, Some, refl, sym, ap, ◌∙◌, arith}
use Rattle.std.specs.List.{slice_get}
use Rattle.std.proofs.lemmas.List.{length-append, length-take, take_all, take-append-le, get_or_at}
use Rattle.std.proofs.lemmas.Option.{slice_get-get_or}
use Rattle.std.specs.Prelude.{IsSome}
use Rattle.kernel_call.specs.Logs.{Log, log_of, IsKept}

pub kept_more : {A : Type 0} (n : ℕ) (kept new all : List A) (x : A) → kept ≡ take n all → length kept < n
    → new ≡ kept ++ x ∷ [] → new ≡ take n (all ++ x ∷ [])
kept_more n kept new all x e h grown =
    let short : length all < n = omega (arith, ap length e, length-take n all) in
    grown ∙ ap (λ xs. xs ++ x ∷ []) (e ∙ take_all n all (omega arith))
    ∙ sym (take_all n (all ++ x ∷ []) (omega (arith, length-append all (x ∷ []))))

pub kept_full : {A : Type 0} (n : ℕ) (kept all : List A) (x : A) → kept ≡ take n all → n ≤ length kept
    → kept ≡ take n (all ++ x ∷ [])
kept_full n kept all x e h = e ∙ sym (take-append-le n all (x ∷ []) (omega (arith, ap length e, length-take n all)))

last_pushed : {A : Type 0} (all : List A) (x : A)
    → slice_get (all ++ x ∷ []) (length (all ++ x ∷ []) - 1) ≡ Some x
last_pushed all x =
    slice_get-get_or (all ++ x ∷ []) _ x (omega (arith, length-append all (x ∷ [])))
    ∙ ap Some (get_or_at all x [] x _ (omega (arith, length-append all (x ∷ []))))

log_is : {A : Type 0} (count : ℕ) (last : Option A) (first all : List A)
    → count ≡ length all → last ≡ slice_get all (length all - 1) → first ≡ take 256 all
    → record { count = count; last = last; first = first } ≡ log_of all
unfolding log_of
log_is count last first all c l f = cc

-- the log of a list with one more item
pub log_of-pushed : {A : Type 0} (old : Log A) (first all : List A) (x : A) → old ≡ log_of all
    → (old.first ≡ take 256 all → first ≡ take 256 (all ++ x ∷ []))
    → record { count = old.count + 1; last = Some x; first = first } ≡ log_of (all ++ x ∷ [])
unfolding log_of
log_of-pushed old first all x is kept =
    let long : old.count ≡ length all = ap (λ l. l.count) is in
    log_is (old.count + 1) (Some x) first (all ++ x ∷ []) (omega (arith, length-append all (x ∷ [])))
    (sym (last_pushed all x)) (kept (ap (λ l. l.first) is))

is_some : {A : Type 0} (all : List A) → 0 < length all → IsSome (slice_get all (length all - 1))
is_some [] h = absurd (omega arith)
is_some (x ∷ xs) h = rw (slice_get-get_or (x ∷ xs) (length (x ∷ xs) - 1) x (omega arith)) refl

pub kept_of : {A : Type 0} (all : List A) → IsKept (log_of all)
unfolding log_of
kept_of all = record { first = length-take 256 all ∙ omega arith; last = is_some all }
