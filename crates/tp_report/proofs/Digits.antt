-- Bytes that are added in hexadecimal, some at a time.
use Rattle.std.proofs.Common.{◌≡◌, ℕ, ◌+◌, ◌/◌, ◌%◌, ◌≤◌, List, [], ◌∷◌, ◌++◌, length, take, drop, refl, sym, ap, ◌∙◌, subst}
use Rattle.std.specs.Prelude.{slice_index}
use Rattle.std.proofs.lemmas.List.{take-append-drop, take_all}
use Rattle.std.proofs.Math.Seq.{take-add}
use Rattle.hex.specs.Hex.{encode_with, encode_lower}
use Rattle.tp_report.specs.Batches.{Holding, Added, CutIn}
use Rattle.tp_report.proofs.Batches.{added_nothing, added_more, cut_between}

encode_with-append : (t xs ys : List ℕ) → encode_with t (xs ++ ys) ≡ encode_with t xs ++ encode_with t ys
unfolding encode_with
encode_with-append t [] ys = refl
encode_with-append t (b ∷ xs) ys = ap (λ rest. slice_index t (b / 16) ∷ slice_index t (b % 16) ∷ rest) (encode_with-append t xs ys)

encode_lower-append : (xs ys : List ℕ) → encode_lower (xs ++ ys) ≡ encode_lower xs ++ encode_lower ys
encode_lower-append xs ys = encode_with-append _ xs ys

-- nothing is added before the loop
pub digits_none : (s : Holding) → Added s s (encode_lower [])
unfolding encode_with
digits_none s = added_nothing s

-- n bytes from place i on, between those before and those after
digits_at : (xs : List ℕ) (i n : ℕ)
    → encode_lower xs
    ≡ encode_lower (take i xs) ++ (encode_lower (take n (drop i xs)) ++ encode_lower (drop n (drop i xs)))
digits_at xs i n =
    ap encode_lower (sym (take-append-drop i xs)) ∙ encode_lower-append (take i xs) (drop i xs)
    ∙ ap (λ ds. encode_lower (take i xs) ++ ds) (ap encode_lower (sym (take-append-drop n (drop i xs)))
    ∙ encode_lower-append (take n (drop i xs)) (drop n (drop i xs)))

digits_next : (xs : List ℕ) (i n j : ℕ) → i + n ≡ j
    → encode_lower (take i xs) ++ encode_lower (take n (drop i xs)) ≡ encode_lower (take j xs)
digits_next xs i n j e =
    sym (encode_lower-append (take i xs) (take n (drop i xs))) ∙ ap encode_lower (sym (take-add i n xs))
    ∙ ap (λ k. encode_lower (take k xs)) e

-- the exit of such a loop
pub digits_fail : (xs : List ℕ) (i n : ℕ) (old mid new : Holding)
    → Added old mid (encode_lower (take i xs)) → CutIn mid new (encode_lower (take n (drop i xs))) → CutIn old new (encode_lower xs)
digits_fail xs i n old mid new before cut =
    subst (CutIn old new) (sym (digits_at xs i n)) (cut_between old mid new (encode_lower (take i xs))
    (encode_lower (take n (drop i xs))) (encode_lower (drop n (drop i xs))) before cut)

-- its step
pub digits_more : (xs : List ℕ) (i n j : ℕ) (old mid new : Holding)
    → i + n ≡ j → Added old mid (encode_lower (take i xs)) → Added mid new (encode_lower (take n (drop i xs)))
    → Added old new (encode_lower (take j xs))
digits_more xs i n j old mid new e before more =
    subst (Added old new) (digits_next xs i n j e)
    (added_more old mid new (encode_lower (take i xs)) (encode_lower (take n (drop i xs))) before more)

-- its end
pub digits_added : (xs : List ℕ) (i : ℕ) (old mid : Holding) → length xs ≤ i
    → Added old mid (encode_lower (take i xs)) → Added old mid (encode_lower xs)
digits_added xs i old mid h = subst (λ ys. Added old mid (encode_lower ys)) (take_all i xs h)
