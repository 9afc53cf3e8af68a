-- Ascending lists of numbers, and what stands in them.
use Rattle.std.proofs.Common.{arith, ◌≡◌, ◌≢◌, ◌∙◌, sym, subst, refl, ℕ, zero, suc, ◌+◌, ◌<◌, ◌≤◌, ⊎_elim, true, false, true≢false, ne_eqb, eq-eqb, List, [], ◌∷◌, length, get_or}
use Rattle.std.specs.Prelude.{⊤}
use Rattle.std.specs.List.Sorted.{IsStrictlyIncreasing}
use Rattle.std.proofs.lemmas.Bool.{cases_lt, cases_eq}
use Rattle.frame_colours.specs.Colours.{has}

-- each number is above those before it, and the first at least b
unfoldable pub Ascends : ℕ → List ℕ → Type 0
Ascends b [] = ⊤
Ascends b (x ∷ xs) = (b ≤ x) × Ascends (suc x) xs

pub Ascends-from_increasing : (xs : List ℕ) (b : ℕ) → IsStrictlyIncreasing xs
    → (0 < length xs → b ≤ get_or xs 0 0) → Ascends b xs
unfolding Ascends
Ascends-from_increasing [] b up first = tt
Ascends-from_increasing (x ∷ xs) b up first =
    (first (omega arith), Ascends-from_increasing xs (suc x) rest (λ some. let more = up 0 (omega arith) in omega arith))
  where
    rest : IsStrictlyIncreasing xs
    rest k within = let e : suc k + 1 ≡ suc (k + 1) = omega arith in
        subst (λ (n : ℕ). get_or xs k 0 < get_or (x ∷ xs) n 0) e (up (suc k) (omega arith))

pub increasing_from_Ascends : (xs : List ℕ) (b : ℕ) → Ascends b xs → IsStrictlyIncreasing xs
unfolding Ascends
increasing_from_Ascends [] b up = λ k within. absurd (omega arith)
increasing_from_Ascends (x ∷ []) b up = λ k within. absurd (omega arith)
increasing_from_Ascends (x ∷ y ∷ xs) b up = at_place (increasing_from_Ascends (y ∷ xs) (suc x) up.1)
  where
    at_place : IsStrictlyIncreasing (y ∷ xs) → IsStrictlyIncreasing (x ∷ y ∷ xs)
    at_place rest zero within = let more : suc x ≤ y = up.1.0 in omega arith
    at_place rest (suc k) within = let e : suc (k + 1) ≡ suc k + 1 = omega arith in
        subst (λ (n : ℕ). get_or (y ∷ xs) k 0 < get_or (x ∷ y ∷ xs) n 0) e (rest k (omega arith))

pub Ascends-less : (xs : List ℕ) (b c : ℕ) → c ≤ b → Ascends b xs → Ascends c xs
unfolding Ascends
Ascends-less [] b c less up = tt
Ascends-less (x ∷ xs) b c less up = let first : b ≤ x = up.0 in (omega arith, up.1)

-- ---- what stands in a list

pub has_head : (x : ℕ) (xs : List ℕ) → has (x ∷ xs) x ≡ true
has_head x xs = rw (eq-eqb x x refl) refl

-- of another number than the head
pub has_other : (x f : ℕ) (xs : List ℕ) → x ≢ f → has (x ∷ xs) f ≡ has xs f
has_other x f xs other = rw (ne_eqb x f other) refl

pub has_at : (xs : List ℕ) (n : ℕ) → n < length xs → has xs (get_or xs n 0) ≡ true
has_at [] n within = absurd (omega arith)
has_at (x ∷ xs) zero within = has_head x xs
has_at (x ∷ xs) (suc n) within =
    ⊎_elim
    (λ (same : x ≡ get_or xs n 0). subst (λ (g : ℕ). has (x ∷ xs) g ≡ true) same (has_head x xs))
    (λ (other : x ≢ get_or xs n 0). has_other x (get_or xs n 0) xs other ∙ has_at xs n (omega arith))
    (cases_eq x (get_or xs n 0))

pub has_below : (xs : List ℕ) (b f : ℕ) → Ascends b xs → f < b → has xs f ≡ false
unfolding Ascends
has_below [] b f up below = refl
has_below (x ∷ xs) b f up below =
    let first : b ≤ x = up.0 in
    let other : x ≢ f = omega arith in
    has_other x f xs other ∙ has_below xs (suc x) f up.1 (omega arith)

-- nothing below the head stands in an ascending list
pub head_is_least : (xs : List ℕ) (b f : ℕ) → Ascends b xs → has xs f ≡ true → b ≤ f
head_is_least xs b f up there =
    ⊎_elim (λ below. absurd (true≢false (sym there ∙ has_below xs b f up below))) (λ above. above) (cases_lt f b)

-- an ascending list is no longer than one that has all its numbers
pub length_within : (ys xs : List ℕ) (a b : ℕ) → Ascends a ys → Ascends b xs
    → ((f : ℕ) → has xs f ≡ true → has ys f ≡ true) → length xs ≤ length ys
unfolding Ascends
length_within ys [] a b above up within = omega arith
length_within [] (x ∷ xs) a b above up within = absurd (true≢false (sym (within x (has_head x xs))))
length_within (y ∷ ys) (x ∷ xs) a b above up within =
    ⊎_elim
    (λ (same : y ≡ x).
    let fewer : length xs ≤ length ys =
    length_within ys xs (suc y) (suc x) above.1 up.1 (λ f there. after_head f same there) in
    omega arith)
    (λ (apart : y ≢ x).
    let fewer : length (x ∷ xs) ≤ length ys =
    length_within ys (x ∷ xs) (suc y) b above.1 up (λ f there. not_head f apart there) in
    omega arith)
    (cases_eq y x)
  where
    after_head : (f : ℕ) → y ≡ x → has xs f ≡ true → has ys f ≡ true
    after_head f same there =
        let past : suc x ≤ f = head_is_least xs (suc x) f up.1 there in
        let other : x ≢ f = omega arith in
        let apart : y ≢ f = omega arith in
        sym (has_other y f ys apart) ∙ within f (has_other x f xs other ∙ there)

    not_head : (f : ℕ) → y ≢ x → has (x ∷ xs) f ≡ true → has ys f ≡ true
    not_head f apart there =
        let first : has ys x ≡ true = sym (has_other y x ys apart) ∙ within x (has_head x xs) in
        let past : suc y ≤ x = head_is_least ys (suc y) x above.1 first in
        let least : x ≤ f = head_is_least (x ∷ xs) x f (omega arith, up.1) there in
        let other : y ≢ f = omega arith in
        sym (has_other y f ys other) ∙ within f there
