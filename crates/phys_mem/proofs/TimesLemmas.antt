-- How often a slot is in a list after a change.
use Rattle.std.proofs.Common.{arith, ◌≡◌, ◌≢◌, ◌∙◌, ap, sym, refl, ℕ, zero, suc, ◌+◌, ◌<◌, ◌≤◌, Bool, List, [], ◌∷◌, ◌++◌, length, map, if◌then◌else◌, get_or-set_other, length-set}
use Rattle.std.proofs.lemmas.Bool.Decides.{nat_tests}
use Rattle.std.proofs.lemmas.List.Recursion.{is_count_by}
use Rattle.std.specs.List.{count_by}
use Rattle.std.specs.Prelude.{slice_index, slice_set, nat_eq}
use Rattle.phys_mem.specs.Slots.{times, once_made, is_zero_slot}

-- how often it is in a list of one
unfoldable pub one : ℕ → ℕ → ℕ
one slot other = if nat_eq other slot then 1 else 0

pub one-same : (slot other : ℕ) → other ≡ slot → one slot other ≡ 1
unfolding one
one-same slot other same = grind (arith, nat_tests)

pub one-other : (slot other : ℕ) → other ≢ slot → one slot other ≡ 0
unfolding one
one-other slot other apart = grind (arith, nat_tests)

one-most : (slot other : ℕ) → one slot other ≤ 1
unfolding one
one-most slot other = grind (arith, nat_tests)

pub times-first : (slot other : ℕ) (slots : List ℕ)
    → times slot (other ∷ slots) ≡ one slot other + times slot slots
unfolding times one
times-first slot other slots = grind (arith, nat_tests)

pub times-none_in : (slot : ℕ) → times slot [] ≡ 0
unfolding times
times-none_in slot = refl

pub times-set : (slot : ℕ) (slots : List ℕ) (i other : ℕ) → i < length slots
    → times slot (slice_set slots i other) + one slot (slice_index slots i) ≡ times slot slots + one slot other
times-set slot [] i other within = absurd (omega (arith, within))
times-set slot (first ∷ slots) zero other within = omega (arith, times-first slot first slots, times-first slot other slots)
times-set slot (first ∷ slots) (suc i) other within =
    omega (
      arith,
      times-first slot first slots,
      times-first slot first (slice_set slots i other),
      times-set
          slot slots i other (omega arith),
    )

pub times-append : (slot : ℕ) (slots others : List ℕ)
    → times slot (slots ++ others) ≡ times slot slots + times slot others
times-append slot [] others = omega (arith, times-none_in slot)
times-append slot (first ∷ slots) others =
    omega (arith, times-first slot first (slots ++ others), times-first slot first slots, times-append slot slots others)

pub times-last : (slot other : ℕ) (slots : List ℕ)
    → times slot (slots ++ other ∷ []) ≡ times slot slots + one slot other
times-last slot other slots = omega (arith, times-append slot slots (other ∷ []), times-first slot other [], times-none_in slot)

pub times-there : (slot : ℕ) (slots : List ℕ) (i : ℕ) → i < length slots → slice_index slots i ≡ slot
    → 1 ≤ times slot slots
times-there slot slots i within is =
    omega (arith, times-set slot slots i (suc slot) within, one-same slot (slice_index slots i) is, one-other slot (suc slot) (omega arith))

-- what is there once is at one place
pub times-apart : (slot : ℕ) (slots : List ℕ) (i j : ℕ) → times slot slots ≤ 1 → i < length slots
    → j < length slots → j ≢ i
    → slice_index slots i ≡ slot → slice_index slots j ≢ slot
times-apart slot slots i j once within within' apart is is' =
    let rest : List ℕ = slice_set slots i (suc slot) in
    let left : times slot rest ≡ 0 =
    omega (
      arith,
      once,
      times-set slot slots i (suc slot) within,
      one-same slot (slice_index slots i) is,
      one-other slot (suc slot) (omega arith),
    )
    in
    let size : length rest ≡ length slots = length-set slots i (suc slot) in
    let there : 1 ≤ times slot rest =
    times-there slot rest j (omega (arith, size, within')) (get_or-set_other slots i j (suc slot) 0 apart ∙ is')
    in
    omega (arith, left, there)

pub times-none : (slot : ℕ) (slots : List ℕ) (i : ℕ) → times slot slots ≡ 0 → i < length slots
    → slice_index slots i ≢ slot
times-none slot slots i none within is = omega (arith, none, times-there slot slots i within is)

-- how many marks are set
set_marks : List Bool → ℕ
set_marks [] = 0
set_marks (mark ∷ marks) = if mark then 1 + set_marks marks else set_marks marks

set_marks-zero_slots : (slots : List ℕ) → set_marks (map is_zero_slot slots) ≡ times 0 slots
unfolding times set_marks
set_marks-zero_slots [] = refl
set_marks-zero_slots (slot ∷ slots) =
    ap (λ (n : ℕ). if is_zero_slot slot then 1 + n else n) (set_marks-zero_slots slots)

pub count-zero_slots : (slots : List ℕ) → count_by (λ mark. mark) (map is_zero_slot slots) ≡ times 0 slots
unfolding set_marks
count-zero_slots slots =
    sym (is_count_by set_marks (λ mark. mark) refl (λ mark marks. refl) (map is_zero_slot slots)) ∙ set_marks-zero_slots slots

pub once_made-made : (made slot : ℕ) → 1 ≤ once_made made slot → slot < made
once_made-made made slot there = grind (arith, nat_tests)

pub once_made-most : (made slot : ℕ) → once_made made slot ≤ 1
once_made-most made slot = grind (arith, nat_tests)

pub once_made-new : (made : ℕ) → once_made made made ≡ 0
once_made-new made = grind (arith, nat_tests)

-- one slot more was made
pub once_made-more : (made slot : ℕ) → once_made (made + 1) slot ≡ once_made made slot + one slot made
unfolding one
once_made-more made slot = grind (arith, nat_tests)

pub times-le-length : (slot : ℕ) (slots : List ℕ) → times slot slots ≤ length slots
times-le-length slot [] = omega (arith, times-none_in slot)
times-le-length slot (first ∷ slots) = omega (arith, times-first slot first slots, one-most slot first, times-le-length slot slots)
