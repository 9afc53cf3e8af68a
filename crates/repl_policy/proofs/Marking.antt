-- The marks as bits of a number, and as the list that it stands for.
use Rattle.std.proofs.Common.{◌≡◌, ◌≢◌, ℕ, zero, suc, ◌+◌, ◌-◌, ◌*◌, ◌%◌, ◌^◌, ◌<◌, ◌≤◌, Bool, true, false, cond, eqb, ◌&&◌, List, [], ◌∷◌, Option, Some, None, unwrap_or, refl, ap, sym, subst, ◌∙◌, arith, inl, inr, w64}
use Rattle.std.specs.Prelude.{bit_or}
use Rattle.std.specs.Int.{bit_at, trailing_ones}
use Rattle.std.proofs.lemmas.Nat.{pow_pos, pow_below, one_shl, or_lt}
use Rattle.std.proofs.Math.Pow.{pow_mono}
use Rattle.std.proofs.lemmas.Nat.Bits.{bit_at_set_same, bit_at_set_other, bit_at_ones, bit_at-pow_same, bit_at-pow_other, bit_at-zero, same_from_bits_below, bit_at-trailing_ones}
use Rattle.std.proofs.lemmas.Bool.{cases_eq, false≢true}
use Rattle.std.proofs.lemmas.Bool.Decides.{nat_tests}
use Rattle.repl_policy.specs.Orders.{has, to_front, least_unlisted}
use Rattle.repl_policy.specs.Marks.{has_all, mark, unmarked, Marks}
use Rattle.repl_policy.proofs.Packing.{has-without_other}
use Rattle.repl_policy.proofs.Newest.{has_front, is_unlisted, all_listed, another}

-- ---- whether every way is listed

abbrev one_if : Bool → ℕ
one_if b = cond b 1 0

one_is_true : (b : Bool) → one_if b ≡ 1 → b ≡ true
one_is_true true e = refl
one_is_true false e = absurd (omega (arith, e))

zero_is_false : (b : Bool) → one_if b ≡ 0 → b ≡ false
zero_is_false true e = absurd (omega (arith, e))
zero_is_false false e = refl

both : (a b : Bool) → (a && b) ≡ true → (a ≡ true) × (b ≡ true)
both true b e = (refl, e)
both false b e = absurd (false≢true e)

all_have : (n way : ℕ) (list : List ℕ) → has_all n list ≡ true → way < n → has list way ≡ true
all_have zero way list all lt = absurd (omega arith)
all_have (suc n) way list all lt =
    let parts = both (has_all n list) (has list n) all in
    elim (cases_eq way n) [
      | inl same ↦ subst (λ (v : ℕ). has list v ≡ true) (sym same) parts.1
      | inr other ↦ all_have n way list parts.0 (omega arith)
    ]

abbrev HasEach : ℕ → List ℕ → Type 0
HasEach n list = (way : ℕ) → way < n → has list way ≡ true

has_each : (n : ℕ) (list : List ℕ) → HasEach n list → has_all n list ≡ true
has_each zero list each = refl
has_each (suc n) list each =
    let rest : has_all n list ≡ true = has_each n list (λ way lt. each way (omega arith)) in
    let last : has list n ≡ true = each n (omega arith) in
    rw (rest, last) refl

-- then the number has a one for each way, and else it has not
module _ (ways state : ℕ) (list : List ℕ) (marks : Marks ways state list) where
  full : has_all ways list ≡ true → state ≡ 2 ^ ways - 1
  full all =
      let pos : 0 < 2 ^ ways = pow_pos ways in
      same_from_bits_below ways state (2 ^ ways - 1) marks.small (omega arith)
      (λ way lt. marks.each way lt ∙ ap one_if (all_have ways way list all lt) ∙ sym (bit_at_ones ways way lt))

  listed_by_bit : (way : ℕ) → way < ways → bit_at state way ≡ 1 → has list way ≡ true
  listed_by_bit way lt one = one_is_true (has list way) (sym (marks.each way lt) ∙ one)

  not_full : has_all ways list ≡ false → state ≢ 2 ^ ways - 1
  not_full some e = false≢true (sym some ∙ has_each ways list (λ way lt. listed_by_bit way lt (one way lt)))
    where
      one : (way : ℕ) → way < ways → bit_at state way ≡ 1
      one way lt = ap (λ (n : ℕ). bit_at n way) e ∙ bit_at_ones ways way lt

-- ---- one more mark, and a mark alone

has-to_front_other : (v way : ℕ) (list : List ℕ) → v ≢ way → has (to_front list way) v ≡ has list v
has-to_front_other v way list n =
    let t : eqb way v ≡ false = grind (arith, nat_tests) in
    rw t (has-without_other v way list n)

-- the mark of a way
abbrev own_mark : ℕ → ℕ
own_mark way = 1 * 2 ^ way % 2 ^ 64

own_is : (way : ℕ) → way ≤ 16 → own_mark way ≡ 2 ^ way
own_is way few = one_shl way 64 (omega arith)

abbrev more_marks : ℕ → ℕ → ℕ
more_marks state way = bit_or state (own_mark way)

module _ (ways way : ℕ) (few : ways ≤ 16) (lt : way < ways) where
  own : own_mark way ≡ 2 ^ way
  own = own_is way (omega arith)

  own_small : own_mark way < 2 ^ ways
  own_small = subst (λ (n : ℕ). n < 2 ^ ways) (sym own) (pow_below way ways lt)

  -- a number with the way's bit, and elsewhere the bits of a list's number
  in_front : (state next : ℕ) (list : List ℕ) → next < 2 ^ ways → Marks ways state list → bit_at next way ≡ 1
      → ((v : ℕ) → v ≢ way → bit_at next v ≡ bit_at state v) → Marks ways next (to_front list way)
  in_front state next list small marks one others = record { small = small; each = each }
    where
      each : (v : ℕ) → v < ways → bit_at next v ≡ one_if (has (to_front list way) v)
      each v below =
          elim (cases_eq v way) [
            | inl same ↦
                let here : bit_at next way ≡ one_if (has (to_front list way) way) = one ∙ ap one_if (sym (has_front way list)) in
                subst (λ (u : ℕ). bit_at next u ≡ one_if (has (to_front list way) u)) (sym same) here
            | inr other ↦ others v other ∙ marks.each v below ∙ ap one_if (sym (has-to_front_other v way list other))
          ]

  more : (state : ℕ) (list : List ℕ) → Marks ways state list
      → Marks ways (more_marks state way) (to_front list way)
  more state list marks =
      in_front state (more_marks state way) list (or_lt ways state (own_mark way) marks.small own_small) marks
      (bit_at_set_same w64 state way (omega arith)) (λ v other. bit_at_set_other w64 state way (omega arith) v other)

  none : Marks ways 0 []
  none = record { small = pow_pos ways; each = λ v below. bit_at-zero v }

  own_bit : bit_at (own_mark way) way ≡ 1
  own_bit = ap (λ (n : ℕ). bit_at n way) own ∙ bit_at-pow_same way

  alone : Marks ways (own_mark way) (way ∷ [])
  alone =
      in_front 0 (own_mark way) [] own_small none own_bit
      (λ v other. ap (λ (n : ℕ). bit_at n v) own ∙ bit_at-pow_other way v other ∙ sym (bit_at-zero v))

  -- ---- the state after a touch or a fill

  marked_by : (marks : ℕ) (list : List ℕ) → Marks ways marks (to_front list way)
      → Marks ways (cond (eqb marks (2 ^ ways - 1)) (own_mark way) marks) (mark ways list way)
  unfolding mark
  marked_by marks list stands = by (has_all ways (to_front list way)) refl
    where
      by : (b : Bool) → has_all ways (to_front list way) ≡ b
          → Marks ways (cond (eqb marks (2 ^ ways - 1)) (own_mark way) marks) (cond b (way ∷ []) (to_front list way))
      by true e =
          let is : marks ≡ 2 ^ ways - 1 = full ways marks (to_front list way) stands e in
          let t : eqb marks (2 ^ ways - 1) ≡ true = grind (arith, nat_tests) in
          rw t alone
      by false e =
          let isnt : marks ≢ 2 ^ ways - 1 = not_full ways marks (to_front list way) stands e in
          let t : eqb marks (2 ^ ways - 1) ≡ false = grind (arith, nat_tests) in
          rw t stands

  pub kept_alone : (state : ℕ) (list : List ℕ) → more_marks state way ≡ own_mark ways - 1
      → Marks ways state list → Marks ways (own_mark way) (mark ways list way)
  kept_alone state list is marks =
      let all : own_mark ways ≡ 2 ^ ways = own_is ways few in
      let t : eqb (more_marks state way) (2 ^ ways - 1) ≡ true = grind (arith, nat_tests) in
      rw t at (marked_by (more_marks state way) list (more state list marks))

  kept : (next : ℕ) (list : List ℕ) → next ≢ own_mark ways - 1
      → Marks ways next (to_front list way) → Marks ways next (mark ways list way)
  kept next list isnt stands =
      let all : own_mark ways ≡ 2 ^ ways = own_is ways few in
      let t : eqb next (2 ^ ways - 1) ≡ false = grind (arith, nat_tests) in
      rw t at (marked_by next list stands)

  pub kept_with : (state : ℕ) (list : List ℕ) → more_marks state way ≢ own_mark ways - 1
      → Marks ways state list → Marks ways (more_marks state way) (mark ways list way)
  kept_with state list isnt marks = kept (more_marks state way) list isnt (more state list marks)

  -- ---- a second touch of the way

  -- where the way has its mark, a touch adds none
  again_more : (state : ℕ) (list : List ℕ) → bit_at state way ≡ 1 → Marks ways state list
      → Marks ways state (to_front list way)
  again_more state list one marks = in_front state state list marks.small marks one (λ v other. refl)

  pub again_with : (state : ℕ) (list : List ℕ) → more_marks state way ≢ own_mark ways - 1
      → Marks ways (more_marks state way) list → Marks ways (more_marks state way) (mark ways list way)
  again_with state list isnt marks =
      kept (more_marks state way) list isnt (again_more (more_marks state way) list (bit_at_set_same w64 state way (omega arith)) marks)

  pub again_alone : (list : List ℕ) → Marks ways (own_mark way) list
      → Marks ways (own_mark way) (mark ways list way)
  again_alone list marks =
      either (eqb (own_mark way) (2 ^ ways - 1)) (marked_by (own_mark way) list (again_more (own_mark way) list own_bit marks))
    where
      either : (b : Bool) → Marks ways (cond b (own_mark way) (own_mark way)) (mark ways list way)
          → Marks ways (own_mark way) (mark ways list way)
      either true h = h
      either false h = h

-- ---- the victim

none_unlisted : (n : ℕ) (list : List ℕ) → HasEach n list → least_unlisted n list ≡ None
none_unlisted zero list each = refl
none_unlisted (suc n) list each =
    let rest : least_unlisted n list ≡ None = none_unlisted n list (λ way lt. each way (omega arith)) in
    let last : has list n ≡ true = each n (omega arith) in
    rw (rest, last) refl

least_is : (n least : ℕ) (list : List ℕ) → least < n → has list least ≡ false → HasEach least list
    → least_unlisted n list ≡ Some least
least_is zero least list lt free before = absurd (omega arith)
least_is (suc n) least list lt free before =
    elim (cases_eq least n) [
      | inl same ↦
          let none : least_unlisted n list ≡ None = none_unlisted n list (λ way lt'. before way (omega arith)) in
          let last : has list n ≡ false = subst (λ (v : ℕ). has list v ≡ false) same free in
          rw (none, last) (ap Some (sym same))
      | inr other ↦
          let found : least_unlisted n list ≡ Some least = least_is n least list (omega arith) free before in
          rw found refl
    ]

module _ (ways state least : ℕ) (list : List ℕ) (few : ways ≤ 16) (is : least ≡ trailing_ones w64 state)
    (marks : Marks ways state list) where
  abbrev IsLowest : ℕ → Type 0
  IsLowest t = (t < 64) × (bit_at state t ≡ 0) × ((i : ℕ) → i < t → bit_at state i ≡ 1)

  lowest : IsLowest least
  lowest =
      let most : 2 ^ ways ≤ 2 ^ 16 = pow_mono few in
      let small : state + 1 < 2 ^ 64 = omega (arith, marks.small) in
      subst IsLowest (sym is) (bit_at-trailing_ones w64 state small)

  marked_before : (way : ℕ) → way < least → way < ways → has list way ≡ true
  marked_before way before lt = listed_by_bit ways state list marks way lt (lowest.2 way before)

  pub unmarked_is : least < ways → least ≡ unmarked ways list
  unfolding unmarked
  unmarked_is lt =
      let free : has list least ≡ false = zero_is_false (has list least) (sym (marks.each least lt) ∙ lowest.1) in
      let found : least_unlisted ways list ≡ Some least =
      least_is ways least list lt free (λ way before. marked_before way before (omega arith)) in
      rw found refl

  pub unmarked_none : ways ≤ least → 0 ≡ unmarked ways list
  unfolding unmarked
  unmarked_none le =
      let none : least_unlisted ways list ≡ None = none_unlisted ways list (λ way lt. marked_before way (omega arith) lt) in
      rw none refl

-- ---- the way touched last is not given up

spared : (ways way : ℕ) (list : List ℕ) → has_all ways list ≡ false → has list way ≡ true
    → unmarked ways list ≢ way
unfolding unmarked
spared ways way list some listed = of (least_unlisted ways list) refl
  where
    of : (least : Option ℕ) → least_unlisted ways list ≡ least → unwrap_or least 0 ≢ way
    of None e = λ _. false≢true (sym some ∙ has_each ways list (λ v lt. all_listed ways v list e lt))
    of (Some w) e = λ same.
        false≢true (sym (is_unlisted ways w list e) ∙ subst (λ (v : ℕ). has list v ≡ true) (sym same) listed)

alone_not_all : (ways way : ℕ) → 2 ≤ ways → has_all ways (way ∷ []) ≡ false
alone_not_all ways way two = of (has_all ways (way ∷ [])) refl
  where
    of : (b : Bool) → has_all ways (way ∷ []) ≡ b → b ≡ false
    of false e = refl
    of true e =
        let v = another ways way two in
        let apart : v.0 ≢ way = v.2 in
        let t : eqb way v.0 ≡ false = grind (arith, nat_tests) in
        let out : has (way ∷ []) v.0 ≡ false = rw t refl in
        absurd (false≢true (sym out ∙ all_have ways v.0 (way ∷ []) e v.1))

pub unmarked_is_another : (ways way : ℕ) (list : List ℕ) → 2 ≤ ways → unmarked ways (mark ways list way) ≢ way
unfolding mark
unmarked_is_another ways way list two = of (has_all ways (to_front list way)) refl
  where
    of : (b : Bool) → has_all ways (to_front list way) ≡ b
        → unmarked ways (cond b (way ∷ []) (to_front list way)) ≢ way
    of true e = spared ways way (way ∷ []) (alone_not_all ways way two) (has_front way [])
    of false e = spared ways way (to_front list way) e (has_front way list)
