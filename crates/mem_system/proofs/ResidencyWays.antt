-- One set under a touch that is no store: which lines it keeps after it, and that it gives none up where a way is empty.
use Rattle.std.proofs.Common.{◌≡◌, ◌≢◌, ◌∙◌, ◌⊎◌, inl, inr, ℕ, suc, ◌+◌, ◌<◌, ◌≤◌, Bool, true, false, cond, ltb, List, [], ◌∷◌, length, get_or, set, Option, Some, None, is_some, ap, sym, subst, refl, arith, true≢false, get_or-set_same, get_or-set_other}
use Rattle.std.specs.Prelude.{count_by, is_none, position, unwrap_or}
use Rattle.std.specs.List.{position_or_len}
use Rattle.std.proofs.lemmas.Bool.{cases_eq, cases_lt}
use Rattle.std.proofs.lemmas.Bool.Decides.{nat_tests}
use Rattle.std.proofs.lemmas.List.{set_past}
use Rattle.std.proofs.lemmas.List.Quantifiers.{position-Some}
use Rattle.std.proofs.lemmas.List.Sums.{sum_by-cons, sum_by-set, fails_before_first}
use Rattle.set_cache.specs.Rule.{Rule}
use Rattle.set_cache.specs.declared.KeptLine.{KeptLine}
use Rattle.set_cache.specs.Cache.{CacheSet, is_line, way_of, way_for, step_of, step_by}

-- some way keeps the line
abbrev pub Stands : ℕ → List (Option KeptLine) → Type 0
Stands number places = (way : ℕ) × (is_line number (get_or places way None) ≡ true)

-- how many ways keep a line
abbrev pub filled : List (Option KeptLine) → ℕ
filled places = count_by is_some places

-- ---- a write of one way

-- a clean line, as a way keeps it
abbrev clean : ℕ → Option KeptLine
clean number = Some (record { number = number; dirty = false })

is_clean : (number : ℕ) → is_line number (clean number) ≡ true
is_clean number = grind (arith, nat_tests)

only_clean : (number other : ℕ) → is_line other (clean number) ≡ true → other ≡ number
only_clean number other is = grind (arith, nat_tests)

no_line : (number : ℕ) (kept : Option KeptLine) → is_line number kept ≡ true → is_none kept ≡ true → ⊥
no_line number None is none = true≢false (sym is)
no_line number (Some line) is none = true≢false (sym none)

-- what stands after the write stood before it, or is the line itself
only_written : (places : List (Option KeptLine)) (way number other : ℕ)
    → Stands other (set places way (clean number))
    → Stands other places ⊎ (other ≡ number)
only_written places way number other (k, at) =
    elim (cases_lt way (length places)) [
      | inr past ↦ inl (
        k,
        subst (λ (ps : List (Option KeptLine)). is_line other (get_or ps k None) ≡ true)
            (set_past places way (clean number) past) at,
      )
      | inl lt ↦ elim (cases_eq k way) [
        | inl same ↦
            let here : get_or (set places way (clean number)) k None ≡ clean number =
            ap (λ (j : ℕ). get_or (set places way (clean number)) j None) same ∙ get_or-set_same places way (clean number) None lt in
            inr (only_clean number other (subst (λ (kept : Option KeptLine). is_line other kept ≡ true) here at))
        | inr apart ↦ inl (
          k,
          subst (λ (kept : Option KeptLine). is_line other kept ≡ true)
              (get_or-set_other places way k (clean number) None apart) at,
        )
      ]
    ]

-- a line is brought in and none is given up
pub record Grows (number : ℕ) (places next : List (Option KeptLine)) : Type 0 where
  pub here : Stands number next
  pub keeps : (other : ℕ) → Stands other places → Stands other next
  pub room : filled next ≤ filled places + 1

written : (places : List (Option KeptLine)) (way number : ℕ) → position is_none places ≡ Some way
    → Grows number places (set places way (clean number))
written places way number found =
    let (lt, empty, _) = position-Some is_none places way None found in
    let same : get_or (set places way (clean number)) way None ≡ clean number = get_or-set_same places way (clean number) None lt in
    record {
      here = (way, ap (is_line number) same ∙ is_clean number);
      keeps = λ other (k, at).
          let apart : k ≢ way =
          λ e. no_line other (get_or places way None)
          (subst (λ (j : ℕ). is_line other (get_or places j None) ≡ true) e at) empty in
          (k, ap (is_line other) (get_or-set_other places way k (clean number) None apart) ∙ at);
      room =
          let sum = sum_by-set (λ (kept : Option KeptLine). cond (is_some kept) 1 0) places way (clean number) None lt in
          omega (arith, sum);
    }

-- where no way is empty, all are filled
all_filled : (places : List (Option KeptLine))
    → ((way : ℕ) → way < length places → is_none (get_or places way None) ≡ false)
    → length places ≤ filled places
all_filled [] none = omega arith
all_filled (None ∷ places) none = absurd (true≢false (none 0 (omega arith)))
all_filled (Some line ∷ places) none =
    let rest = all_filled places (λ way lt. none (suc way) (omega arith)) in
    omega (arith, rest, sum_by-cons (λ (kept : Option KeptLine). cond (is_some kept) 1 0) (Some line) places)

none_empty : (places : List (Option KeptLine)) → position is_none places ≡ None
    → length places ≤ filled places
none_empty places missing =
    let first : ℕ = position_or_len is_none places in
    elim (cases_lt first (length places)) [
      | inl lt ↦
          let t : ltb first (length places) ≡ true = grind (arith, nat_tests) in
          let e : Some first ≡ None = subst (λ (b : Bool). cond b (Some first) None ≡ None) t missing in
          absurd (cc)
      | inr past ↦ all_filled places (λ way lt. fails_before_first is_none places way None (omega arith))
    ]

-- a way that is empty is taken, whatever the policy would give up
fills : (places : List (Option KeptLine)) (number victim : ℕ) (empty : Option ℕ)
    → position is_none places ≡ empty → filled places < length places
    → Grows number places (set places (unwrap_or empty victim) (clean number))
fills places number victim None missing room = absurd (omega (arith, none_empty places missing))
fills places number victim (Some way) found room = written places way number found

-- ---- a touch, by whether its line is found

step_only : (rule : Rule) (set : CacheSet) (number other : ℕ) (found : Option ℕ)
    → Stands other (step_by rule set number false found).next.places
    → Stands other set.places ⊎ (other ≡ number)
step_only rule set number other (Some way) stands = inl stands
step_only rule set number other None stands = only_written set.places (way_for rule set) number other stands

step_hit : (rule : Rule) (set : CacheSet) (number : ℕ) (found : Option ℕ) → way_of number set.places ≡ found
    → (step_by rule set number false found).answer.hit ≡ true → Stands number set.places
step_hit rule set number (Some way) is hit = (way, (position-Some (is_line number) set.places way None is).1)
step_hit rule set number None is hit = absurd (true≢false (sym hit))

step_grows : (rule : Rule) (set : CacheSet) (number : ℕ) (found : Option ℕ) → way_of number set.places ≡ found
    → filled set.places < length set.places → Grows number set.places (step_by rule set number false found).next.places
step_grows rule set number (Some way) is room = record {
  here = (way, (position-Some (is_line number) set.places way None is).1);
  keeps = λ other stands. stands;
  room = omega arith;
}
step_grows rule set number None is room = fills set.places number (rule.victim set.order) (position is_none set.places) refl room

-- what stands after a touch stood before it, or is the touched line
pub only_touched : (rule : Rule) (set : CacheSet) (number other : ℕ)
    → Stands other (step_of rule set number false).next.places
    → Stands other set.places ⊎ (other ≡ number)
only_touched rule set number other stands = step_only rule set number other (way_of number set.places) stands

-- a hit says that the line stood there
pub hit_stands : (rule : Rule) (set : CacheSet) (number : ℕ)
    → (step_of rule set number false).answer.hit ≡ true → Stands number set.places
hit_stands rule set number hit = step_hit rule set number (way_of number set.places) refl hit

-- where a way is empty the line stands after the touch, and all stay
pub grows : (rule : Rule) (set : CacheSet) (number : ℕ) → filled set.places < length set.places
    → Grows number set.places (step_of rule set number false).next.places
grows rule set number room = step_grows rule set number (way_of number set.places) refl room
