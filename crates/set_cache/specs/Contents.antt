-- What a `SetCache` keeps, and the cache that it stands for.
use Rattle.std.specs.Prelude.{◌≡◌, ℕ, ◌<◌, ◌+◌, ◌*◌, ◌^◌, ◌%◌, Bool, true, List, [], length, Option, None, is_some, slice_index_or, All, refl}
use Rattle.std.specs.Int.{IsPowerOfTwo}
use Rattle.std.specs.Coded.{Coded, code_by, coded×, coded_ℕ, coded_bool, coded_list, coded_option}
use Rattle.set_cache.specs.Rule.{Rule}
use Rattle.set_cache.specs.Cache.{Shape, CacheSet, Sets, SetStep, CacheStep, set_at, fresh_set, is_line}
use Rattle.set_cache.specs.declared.Touch.{Touch}
use Rattle.set_cache.specs.declared.KeptLine.{KeptLine}

-- one set: what each way keeps, and the policy's number
pub record KeptSet : Type 0 where
  pub places : List (Option KeptLine)
  pub state : ℕ

-- the whole cache: the policy, the number of ways, the epoch, which each flush raises, and the sets in order
pub record Contents (P : Type 0) : Type 0 where
  pub policy : P
  pub ways : ℕ
  pub epoch : ℕ
  pub table : List KeptSet

abbrev pub coded_line : Coded KeptLine
coded_line =
    code_by (ℕ × Bool) (coded× coded_ℕ coded_bool)
    (λ h. (h.number, h.dirty)) (λ p. record { number = p.0; dirty = p.1 }) (λ _. refl)

abbrev pub coded_set : Coded KeptSet
coded_set =
    code_by (List (Option KeptLine) × ℕ) (coded× (coded_list (coded_option coded_line)) coded_ℕ)
    (λ k. (k.places, k.state)) (λ p. record { places = p.0; state = p.1 }) (λ _. refl)

abbrev pub coded_contents : {P : Type 0} → Coded P → Coded (Contents P)
coded_contents {P} p =
    code_by (P × (ℕ × (ℕ × List KeptSet))) (coded× p (coded× coded_ℕ (coded× coded_ℕ (coded_list coded_set))))
    (λ c. (c.policy, (c.ways, (c.epoch, c.table))))
    (λ t. record { policy = t.0; ways = t.1.0; epoch = t.1.1.0; table = t.1.1.1 })
    (λ _. refl)

-- a set by its number
abbrev pub kept_at : List KeptSet → ℕ → KeptSet
kept_at table s = slice_index_or table s (record { places = []; state = 0 })

-- the shape of the cache that it stands for, by the policies' rules
abbrev pub shape_of : {P : Type 0} → (P → ℕ → Rule) → Contents P → Shape
shape_of rule contents = record {
  rule = rule contents.policy contents.ways;
  ways = contents.ways;
  count = length contents.table;
}

-- the policy, the ways and the number of sets stay
pub record SameShape {P : Type 0} (old new : Contents P) : Type 0 where
  pub same_policy : new.policy ≡ old.policy
  pub same_ways : new.ways ≡ old.ways
  pub same_sets : length new.table ≡ length old.table

-- a set as it is kept stands for a set of lists
pub record SetStands (stands : ℕ → List ℕ → Type 0) (kept : KeptSet) (set : CacheSet) : Type 0 where
  pub same : set.places ≡ kept.places
  pub listed : stands kept.state set.order

-- a set as it is kept stands for a fresh one
abbrev pub IsFresh : (ℕ → List ℕ → Type 0) → ℕ → KeptSet → Type 0
IsFresh stands ways kept = SetStands stands kept (fresh_set ways)

-- what is kept stands for a table of sets
pub record StandsFor {P : Type 0} (stands : P → ℕ → ℕ → List ℕ → Type 0) (contents : Contents P) (sets : Sets)
    : Type 0 where
  pub each : (s : ℕ) → s < length contents.table
      → SetStands (stands contents.policy contents.ways) (kept_at contents.table s)
      (set_at contents.ways sets s)

-- the answer is the step's, and the set that is kept stands for the one that it leaves
pub record SetSteps (stands : ℕ → List ℕ → Type 0) (answer : Touch) (kept : KeptSet) (step : SetStep)
    : Type 0 where
  pub answered : answer ≡ step.answer
  pub next : SetStands stands kept step.next

-- the answer is the step's, and what is kept stands for the sets that it leaves
pub record CacheSteps {P : Type 0} (stands : P → ℕ → ℕ → List ℕ → Type 0) (answer : Touch)
    (contents : Contents P) (step : CacheStep)
    : Type 0 where
  pub answered : answer ≡ step.answer
  pub next : StandsFor stands contents step.next

-- no two ways keep one line
abbrev pub IsOnce : List (Option KeptLine) → Type 0
IsOnce places = (number i j : ℕ)
    → is_line number (slice_index_or places i None) ≡ true
    → is_line number (slice_index_or places j None) ≡ true → i ≡ j

-- each line stands in the set of its number
abbrev pub IsHome : List KeptSet → Type 0
IsHome table = (s number way : ℕ)
    → is_line number (slice_index_or (kept_at table s).places way None) ≡ true → number % length table ≡ s

-- the ways that keep a line come before those that keep none
abbrev pub AreFirst : List (Option KeptLine) → Type 0
AreFirst places = (way : ℕ) → is_some (slice_index_or places (way + 1) None) ≡ true
    → is_some (slice_index_or places way None) ≡ true

-- what is true of every cache
pub record IsSound {P : Type 0} (takes : P → ℕ → Type 0) (stands : P → ℕ → ℕ → List ℕ → Type 0)
    (contents : Contents P)
    : Type 0 where
  pub taken : takes contents.policy contents.ways
  pub power : IsPowerOfTwo (length contents.table)
  pub small : length contents.table * contents.ways < 2 ^ 32
  pub full : All (λ kept. length kept.places ≡ contents.ways) contents.table
  pub valid : All (λ kept. (list : List ℕ) × stands contents.policy contents.ways kept.state list)
      contents.table
  pub once : All (λ kept. IsOnce kept.places) contents.table
  pub first : All (λ kept. AreFirst kept.places) contents.table
  pub home : IsHome contents.table
