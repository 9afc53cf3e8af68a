-- What the calls of a cache promise, each named once. `takes`, `rule` and `stands` are the policy's members.
use Rattle.std.specs.Prelude.{◌≡◌, ◌≢◌, ℕ, ◌<◌, ◌≤◌, ◌+◌, ◌*◌, ◌%◌, ◌^◌, Bool, true, false, List, length, None, if◌then◌else◌, ◌==◌, Some}
use Rattle.std.specs.Int.{IsPowerOfTwo}
use Rattle.tp_base.specs.Table.{empty}
use Rattle.set_cache.specs.Rule.{Rule}
use Rattle.set_cache.specs.Cache.{Sets, touch_of, marked_of, dirty_of}
use Rattle.set_cache.specs.Contents.{Contents, StandsFor, SameShape, CacheSteps, IsSound, kept_at, shape_of}
use Rattle.set_cache.specs.Packed.{greatest_epoch}
use Rattle.set_cache.specs.Lines.{MovesLines, MovesMarks, place_in, mark_in, dirty_kept}
use Rattle.set_cache.specs.declared.Touch.{Touch}

-- the sizes that a cache can have, by the numbers of ways that its policy takes
pub record IsGeometry (takes : ℕ → Type 0) (sets ways : ℕ) : Type 0 where
  pub taken : takes ways
  pub power : IsPowerOfTwo sets
  pub small : sets * ways < 2 ^ 32

-- a cache of this policy and these sizes, with no line
pub record IsNew {P : Type 0} (takes : P → ℕ → Type 0) (stands : P → ℕ → ℕ → List ℕ → Type 0)
    (policy : P) (sets ways : ℕ) (contents : Contents P) : Type 0 where
  pub same_policy : contents.policy ≡ policy
  pub same_ways : contents.ways ≡ ways
  pub same_sets : length contents.table ≡ sets
  pub sound : IsSound takes stands contents
  pub fresh : StandsFor stands contents empty
  pub none : (number : ℕ) → place_in contents number ≡ None

-- a touch of a line, with what it answers: in the table of sets it is the definition's (`step`)
pub record IsTouch {P : Type 0} (takes : P → ℕ → Type 0) (rule : P → ℕ → Rule)
    (stands : P → ℕ → ℕ → List ℕ → Type 0)
    (answer : Touch) (number : ℕ) (store : Bool) (old new : Contents P) : Type 0 where
  pub shape : SameShape old new
  pub sound : IsSound takes stands new
  pub step : (sets : Sets) → StandsFor stands old sets
      → CacheSteps stands answer new (touch_of (shape_of rule old) sets number store)
  pub other_sets : (s : ℕ) → s ≢ number % length old.table → kept_at new.table s ≡ kept_at old.table s
  pub moves : MovesLines answer number (place_in old) (place_in new)
  pub marks : MovesMarks answer number store (mark_in old) (mark_in new)

-- a touch that is no store, of whose answer only the hit is told
pub record TellsHit {P : Type 0} (takes : P → ℕ → Type 0) (rule : P → ℕ → Rule)
    (stands : P → ℕ → ℕ → List ℕ → Type 0)
    (hit : Bool) (number : ℕ) (old new : Contents P) : Type 0 where
  pub answer : Touch
  pub told : hit ≡ answer.hit
  pub touch : IsTouch takes rule stands answer number false old new

-- the mark of a line that is here is set, and nothing else changes: in the table of sets it is the definition's (`step`)
pub record IsMark {P : Type 0} (takes : P → ℕ → Type 0) (rule : P → ℕ → Rule)
    (stands : P → ℕ → ℕ → List ℕ → Type 0)
    (number : ℕ) (old new : Contents P) : Type 0 where
  pub shape : SameShape old new
  pub sound : IsSound takes stands new
  pub step : (sets : Sets) → StandsFor stands old sets
      → StandsFor stands new (marked_of (shape_of rule old) sets number)
  pub other_sets : (s : ℕ) → s ≢ number % length old.table → kept_at new.table s ≡ kept_at old.table s
  pub states : (s : ℕ) → (kept_at new.table s).state ≡ (kept_at old.table s).state
  pub places : (other : ℕ) → place_in new other ≡ place_in old other
  pub own : mark_in new number ≡ Some true
  pub others : (other : ℕ) → other ≢ number → mark_in new other ≡ mark_in old other

-- a flush, with the number of lines that had a mark
pub record IsFlush {P : Type 0} (takes : P → ℕ → Type 0) (rule : P → ℕ → Rule)
    (stands : P → ℕ → ℕ → List ℕ → Type 0)
    (count : ℕ) (old new : Contents P) : Type 0 where
  pub shape : SameShape old new
  pub was_sound : IsSound takes stands old
  pub sound : IsSound takes stands new
  pub marked : count ≡ dirty_kept old
  pub stands_for : (sets : Sets) → StandsFor stands old sets → count ≡ dirty_of (shape_of rule old) sets
  pub few : count ≤ length old.table * old.ways
  pub fresh : StandsFor stands new empty
  pub none : (number : ℕ) → place_in new number ≡ None

-- how many entries, policy states and epochs a flush writes: all where the epoch is the greatest, else the epoch alone
abbrev pub flush_steps : {P : Type 0} → Contents P → ℕ
flush_steps contents =
    if contents.epoch == greatest_epoch then 1 + length contents.table * (contents.ways + 1) else 1
