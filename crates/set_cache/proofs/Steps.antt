-- Laws of the table of sets alone, for the theorems above.
use Rattle.std.proofs.Common.{◌≡◌, ◌≢◌, ℕ, zero, suc, ◌*◌, ◌≤◌, ◌%◌, Bool, true, false, length, Option, Some, None, refl, ◌∙◌, arith}
use Rattle.std.proofs.Math.ListN.{length-set}
use Rattle.std.proofs.lemmas.List.{length-replicate}
use Rattle.std.proofs.lemmas.List.Sums.{count_by-le-length}
use Rattle.tp_base.specs.Table.{empty, at-put_same, at-put_other, at-put_by, at-empty}
use Rattle.set_cache.specs.Rule.{Rule}
use Rattle.set_cache.specs.Cache.{Shape, CacheSet, Sets, set_at, step_of, step_by, touch_of, fresh_set, way_of, is_dirty, dirty_in, dirty_below, dirty_of}

-- a touch leaves every other set
pub set_at-touch_other : (shape : Shape) (sets : Sets) (number : ℕ) (store : Bool) (s : ℕ)
    → s ≢ number % shape.count
    → set_at shape.ways (touch_of shape sets number store).next s ≡ set_at shape.ways sets s
set_at-touch_other shape sets number store s n =
    at-put_other (fresh_set shape.ways) sets (number % shape.count) s
    (step_of shape.rule (set_at shape.ways sets (number % shape.count)) number store).next n

-- and steps its own
pub set_at-touch_same : (shape : Shape) (sets : Sets) (number : ℕ) (store : Bool)
    → set_at shape.ways (touch_of shape sets number store).next (number % shape.count)
    ≡ (step_of shape.rule (set_at shape.ways sets (number % shape.count)) number store).next
set_at-touch_same shape sets number store =
    at-put_same (fresh_set shape.ways) sets (number % shape.count)
    (step_of shape.rule (set_at shape.ways sets (number % shape.count)) number store).next

length-step_by : (rule : Rule) (set : CacheSet) (number : ℕ) (store : Bool) (found : Option ℕ)
    → length (step_by rule set number store found).next.places ≡ length set.places
length-step_by rule set number true (Some way) = length-set set.places way
    (Some (record { number = number; dirty = true }))
length-step_by rule set number false (Some way) = refl
length-step_by rule set number store None = length-set set.places _
    (Some (record { number = number; dirty = store }))

-- every set has its ways
pub record IsFull (ways : ℕ) (sets : Sets) : Type 0 where
  pub each : (s : ℕ) → length (set_at ways sets s).places ≡ ways

pub IsFull-empty : (ways : ℕ) → IsFull ways empty
IsFull-empty ways = record { each = λ s. rw (at-empty (fresh_set ways) s) (length-replicate ways None) }

pub IsFull-touch : (shape : Shape) (sets : Sets) (number : ℕ) (store : Bool) → IsFull shape.ways sets
    → IsFull shape.ways (touch_of shape sets number store).next
IsFull-touch shape sets number store full =
    let s : ℕ = number % shape.count in
    let set : CacheSet = set_at shape.ways sets s in
    record {
      each = at-put_by (fresh_set shape.ways) sets s (step_of shape.rule set number store).next
          (λ _ (one : CacheSet). length one.places ≡ shape.ways)
          (length-step_by shape.rule set number store (way_of number set.places) ∙ full.each s)
          (λ j _. full.each j);
    }

dirty_below-le : (ways : ℕ) (sets : Sets) (count : ℕ) → IsFull ways sets
    → dirty_below ways sets count ≤ count * ways
dirty_below-le ways sets zero full = omega arith
dirty_below-le ways sets (suc count) full =
    let rest : dirty_below ways sets count ≤ count * ways = dirty_below-le ways sets count full in
    let one : dirty_in (set_at ways sets count).places ≤ length (set_at ways sets count).places =
    count_by-le-length is_dirty (set_at ways sets count).places in
    let all : length (set_at ways sets count).places ≡ ways = full.each count in
    grind arith

-- no more lines have a mark than there are ways
pub dirty_of-le : (shape : Shape) (sets : Sets) → IsFull shape.ways sets
    → dirty_of shape sets ≤ shape.count * shape.ways
dirty_of-le shape sets full = dirty_below-le shape.ways sets shape.count full
