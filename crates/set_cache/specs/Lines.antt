-- Where the lines of a cache are kept, and how a touch moves them and their marks.
use Rattle.std.specs.Prelude.{◌≡◌, ◌≢◌, ℕ, ◌%◌, ◌+◌, ◌*◌, Bool, true, false, ◌||◌, List, [], ◌∷◌, ◌++◌, length, Option, Some, None, option_map, unwrap_or, is_some, slice_index_or, sum_by}
use Rattle.set_cache.specs.Cache.{way_of, is_dirty, dirty_in}
use Rattle.set_cache.specs.Contents.{KeptSet, Contents, kept_at}
use Rattle.set_cache.specs.declared.Touch.{Touch}
use Rattle.set_cache.specs.declared.KeptLine.{KeptLine}

-- the place of a line, where it is here: its set times the ways, plus its way
abbrev pub place_in : {P : Type 0} → Contents P → ℕ → Option ℕ
place_in contents number =
    let s = number % length contents.table in
    option_map (λ way. s * contents.ways + way) (way_of number (kept_at contents.table s).places)

-- the mark of a line of one set, where it is here: true is dirty
abbrev pub mark_of : List (Option KeptLine) → ℕ → Option Bool
mark_of places number = option_map (λ way. is_dirty (slice_index_or places way None)) (way_of number places)

-- the mark of a line, where it is here
abbrev pub mark_in : {P : Type 0} → Contents P → ℕ → Option Bool
mark_in contents number = mark_of (kept_at contents.table (number % length contents.table)).places number

-- each line that is here is as `Fits` says
abbrev pub AllKept : {P : Type 0} → (ℕ → Type 0) → Contents P → Type 0
AllKept Fits contents = (number : ℕ) → is_some (place_in contents number) ≡ true → Fits number

-- no line has a mark
abbrev pub IsClean : {P : Type 0} → Contents P → Type 0
IsClean contents = (number : ℕ) → mark_in contents number ≢ Some true

-- what the ways of all sets keep, set after set
abbrev pub places_kept : List KeptSet → List (Option KeptLine)
places_kept [] = []
places_kept (kept ∷ table) = kept.places ++ places_kept table

-- how many lines have a mark
abbrev pub dirty_kept : {P : Type 0} → Contents P → ℕ
dirty_kept contents = sum_by (λ kept. dirty_in kept.places) contents.table

-- the places of lines before and after a touch: a line keeps its place until it is the victim,
-- whose place the touched line takes
pub record MovesLines (answer : Touch) (number : ℕ) (before after : ℕ → Option ℕ) : Type 0 where
  pub hit : answer.hit ≡ is_some (before number)
  pub spares : answer.hit ≡ true → answer.victim ≡ None
  pub stays : answer.hit ≡ true → after number ≡ before number
  pub here : is_some (after number) ≡ true
  pub others : (other : ℕ) → other ≢ number → answer.victim ≢ Some other → after other ≡ before other
  pub given_up : (victim : ℕ) → answer.victim ≡ Some victim
      → (before victim ≡ after number) × (after victim ≡ None)

-- the marks of lines before and after a touch: a mark is set by a store to that line alone,
-- goes with its line, and stays otherwise
pub record MovesMarks (answer : Touch) (number : ℕ) (store : Bool) (before after : ℕ → Option Bool)
    : Type 0 where
  pub own : after number ≡ Some (store || unwrap_or (before number) false)
  pub others : (other : ℕ) → other ≢ number → answer.victim ≢ Some other → after other ≡ before other
  pub given_up : (victim : ℕ) → answer.victim ≡ Some victim
      → (before victim ≡ Some answer.dirty_victim) × (after victim ≡ None)
  pub clean : answer.victim ≡ None → answer.dirty_victim ≡ false
