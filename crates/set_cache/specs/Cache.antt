-- A set-associative cache as a table of sets, each a list of ways and the policy's list.
use Rattle.std.specs.Prelude.{◌≡◌, ℕ, zero, suc, ◌%◌, ◌+◌, ◌*◌, Bool, true, false, ◌||◌, List, [], ◌∷◌, ◌++◌, map, Option, Some, None, option_map, unwrap_or, position, replicate, slice_set, slice_index_or, count_by, is_none, if◌then◌else◌, ◌==◌}
use Rattle.tp_base.specs.Table.{Table, at, put}
use Rattle.set_cache.specs.Rule.{Rule}
use Rattle.set_cache.specs.declared.Touch.{Touch}
use Rattle.set_cache.specs.declared.KeptLine.{KeptLine}

-- the policy's rule at this number of ways, that number, and the number of sets
pub record Shape : Type 0 where
  pub rule : Rule
  pub ways : ℕ
  pub count : ℕ

-- one set: what each way keeps, and the policy's list
pub record CacheSet : Type 0 where
  pub places : List (Option KeptLine)
  pub order : List ℕ

-- a set with nothing in it
abbrev pub fresh_set : ℕ → CacheSet
fresh_set ways = record { places = replicate ways None; order = [] }

-- the sets that are not fresh
abbrev pub Sets : Type 0
Sets = Table CacheSet

abbrev pub set_at : ℕ → Sets → ℕ → CacheSet
set_at ways sets s = at (fresh_set ways) sets s

-- its places: which line stands in which way, and whether it has a mark; the policy's list is left out
abbrev pub places_at : ℕ → Sets → ℕ → List (Option KeptLine)
places_at ways sets s = (set_at ways sets s).places

-- whether a way keeps this line
abbrev pub is_line : ℕ → Option KeptLine → Bool
is_line number None = false
is_line number (Some line) = line.number == number

-- whether a way keeps a line with a mark
abbrev pub is_dirty : Option KeptLine → Bool
is_dirty None = false
is_dirty (Some line) = line.dirty

-- the way at which a set keeps a line
abbrev pub way_of : ℕ → List (Option KeptLine) → Option ℕ
way_of number places = position (is_line number) places

-- the way that a miss takes: the least empty one, else the victim
abbrev pub way_for : Rule → CacheSet → ℕ
way_for rule set = unwrap_or (position is_none set.places) (rule.victim set.order)

-- what a touch of one set answers and leaves
pub record SetStep : Type 0 where
  pub answer : Touch
  pub next : CacheSet

-- a hit changes the list and, on a store, the mark
abbrev pub hit_at : Rule → CacheSet → ℕ → Bool → ℕ → SetStep
hit_at rule set number store way = record {
  answer = record { hit = true; victim = None; dirty_victim = false };
  next = record {
    places =
        if store then slice_set set.places way (Some (record { number = number; dirty = true }))
        else set.places;
    order = rule.touched set.order way;
  };
}

-- a miss gives up what the way keeps; the line is marked exactly on a store
abbrev pub miss_at : Rule → CacheSet → ℕ → Bool → ℕ → SetStep
miss_at rule set number store way =
    let old = slice_index_or set.places way None in
    record {
      answer =
          record { hit = false; victim = option_map (λ line. line.number) old; dirty_victim = is_dirty old };
      next = record {
        places = slice_set set.places way (Some (record { number = number; dirty = store }));
        order = rule.filled set.order way;
      };
    }

abbrev pub step_by : Rule → CacheSet → ℕ → Bool → Option ℕ → SetStep
step_by rule set number store (Some way) = hit_at rule set number store way
step_by rule set number store None = miss_at rule set number store (way_for rule set)

-- a touch of one set
abbrev pub step_of : Rule → CacheSet → ℕ → Bool → SetStep
step_of rule set number store = step_by rule set number store (way_of number set.places)

-- what a touch of the cache answers and leaves
pub record CacheStep : Type 0 where
  pub answer : Touch
  pub next : Sets

-- a touch of a line, in the set of its number
abbrev pub touch_of : Shape → Sets → ℕ → Bool → CacheStep
touch_of shape sets number store =
    let s = number % shape.count in
    let step = step_of shape.rule (set_at shape.ways sets s) number store in
    record { answer = step.answer; next = put sets s step.next }

-- the place of a line: its set times the ways, plus its way
abbrev pub place_of : Shape → Sets → ℕ → Option ℕ
place_of shape sets number =
    let s = number % shape.count in
    option_map (λ way. s * shape.ways + way) (way_of number (set_at shape.ways sets s).places)

-- how many lines of a set have a mark
abbrev pub dirty_in : List (Option KeptLine) → ℕ
dirty_in places = count_by is_dirty places

-- how many lines of the first sets have a mark
abbrev pub dirty_below : ℕ → Sets → ℕ → ℕ
dirty_below ways sets zero = 0
dirty_below ways sets (suc count) = dirty_below ways sets count + dirty_in (set_at ways sets count).places

-- how many lines have a mark
abbrev pub dirty_of : Shape → Sets → ℕ
dirty_of shape sets = dirty_below shape.ways sets shape.count

-- ---- marks

-- what a way keeps, whose line has a mark then if it passes a test
abbrev pub marked_if : (ℕ → Bool) → Option KeptLine → Option KeptLine
marked_if test None = None
marked_if test (Some line) = Some (record { number = line.number; dirty = line.dirty || test line.number })

-- a set in which this line has a mark, if it is there; the policy's list stays
abbrev pub marked_in : CacheSet → ℕ → CacheSet
marked_in set number = record set { places = map (marked_if (λ n. n == number)) set.places }

-- a cache in which this line has a mark, if it is there
abbrev pub marked_of : Shape → Sets → ℕ → Sets
marked_of shape sets number =
    let s = number % shape.count in
    put sets s (marked_in (set_at shape.ways sets s) number)

-- the line of a way, if it has a mark
abbrev pub dirty_number : Option KeptLine → Option ℕ
dirty_number None = None
dirty_number (Some line) = if line.dirty then Some line.number else None

abbrev pub with_number : Option ℕ → List ℕ → List ℕ
with_number None numbers = numbers
with_number (Some number) numbers = number ∷ numbers

-- the lines that have a mark, in the order of their ways
abbrev pub dirty_numbers : List (Option KeptLine) → List ℕ
dirty_numbers [] = []
dirty_numbers (kept ∷ places) = with_number (dirty_number kept) (dirty_numbers places)

-- what the ways of the first sets keep, set after set
abbrev pub places_below : ℕ → Sets → ℕ → List (Option KeptLine)
places_below ways sets zero = []
places_below ways sets (suc count) = places_below ways sets count ++ (set_at ways sets count).places

-- the lines of a cache that have a mark, in the order of their places
abbrev pub dirty_lines : Shape → Sets → List ℕ
dirty_lines shape sets = dirty_numbers (places_below shape.ways sets shape.count)

-- each line of a cache that has a mark is as `Fits` says
abbrev pub EachDirty : (ℕ → Type 0) → Shape → Sets → Type 0
EachDirty Fits shape sets = (s way : ℕ) (line : KeptLine)
    → slice_index_or (set_at shape.ways sets s).places way None ≡ Some line → line.dirty ≡ true
    → Fits line.number
