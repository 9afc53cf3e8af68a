-- What touches count: of each thing that costs how many there were; and the price of that, which is what they cost.
use Rattle.std.specs.Prelude.{ℕ, ◌+◌, ◌*◌, ◌&&◌, Bool, true, false, not, List, [], ◌∷◌, is_some}
use Rattle.set_cache.specs.declared.Touch.{Touch as Answer}
use Rattle.set_cache.specs.Cache.{Sets, touch_of, place_of, dirty_of}
use Rattle.branch_pred.specs.Guesses.{is_wrong_branch, is_wrong_jump}
use Rattle.cycle_cost.specs.Costs.{CostTable}
use Rattle.mem_system.specs.Hierarchy.{Hierarchy}
use Rattle.mem_system.specs.Cost.{Touch, Fetch, Load, Store, WalkRead, Look, Branch, Jump, EmptyTlb, Flush, Charge, Core, Caches, Passed, Read, WriteBack, is_pinned, below, on_core, touched}

-- how many were answered by the first level, by the second, and by memory
pub record Answered : Type 0 where
  pub first : ℕ
  pub second : ℕ
  pub memory : ℕ

pub record Tally : Type 0 where
  pub fetches : Answered
  pub loads : Answered
  pub stores : Answered
  pub looks_kept : ℕ  -- look-ups of pages that the buffer keeps, whatever their rights
  pub looks_walked : ℕ  -- and of others
  pub reads_second : ℕ  -- entries that walks read, answered by the second level
  pub reads_memory : ℕ  -- and by memory
  pub guesses_right : ℕ  -- branches and jumps whose guess is right, or which nothing guesses
  pub guesses_wrong : ℕ  -- and others: by what is done, by where it goes, or by both
  pub backs_first : ℕ  -- dirty lines that the first level gives up
  pub backs_second : ℕ  -- and that the second does, where lines are written back into it
  pub charged : ℕ  -- cycles that are charged outright
  pub waited : ℕ  -- cycles waited for other harts, which no touch does

-- ---- nothing, and sums

abbrev pub unanswered : Answered
unanswered = record { first = 0; second = 0; memory = 0 }

unfoldable pub none : Tally
none = record {
  fetches = unanswered;
  loads = unanswered;
  stores = unanswered;
  looks_kept = 0;
  looks_walked = 0;
  reads_second = 0;
  reads_memory = 0;
  guesses_right = 0;
  guesses_wrong = 0;
  backs_first = 0;
  backs_second = 0;
  charged = 0;
  waited = 0;
}

abbrev pub both : Answered → Answered → Answered
both a b = record { first = a.first + b.first; second = a.second + b.second; memory = a.memory + b.memory }

unfoldable pub plus : Tally → Tally → Tally
plus a b = record {
  fetches = both a.fetches b.fetches;
  loads = both a.loads b.loads;
  stores = both a.stores b.stores;
  looks_kept = a.looks_kept + b.looks_kept;
  looks_walked = a.looks_walked + b.looks_walked;
  reads_second = a.reads_second + b.reads_second;
  reads_memory = a.reads_memory + b.reads_memory;
  guesses_right = a.guesses_right + b.guesses_right;
  guesses_wrong = a.guesses_wrong + b.guesses_wrong;
  backs_first = a.backs_first + b.backs_first;
  backs_second = a.backs_second + b.backs_second;
  charged = a.charged + b.charged;
  waited = a.waited + b.waited;
}

-- ---- the price

abbrev pub all_of : Answered → ℕ
all_of a = a.first + a.second + a.memory

abbrev pub past_first : Answered → ℕ
past_first a = a.second + a.memory

-- how many reads and stores came to the first level, how many to the second, and how many to memory
abbrev pub at_first : Tally → ℕ
at_first t = all_of t.fetches + all_of t.loads + all_of t.stores

abbrev pub at_second : Tally → ℕ
at_second t = past_first t.fetches + past_first t.loads + past_first t.stores + (t.reads_second + t.reads_memory)

abbrev pub at_memory : Tally → ℕ
at_memory t = t.fetches.memory + t.loads.memory + t.stores.memory + t.reads_memory

-- a right guess is free
unfoldable pub price : CostTable → Tally → ℕ
price c t =
    c.l1 * at_first t + c.l2 * at_second t + c.mem * at_memory t + c.tlb * (t.looks_kept + t.looks_walked)
    + c.mispredict * t.guesses_wrong
    + c.wb * (t.backs_first + t.backs_second)
    + t.charged
    + t.waited

-- ---- on the core

abbrev pub one_if : Bool → ℕ
one_if true = 1
one_if false = 0

-- what the first level doesn't answer is counted where it is answered
abbrev pub by_first : Bool → Answered
by_first hit = record { first = one_if hit; second = 0; memory = 0 }

unfoldable pub one_guess : Bool → Tally
one_guess wrong = record none { guesses_right = one_if (not wrong); guesses_wrong = one_if wrong }

unfoldable pub one_look : Bool → Tally
one_look kept = record none { looks_kept = one_if kept; looks_walked = one_if (not kept) }

-- a load, or a store, that was answered there
unfoldable pub one_access : Bool → Answered → Tally
one_access true there = record none { stores = there }
one_access false there = record none { loads = there }

-- a dirty line that gives way to it is counted with it
unfoldable pub tally_access : Bool → Answer → Tally
tally_access store answer =
    record (one_access store (by_first answer.hit)) { backs_first = one_if answer.dirty_victim }

-- a flush gives up every dirty line, and its own cost is charged
unfoldable pub tally_on_core : Hierarchy → Core → Touch → Tally
tally_on_core h core (Fetch line) =
    record none { fetches = by_first (touch_of h.l1i core.l1i line false).answer.hit }
tally_on_core h core (Load line) = tally_access false (touch_of h.l1d core.l1d line false).answer
tally_on_core h core (Store line) = tally_access true (touch_of h.l1d core.l1d line true).answer
tally_on_core h core (WalkRead line) = none
tally_on_core h core (Look page reads found) = one_look (is_some (place_of h.tlb core.tlb page))
tally_on_core h core (Branch pc taken target) = one_guess (is_wrong_branch core.guesses pc taken target)
tally_on_core h core (Jump pc target) = one_guess (is_wrong_jump core.guesses pc target)
tally_on_core h core EmptyTlb = none
tally_on_core h core Flush = record none { backs_first = dirty_of h.l1d core.l1d; charged = h.costs.flush }
tally_on_core h core (Charge cycles) = record none { charged = cycles }

-- ---- at the second level

-- whose reads come to it; an access is a load or a store
pub data Reader : Type 0 where
  OfFetch : Reader
  OfAccess : Bool → Reader
  OfWalk : Reader

-- a touch has no others than these
abbrev pub reader_of : Touch → Reader
reader_of (Fetch line) = OfFetch
reader_of (Load line) = OfAccess false
reader_of (Store line) = OfAccess true
reader_of _ = OfWalk

abbrev pub by_second : Bool → Answered
by_second hit = record { first = 0; second = one_if hit; memory = one_if (not hit) }

unfoldable pub one_read : Reader → Bool → Tally
one_read OfFetch hit = record none { fetches = by_second hit }
one_read (OfAccess store) hit = one_access store (by_second hit)
one_read OfWalk hit = record none { reads_second = one_if hit; reads_memory = one_if (not hit) }

-- a dirty line gives way to it where lines are written back into this level
unfoldable pub tally_by : Reader → Hierarchy → Answer → Tally
tally_by reader h answer =
    record (one_read reader answer.hit) { backs_second = one_if (h.back && answer.dirty_victim) }

-- a line that is always there counts as a hit
unfoldable pub tally_if : Bool → Reader → Hierarchy → Sets → ℕ → Tally
tally_if true reader h sets line = one_read reader true
tally_if false reader h sets line = tally_by reader h (touch_of h.l2 sets line false).answer

-- what is written back was counted where it was given up
unfoldable pub tally_below : Reader → Hierarchy → Bool → Sets → Passed → Tally
tally_below reader h pinned sets (Read line) = tally_if (is_pinned h pinned line) reader h sets line
tally_below reader h pinned sets (WriteBack line) = none

unfoldable pub tally_below_all : Reader → Hierarchy → Bool → Sets → List Passed → Tally
tally_below_all reader h pinned sets [] = none
tally_below_all reader h pinned sets (one ∷ passed) =
    plus (tally_below reader h pinned sets one)
    (tally_below_all reader h pinned (below h pinned sets one).l2 passed)

-- ---- both

unfoldable pub tally : Hierarchy → Bool → Caches → Touch → Tally
tally h pinned caches touch =
    plus (tally_on_core h caches.core touch)
    (tally_below_all (reader_of touch) h pinned caches.l2 (on_core h caches.core touch).passed)

-- one after the other, each from the caches that those before it leave
unfoldable pub tally_all : Hierarchy → Bool → Caches → List Touch → Tally
tally_all h pinned caches [] = none
tally_all h pinned caches (t ∷ ts) =
    plus (tally h pinned caches t) (tally_all h pinned (touched h pinned caches t).caches ts)
