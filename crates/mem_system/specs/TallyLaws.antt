-- The laws of tallies, each as a type; they are the clauses of the functions of `tallies`: their price, and what each
-- touch counts, by where its line is.
use Rattle.std.specs.Prelude.{◌≡◌, ℕ, ◌+◌, ◌<◌, ◌≤◌, ◌&&◌, ◌||◌, Bool, true, false, List, [], ◌∷◌, ◌++◌, length, count_by, sum_by}
use Rattle.set_cache.specs.Cache.{Sets, touch_of, dirty_of}
use Rattle.set_cache.specs.declared.Touch.{Touch as Answer}
use Rattle.branch_pred.specs.Guesses.{is_wrong_branch, is_wrong_jump}
use Rattle.cycle_cost.specs.Costs.{CostTable}
use Rattle.mem_system.specs.Hierarchy.{Hierarchy}
use Rattle.mem_system.specs.Cost.{Touch, Fetch, Load, Store, WalkRead, Look, Branch, Jump, EmptyTlb, Flush, Charge, Caches, given_up, is_pinned, below_all, touched, touched_all}
use Rattle.mem_system.specs.TouchLaws.{holds}
use Rattle.mem_system.specs.Sharing.{IsSharing, MayTouchAll, BesideCaches}
use Rattle.mem_system.specs.Tally.{Answered, Tally, none, plus, price, all_of, at_memory, one_if, tally, tally_all}

-- ---- the price

-- a touch costs the price of what it counts
abbrev pub PriceLaw : Type 0
PriceLaw = (h : Hierarchy) (pinned : Bool) (c : Caches) (t : Touch)
    → (touched h pinned c t).cost ≡ price h.costs (tally h pinned c t)

-- and so do touches one after the other
abbrev pub PriceOfAllLaw : Type 0
PriceOfAllLaw = (h : Hierarchy) (pinned : Bool) (c : Caches) (ts : List Touch)
    → (touched_all h pinned c ts).cost ≡ price h.costs (tally_all h pinned c ts)

-- what counts nothing is free, and the price of a sum is the sum of the prices
abbrev pub PriceOfNoneLaw : Type 0
PriceOfNoneLaw = (costs : CostTable) → price costs none ≡ 0

abbrev pub PriceOfSumLaw : Type 0
PriceOfSumLaw = (costs : CostTable) (a b : Tally) → price costs (plus a b) ≡ price costs a + price costs b

-- touches after touches count the sum
abbrev pub TallyAppendLaw : Type 0
TallyAppendLaw = (h : Hierarchy) (pinned : Bool) (c : Caches) (ts us : List Touch)
    → tally_all h pinned c (ts ++ us)
    ≡ plus (tally_all h pinned c ts) (tally_all h pinned (touched_all h pinned c ts).caches us)

-- one by itself counts what it counts
abbrev pub TallyOfOneLaw : Type 0
TallyOfOneLaw = (h : Hierarchy) (pinned : Bool) (c : Caches) (t : Touch)
    → tally_all h pinned c (t ∷ []) ≡ tally h pinned c t

-- ---- where a line is

abbrev pub in_first : Answered
in_first = record { first = 1; second = 0; memory = 0 }

abbrev pub in_second : Answered
in_second = record { first = 0; second = 1; memory = 0 }

abbrev pub in_memory : Answered
in_memory = record { first = 0; second = 0; memory = 1 }

-- the second level has it: it holds it, or the line is always there
abbrev pub has_line : Hierarchy → Bool → Sets → ℕ → Bool
has_line h pinned sets line = is_pinned h pinned line || holds h.l2 sets line

-- a line that it hasn't takes the place of a dirty one there
abbrev pub gives_back : Hierarchy → Sets → ℕ → Bool
gives_back h sets line = h.back && (touch_of h.l2 sets line false).answer.dirty_victim

-- ---- one touch

-- a fetch is answered once, and nothing else is counted, but that a line from memory may take a dirty one's place
pub record FetchCounts (h : Hierarchy) (pinned : Bool) (c : Caches) (line : ℕ) (t : Tally) : Type 0 where
  pub first : holds h.l1i c.core.l1i line ≡ true → t ≡ record none { fetches = in_first }
  pub second : holds h.l1i c.core.l1i line ≡ false → has_line h pinned c.l2 line ≡ true
      → t ≡ record none { fetches = in_second }
  pub memory : holds h.l1i c.core.l1i line ≡ false → has_line h pinned c.l2 line ≡ false
      → t ≡ record none { fetches = in_memory; backs_second = one_if (gives_back h c.l2 line) }

-- a load that was answered there, and a store
abbrev pub as_load : Answered → Tally
as_load there = record none { loads = there }

abbrev pub as_store : Answered → Tally
as_store there = record none { stores = there }

-- what the first level says to it, and the second level once the dirty line that gives way to it is written back
abbrev pub answer_of : Hierarchy → Caches → Bool → ℕ → Answer
answer_of h c store line = (touch_of h.l1d c.core.l1d line store).answer

abbrev pub after_back : Hierarchy → Bool → Caches → Answer → Sets
after_back h pinned c answer = (below_all h pinned c.l2 (given_up answer.victim answer.dirty_victim)).l2

-- so is a load or a store; one that misses a level may take the place of a dirty line there
pub record AccessCounts (counted : Answered → Tally) (h : Hierarchy) (pinned : Bool) (c : Caches) (store : Bool)
    (line : ℕ) (t : Tally) : Type 0 where
  pub first : holds h.l1d c.core.l1d line ≡ true → t ≡ counted in_first
  pub second : holds h.l1d c.core.l1d line ≡ false → has_line h pinned c.l2 line ≡ true
      → t ≡ record (counted in_second) {
        backs_first = one_if (answer_of h c store line).dirty_victim;
      }
  pub memory : holds h.l1d c.core.l1d line ≡ false → has_line h pinned c.l2 line ≡ false
      → t ≡ record (counted in_memory) {
        backs_first = one_if (answer_of h c store line).dirty_victim;
        backs_second = one_if (gives_back h (after_back h pinned c (answer_of h c store line)) line);
      }

-- a walk's read by itself
pub record ReadCounts (h : Hierarchy) (pinned : Bool) (c : Caches) (line : ℕ) (t : Tally) : Type 0 where
  pub second : has_line h pinned c.l2 line ≡ true → t ≡ record none { reads_second = 1 }
  pub memory : has_line h pinned c.l2 line ≡ false
      → t ≡ record none { reads_memory = 1; backs_second = one_if (gives_back h c.l2 line) }

-- so many entries are read, of the second level or of memory; some of the latter take the place of a dirty line
pub record WalkCounts (h : Hierarchy) (reads : ℕ) (t : Tally) : Type 0 where
  pub entries : t.reads_second + t.reads_memory ≡ reads
  pub backs : t.backs_second ≤ t.reads_memory
  pub off : h.back ≡ false → t.backs_second ≡ 0
  pub nothing_else : t ≡ record none {
    looks_walked = 1;
    reads_second = t.reads_second;
    reads_memory = t.reads_memory;
    backs_second = t.backs_second;
  }

-- a look-up reads nothing where the buffer holds its page
pub record LookCounts (h : Hierarchy) (c : Caches) (page : ℕ) (reads : List ℕ) (t : Tally) : Type 0 where
  pub kept : holds h.tlb c.core.tlb page ≡ true → t ≡ record none { looks_kept = 1 }
  pub walked : holds h.tlb c.core.tlb page ≡ false → WalkCounts h (length reads) t

pub record GuessCounts (wrong : Bool) (t : Tally) : Type 0 where
  pub right : wrong ≡ false → t ≡ record none { guesses_right = 1 }
  pub missed : wrong ≡ true → t ≡ record none { guesses_wrong = 1 }

-- what each touch counts; a flush writes back every dirty line of the first level
abbrev pub Counts : Hierarchy → Bool → Caches → Touch → Tally → Type 0
Counts h pinned c (Fetch line) t = FetchCounts h pinned c line t
Counts h pinned c (Load line) t = AccessCounts as_load h pinned c false line t
Counts h pinned c (Store line) t = AccessCounts as_store h pinned c true line t
Counts h pinned c (WalkRead line) t = ReadCounts h pinned c line t
Counts h pinned c (Look page reads found) t = LookCounts h c page reads t
Counts h pinned c (Branch pc taken target) t = GuessCounts (is_wrong_branch c.core.guesses pc taken target) t
Counts h pinned c (Jump pc target) t = GuessCounts (is_wrong_jump c.core.guesses pc target) t
Counts h pinned c EmptyTlb t = t ≡ none
Counts h pinned c Flush t =
    t ≡ record none { backs_first = dirty_of h.l1d c.core.l1d; charged = h.costs.flush }
Counts h pinned c (Charge cycles) t = t ≡ record none { charged = cycles }

abbrev pub CountsLaw : Type 0
CountsLaw = (h : Hierarchy) (pinned : Bool) (c : Caches) (t : Touch) → Counts h pinned c t (tally h pinned c t)

-- ---- touches one after the other

abbrev pub is_fetch : Touch → Bool
is_fetch (Fetch line) = true
is_fetch _ = false

abbrev pub is_load : Touch → Bool
is_load (Load line) = true
is_load _ = false

abbrev pub is_store : Touch → Bool
is_store (Store line) = true
is_store _ = false

abbrev pub is_look : Touch → Bool
is_look (Look page reads found) = true
is_look _ = false

abbrev pub is_guess : Touch → Bool
is_guess (Branch pc taken target) = true
is_guess (Jump pc target) = true
is_guess _ = false

-- what it costs whatever the caches
abbrev pub charge_of : CostTable → Touch → ℕ
charge_of costs (Charge cycles) = cycles
charge_of costs Flush = costs.flush
charge_of costs _ = 0

-- each is counted once, wherever it was answered, and the second level gives up a dirty line in a miss alone
pub record Census (h : Hierarchy) (ts : List Touch) (t : Tally) : Type 0 where
  pub fetches : all_of t.fetches ≡ count_by is_fetch ts
  pub loads : all_of t.loads ≡ count_by is_load ts
  pub stores : all_of t.stores ≡ count_by is_store ts
  pub looks : t.looks_kept + t.looks_walked ≡ count_by is_look ts
  pub guesses : t.guesses_right + t.guesses_wrong ≡ count_by is_guess ts
  pub backs : t.backs_second ≤ at_memory t
  pub off : h.back ≡ false → t.backs_second ≡ 0
  pub charged : t.charged ≡ sum_by (charge_of h.costs) ts
  pub waited : t.waited ≡ 0

abbrev pub CensusLaw : Type 0
CensusLaw = (h : Hierarchy) (pinned : Bool) (c : Caches) (ts : List Touch)
    → Census h ts (tally_all h pinned c ts)

-- the first level gives up no dirty line twice: at most as many as were dirty or are stored to, but for those that
-- are dirty in the end
abbrev pub BacksLaw : Type 0
BacksLaw = (h : Hierarchy) (pinned : Bool) (c : Caches) (ts : List Touch) → 0 < h.l1d.count
    → (tally_all h pinned c ts).backs_first + dirty_of h.l1d (touched_all h pinned c ts).caches.core.l1d
    ≤ dirty_of h.l1d c.core.l1d + count_by is_store ts

-- ---- a domain's touches

-- count the same among others as alone, where the kernel's lines are always there
abbrev pub TallyBesideLaw : Type 0
TallyBesideLaw =
    (h : Hierarchy) (own : ℕ → Bool) (region : List ℕ) (first : Sets) (ts : List Touch) (c alone : Caches)
    → IsSharing h own region → MayTouchAll h own region ts → BesideCaches h own region first c alone
    → tally_all h false c ts ≡ tally_all h true alone ts
