-- What touches cost at worst, and that a switch keeps within the bound.
use Rattle.std.proofs.Common.{arith, mul-le-mul_left, mul-le-mul_right, ◌≡◌, ◌≢◌, true≢false, ◌∙◌, sym, refl, ap, subst, inl, inr, ℕ, zero, suc, ◌+◌, ◌*◌, ◌%◌, ◌<◌, ◌≤◌, Bool, true, false, List, [], ◌∷◌, ◌++◌, length, map, Option, Some, None}
use Rattle.std.specs.Prelude.{is_some, ◌&&◌, not, if◌then◌else◌, All}
use Rattle.std.proofs.lemmas.List.Elements.{All-head, All-tail}
use Rattle.std.specs.List.{range_with_len}
use Rattle.std.proofs.lemmas.List.Sums.{sum_by-cons, count_by-le-length}
use Rattle.tp_base.specs.Table.{empty, put, at-put_by, at-put_same}
use Rattle.set_cache.specs.Cache.{Shape, CacheSet, Sets, fresh_set, set_at, way_of, step_of, touch_of, place_of, is_dirty, dirty_in, dirty_below, dirty_of}
use Rattle.set_cache.proofs.Steps.{IsFull, IsFull-empty, IsFull-touch, set_at-touch_same}
use Rattle.set_cache.proofs.Dirty.{clean_victim, dirty_victim_fits}
use Rattle.l2_colour.specs.Colours.{colour_of_set}
use Rattle.kernel_clone.specs.Footprints.{touch_of as touch_of_kind, Layout, LineTouch, touches, leave_op, enter_op, shared_line, shared_lines}
use Rattle.kernel_clone.specs.declared.Kind.{Kind}
use Rattle.kernel_clone.specs.declared.Kind.TheVariants as kind
use Rattle.pad_bound.specs.Bound.{worst_access, worst_read, worst_leave, worst_prefetch, worst_flush, worst_enter, bound_of}
use Rattle.pad_bound.specs.Worst.{worst, worst_of, prefetch_touches, IsCloneOf}
use Rattle.pad_bound.proofs.Parts.{leave_costs, enter_costs, prefetch_costs}
use Rattle.mem_system.specs.Hierarchy.{Hierarchy, colour_of_line}
use Rattle.mem_system.specs.Cost.{Touch, Fetch, Load, Store, WalkRead, Look, Branch, Jump, EmptyTlb, Flush, Charge, Core, Caches, fresh_core, fetched, accessed, guessed, branched, jumped, flushed, on_core, pass_on, Touched, touched, touched_all, and_then, Passed, Read, WriteBack, given_up, unless_hit, missed_cost, marked_where, is_pinned, below, below_if, below_by, below_all}
use Rattle.mem_system.specs.TouchLaws.{IsCostBelow, IsCostOfData, IsCostOfWalk, IsCost}
use Rattle.mem_system.proofs.TouchLaws.{cost_is, looked_l1d, set_colour}
use Rattle.mem_system.proofs.Touches.{touched_all-append}
use Rattle.mem_system.specs.Operations.{touch_of_line, touch_by, footprint, operation, plain, leave, enter, shared_region, prefetch, leave_if, switch, switch_by}
use Rattle.mem_system.specs.Sharing.{IsShared, IsSharing, KernelIsClean}
use Rattle.mem_system.specs.Worst.{again, machine_shape, worst_touch, worst_touches, HasWays, IsWithin}
use Rattle.mem_system.proofs.OwnTouches.{shared_colour, region_shared}
use Rattle.mem_system.proofs.Clean.{IsCleanBelow, none_of, marked_clean, touch_clean, stays_clean_law}
use Rattle.mem_system.specs.SharingLaws.{WorstLaw, SwitchLaw, OnTimeLaw}

-- ---- the first-level data cache keeps its ways

-- each set of a cache has its number of ways
abbrev SetsHaveWays : Shape → Sets → Type 0
SetsHaveWays shape sets = (s : ℕ) → s < shape.count → length (set_at shape.ways sets s).places ≡ shape.ways

-- a step of a set keeps its ways, as it does in a cache that has this set alone
ways_step : (shape : Shape) (set : CacheSet) (line : ℕ) (store : Bool) → length set.places ≡ shape.ways
    → length (step_of shape.rule set line store).next.places ≡ shape.ways
ways_step shape set line store its =
    let home : ℕ = line % shape.count in
    let alone : Sets = put empty home set in
    let full : IsFull shape.ways alone = record {
      each = at-put_by (fresh_set shape.ways) empty home set (λ _ (one : CacheSet). length one.places ≡ shape.ways)
          its (λ s other. (IsFull-empty shape.ways).each s);
    } in
    let itself : set_at shape.ways alone home ≡ set = at-put_same (fresh_set shape.ways) empty home set in
    ap (λ (one : CacheSet). length (step_of shape.rule one line store).next.places) (sym itself)
    ∙ ap (λ (next : CacheSet). length next.places) (sym (set_at-touch_same shape alone line store))
    ∙ (IsFull-touch shape alone line store full).each home

-- and so does each set of the cache
ways_touch : (shape : Shape) (sets : Sets) (line : ℕ) (store : Bool) → SetsHaveWays shape sets
    → SetsHaveWays shape (touch_of shape sets line store).next
ways_touch shape sets line store ways =
    let home : ℕ = line % shape.count in
    let set : CacheSet = set_at shape.ways sets home in
    at-put_by (fresh_set shape.ways) sets home (step_of shape.rule set line store).next
    (λ s (one : CacheSet). s < shape.count → length one.places ≡ shape.ways)
    (λ below. ways_step shape set line store (ways home below)) (λ s other. ways s)

-- no touch changes how many ways the sets have
ways_kept : (h : Hierarchy) (pinned : Bool) (c : Caches) (touch : Touch) → HasWays h c
    → HasWays h (touched h pinned c touch).caches
unfolding touched on_core fetched accessed guessed branched jumped flushed fresh_core pass_on
ways_kept h pinned c (Fetch line) ways = ways
ways_kept h pinned c (Load line) ways = ways_touch h.l1d c.core.l1d line false ways
ways_kept h pinned c (Store line) ways = ways_touch h.l1d c.core.l1d line true ways
ways_kept h pinned c (WalkRead line) ways = ways
ways_kept h pinned c (Look page reads found) ways =
    subst (SetsHaveWays h.l1d) (sym (looked_l1d h c.core page reads found (is_some (place_of h.tlb c.core.tlb page)))) ways
ways_kept h pinned c (Branch pc taken target) ways = ways
ways_kept h pinned c (Jump pc target) ways = ways
ways_kept h pinned c EmptyTlb ways = ways
ways_kept h pinned c Flush ways = λ s below. (IsFull-empty h.l1d.ways).each s
ways_kept h pinned c (Charge cycles) ways = ways

-- so no more of its lines are dirty than it has places
dirty_within : (shape : Shape) (sets : Sets) → SetsHaveWays shape sets → (count : ℕ) → count ≤ shape.count
    → dirty_below shape.ways sets count ≤ count * shape.ways
dirty_within shape sets ways zero within = omega arith
dirty_within shape sets ways (suc count) within =
    let rest : dirty_below shape.ways sets count ≤ count * shape.ways = dirty_within shape sets ways count (omega (arith, within)) in
    let places = (set_at shape.ways sets count).places in
    let one : dirty_in places ≤ length places = count_by-le-length is_dirty places in
    let all : length places ≡ shape.ways = ways count (omega (arith, within)) in
    grind arith

module _ (h : Hierarchy) where
  -- ---- one touch at worst

  again_is : h.back ≡ true → again h ≡ h.costs.wb
  again_is on = ap (λ (b : Bool). if b then h.costs.wb else 0) on

  -- what misses the second level, and gives up a line with a mark there, costs most
  below_most : (first cost : ℕ) → IsCostBelow h first cost
      → cost ≤ first + (h.costs.l2 + (h.costs.mem + again h))
  below_most first cost (inl hit) = omega (arith, hit)
  below_most first cost (inr (inl miss)) = omega (arith, miss)
  below_most first cost (inr (inr (on, miss))) = let more = again_is on in omega (arith, miss, more)

  -- a miss whose victim is dirty
  data_most : (cost : ℕ) → IsCostOfData h cost → cost ≤ worst_access h.costs (again h)
  data_most cost (inl hit) = omega (arith, hit)
  data_most cost (inr (inl clean)) = let most = below_most h.costs.l1 cost clean in omega (arith, most)
  data_most cost (inr (inr dirty)) = let most = below_most (h.costs.l1 + h.costs.wb) cost dirty in omega (arith, most)

  -- each read misses, and so gives up a line
  written_most : (reads written : ℕ) → written ≤ reads → (h.back ≡ false → written ≡ 0) → (back : Bool)
      → h.back ≡ back
      → written * h.costs.wb ≤ reads * (if back then h.costs.wb else 0)
  written_most reads written few none true on = mul-le-mul_right h.costs.wb few
  written_most reads written few none false off = rw (none off) (omega arith)

  walk_most : (reads cost : ℕ) → IsCostOfWalk h reads cost
      → cost ≤ h.costs.tlb + reads * worst_read h.costs (again h)
  walk_most reads cost walk =
      let few = walk.few in
      let sum = walk.sum in
      let missed : walk.misses * h.costs.mem ≤ reads * h.costs.mem = mul-le-mul_right h.costs.mem few in
      let fewer : walk.written ≤ reads = omega (arith, few, walk.fewer) in
      let more : walk.written * h.costs.wb ≤ reads * again h = written_most reads walk.written fewer walk.none h.back refl in
      grind (arith, sum, missed, more)

  -- each cost of the table is at most the worst
  touch_most : (core : Core) (touch : Touch) (cost : ℕ) → dirty_of h.l1d core.l1d ≤ h.l1d.count * h.l1d.ways
      → IsCost h core touch cost → cost ≤ worst_touch h touch
  touch_most core (Fetch line) cost few (inl hit) = omega (arith, hit)
  touch_most core (Fetch line) cost few (inr below) = let most = below_most h.costs.l1 cost below in omega (arith, most)
  touch_most core (Load line) cost few is = data_most cost is
  touch_most core (Store line) cost few is = data_most cost is
  touch_most core (WalkRead line) cost few is = let most = below_most 0 cost is in omega (arith, most)
  touch_most core (Look page reads found) cost few (inl held) = omega (arith, held)
  touch_most core (Look page reads found) cost few (inr walk) = walk_most (length reads) cost walk
  touch_most core (Branch pc taken target) cost few (inl right) = omega (arith, right)
  touch_most core (Branch pc taken target) cost few (inr wrong) = omega (arith, wrong)
  touch_most core (Jump pc target) cost few (inl right) = omega (arith, right)
  touch_most core (Jump pc target) cost few (inr wrong) = omega (arith, wrong)
  touch_most core EmptyTlb cost few is = omega (arith, is)
  touch_most core Flush cost few is =
      let written : h.costs.wb * dirty_of h.l1d core.l1d ≤ h.costs.wb * (h.l1d.count * h.l1d.ways) = mul-le-mul_left h.costs.wb few in
      omega (arith, is, written)
  touch_most core (Charge cycles) cost few is = omega (arith, is)

  -- so one touch is within its worst
  touch_within : (pinned : Bool) (c : Caches) (touch : Touch) → HasWays h c
      → IsWithin h (worst_touch h touch) (touched h pinned c touch)
  touch_within pinned c touch ways =
      let few = dirty_within h.l1d c.core.l1d ways h.l1d.count (omega arith) in
      record {
        cost = touch_most c.core touch (touched h pinned c touch).cost few (cost_is h pinned c touch);
        ways = ways_kept h pinned c touch ways;
      }

  -- and touches one after the other are within the sum
  touches_within : (pinned : Bool) (ts : List Touch) (c : Caches) → HasWays h c
      → IsWithin h (worst_touches h ts) (touched_all h pinned c ts)
  unfolding touched_all and_then worst_touches
  touches_within pinned [] c ways = record { cost = omega arith; ways = ways }
  touches_within pinned (t ∷ ts) c ways =
      let one = touch_within pinned c t ways in
      let rest = touches_within pinned ts (touched h pinned c t).caches one.ways in
      let first = one.cost in
      let more = rest.cost in
      record { cost = omega (arith, first, more); ways = rest.ways }

  -- ---- a switch at worst

  pub worst-append : (ts us : List Touch)
      → worst_touches h (ts ++ us) ≡ worst_touches h ts + worst_touches h us
  unfolding worst_touches
  worst-append [] us = omega arith
  worst-append (t ∷ ts) us = let rest = worst-append ts us in omega (arith, rest)

  -- one line at worst, as the bound has it
  worst_by_kind : (k : Kind) (line : ℕ) → worst_touch h (touch_by k line) ≡ worst h.costs (again h) k
  worst_by_kind kind.Fetch line = refl
  worst_by_kind kind.Load line = refl
  worst_by_kind kind.Store line = refl

  -- a footprint costs at worst what the bound says of its lines
  pub worst_lines : (lines : List LineTouch)
      → worst_touches h (map touch_of_line lines) ≡ worst_of h.costs (again h) lines
  unfolding worst_touches worst_of
  worst_lines [] = refl
  worst_lines (t ∷ ts) =
      let one = worst_by_kind t.kind t.line in
      let rest = worst_lines ts in
      let first = sum_by-cons (λ (u : LineTouch). worst h.costs (again h) u.kind) t ts in
      omega (arith, one, rest, first)

  module _ (shared calls : ℕ) where
    -- whoever leaves, and at the boot nobody
    leave_most : (out : Option Layout)
        → worst_touches h (leave_if h.costs out) ≤ worst_leave (machine_shape h shared calls)
    unfolding leave_if leave operation footprint worst_touches
    leave_most None = omega arith
    leave_most (Some l) =
        let lines = worst_lines (touches l (plain leave_op)) in
        let costs = leave_costs (machine_shape h shared calls) l (plain leave_op) (record { zeroed = refl; entries = refl }) refl in
        omega (arith, lines, costs)

    enter_is : (into : Layout) → worst_touches h (enter into) ≡ worst_enter (machine_shape h shared calls)
    unfolding enter footprint
    enter_is into =
        worst_lines (touches into (plain enter_op))
        ∙ enter_costs (machine_shape h shared calls) into (plain enter_op) (record { zeroed = refl; entries = refl }) refl

    -- after the prefetch
    later_most : (into : Layout)
        → worst_touches h (Flush ∷ enter into)
        ≡ worst_flush (machine_shape h shared calls) + worst_enter (machine_shape h shared calls)
    unfolding worst_touches worst_flush
    later_most into = let entered = enter_is into in omega (arith, entered)

-- ---- the prefetch, which finds no line of its colour dirty

-- the same where nothing is written back into the second level
abbrev bare : Hierarchy → Hierarchy
bare h = record h { back = false }

-- the prefetch loads the lines that the bound counts
loads_are : (line : ℕ → ℕ) (places : List ℕ)
    → map Load (map line places) ≡ map touch_of_line (map (λ i. touch_of_kind kind.Load (line i)) places)
loads_are line [] = refl
loads_are line (i ∷ places) = ap (λ (ts : List Touch). Load (line i) ∷ ts) (loads_are line places)

prefetch_is : (h : Hierarchy) (shared calls : ℕ) (into : Layout)
    → IsCloneOf (machine_shape h shared calls) into
    → worst_touches (bare h) (prefetch (shared_region into)) ≡ worst_prefetch (machine_shape h shared calls)
unfolding prefetch shared_region prefetch_touches
prefetch_is h shared calls into clone =
    ap (worst_touches (bare h)) (loads_are (shared_line into) (range_with_len 0 (shared_lines into)))
    ∙ worst_lines (bare h) (prefetch_touches into) ∙ prefetch_costs (machine_shape h shared calls) into clone

module _ (h : Hierarchy) (own : ℕ → Bool) (region : List ℕ) (sharing : IsSharing h own region) (pinned : Bool) where
  -- what a line costs that gives up none with a mark
  read_most : (hit back marked : Bool) (l2 mem wb : ℕ) → marked ≡ false
      → l2 + (if hit then 0 else mem + (if back && marked then wb else 0)) ≤ l2 + mem
  read_most true back marked l2 mem wb clean = omega arith
  read_most false true true l2 mem wb clean = absurd (true≢false clean)
  read_most false true false l2 mem wb clean = omega arith
  read_most false false marked l2 mem wb clean = omega arith

  clean_if : (test : Bool) (sets : Sets) (line : ℕ) → colour_of_line h line ≡ 0
      → IsCleanBelow h sharing.coloured sets
      → (below_if test h sets line).cost ≤ h.costs.l2 + h.costs.mem
  unfolding below_if below_by missed_cost
  clean_if true sets line kernel clean = omega arith
  clean_if false sets line kernel clean =
      let home : ℕ = line % h.l2.count in
      let its : CacheSet = set_at h.l2.ways sets home in
      let answer = (touch_of h.l2 sets line false).answer in
      let here : colour_of_set h.line_size home ≡ 0 = set_colour h line sharing.coloured ∙ kernel in
      let unmarked : answer.dirty_victim ≡ false
      = clean_victim h.l2.rule its line false (way_of line its.places) (none_of h sharing.coloured sets clean home here) in
      read_most answer.hit h.back answer.dirty_victim h.costs.l2 h.costs.mem h.costs.wb unmarked

  read_clean : (sets : Sets) (line : ℕ) → colour_of_line h line ≡ 0 → IsCleanBelow h sharing.coloured sets
      → (hit : Bool)
      → (below_all h pinned sets (unless_hit hit line)).cost ≤ h.costs.l2 + h.costs.mem
  unfolding below_all below
  read_clean sets line kernel clean true = omega arith
  read_clean sets line kernel clean false = let most = clean_if (is_pinned h pinned line) sets line kernel clean in omega (arith, most)

  -- what is given up has another colour
  given_clean : (sets : Sets) (victim : Option ℕ) (dirty : Bool) (passed : List Passed)
      → ((line : ℕ) → victim ≡ Some line → dirty ≡ true → colour_of_line h line ≢ 0) → IsCleanBelow h sharing.coloured sets
      → (kept : Sets) × IsCleanBelow h sharing.coloured kept
      × ((below_all h pinned sets (given_up victim dirty ++ passed)).cost ≡ (below_all h pinned kept passed).cost)
  unfolding below_all below
  given_clean sets (Some line) true passed apart clean =
      let test : Bool = h.back && not (is_pinned h pinned line) in
      (marked_where test h sets line, marked_clean h sharing.coloured test sets line (apart line refl refl) clean, omega arith)
  given_clean sets (Some line) false passed apart clean = (sets, clean, refl)
  given_clean sets None dirty passed apart clean = (sets, clean, refl)

  victim_most : (dirty : Bool) (wb : ℕ) → (if dirty then wb else 0) ≤ wb
  victim_most true wb = omega arith
  victim_most false wb = omega arith

  load_most : (c : Caches) (line : ℕ) → colour_of_line h line ≡ 0 → KernelIsClean h c
      → (touched h pinned c (Load line)).cost ≤ worst_access h.costs 0
  unfolding touched on_core accessed pass_on
  load_most c line kernel clean =
      let answer = (touch_of h.l1d c.core.l1d line false).answer in
      let given =
      given_clean c.l2 answer.victim answer.dirty_victim (unless_hit answer.hit line)
      (λ victim is dirty. dirty_victim_fits (λ n. colour_of_line h n ≢ 0) h.l1d c.core.l1d line false victim
      is dirty clean.core) clean.l2 in
      let read = read_clean given.0 line kernel given.1 answer.hit in
      let same = given.2 in
      let most = victim_most answer.dirty_victim h.costs.wb in
      omega (arith, read, same, most)

  -- the loads are within their worst, and change neither
  record IsLoaded (lines : List ℕ) (r : Touched) : Type 0 where
    cost : r.cost ≤ worst_touches (bare h) (prefetch lines)
    ways : HasWays h r.caches
    clean : KernelIsClean h r.caches

  loads_most : (lines : List ℕ) (c : Caches) → All (IsShared region) lines → HasWays h c → KernelIsClean h c
      → IsLoaded lines (touched_all h pinned c (prefetch lines))
  unfolding prefetch touched_all and_then worst_touches
  loads_most [] c shared ways clean = record { cost = omega arith; ways = ways; clean = clean }
  loads_most (line ∷ lines) c shared ways clean =
      let its = All-head (IsShared region) line lines shared in
      let one = load_most c line (shared_colour h own region sharing line its) clean in
      let rest =
      loads_most lines (touched h pinned c (Load line)).caches (All-tail (IsShared region) line lines shared)
      (ways_kept h pinned c (Load line) ways)
      (touch_clean h sharing.coloured own region sharing.not_kernel pinned c (Load line) (inr its) clean) in
      let more = rest.cost in
      record { cost = omega (arith, one, more); ways = rest.ways; clean = rest.clean }

-- ---- the laws

-- touches are within their worst
pub worst_law : WorstLaw
worst_law h pinned ts c ways = touches_within h pinned ts c ways

-- a switch is within its parts
pub switch_law : SwitchLaw
unfolding switch_by and_then
switch_law h own pinned shared calls out into c ways clean sharing may clone =
    let region : List ℕ = shared_region into in
    let leaves : List Touch = leave_if h.costs out in
    let loads : List Touch = prefetch region in
    let later : List Touch = Flush ∷ enter into in
    let s = machine_shape h shared calls in
    let left = touches_within h pinned leaves c ways in
    let c1 : Caches = (touched_all h pinned c leaves).caches in
    let clean1 = stays_clean_law h own region pinned leaves c sharing may clean in
    let loaded = loads_most h own region sharing pinned region c1 (region_shared region) left.ways clean1 in
    let c2 : Caches = (touched_all h pinned c1 loads).caches in
    let entered = touches_within h pinned later c2 loaded.ways in
    let left_most = leave_most h shared calls out in
    let loads_are_most = prefetch_is h shared calls into clone in
    let later_is = later_most h shared calls into in
    let first = left.cost in
    let second = loaded.cost in
    let third = entered.cost in
    let parts : touched_all h pinned c (leaves ++ (loads ++ later))
    ≡ and_then (touched_all h pinned c leaves) (λ k. and_then (touched_all h pinned k loads) (λ m. touched_all h pinned m later))
    = touched_all-append h pinned c leaves (loads ++ later)
    ∙ ap (λ (r : Touched). record { cost = (touched_all h pinned c leaves).cost + r.cost; caches = r.caches })
    (touched_all-append h pinned c1 loads later) in
    subst (IsWithin h (worst_leave s + worst_prefetch s + worst_flush s + worst_enter s)) (sym parts)
    (record { cost = omega (arith, first, second, third, left_most, loads_are_most, later_is); ways = entered.ways })

-- begun late by less than the largest step, it is done by the bound
pub on_time_law : OnTimeLaw
unfolding bound_of
on_time_law h own pinned shared calls old_end now out into c ways clean sharing may clone after late =
    let cost = (switch_law h own pinned shared calls out into c ways clean sharing may clone).cost in
    omega (arith, cost, after, late)
