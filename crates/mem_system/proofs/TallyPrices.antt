-- The sums of tallies, and their price, which is what touches cost.
use Rattle.std.proofs.Common.{arith, ◌≡◌, ◌∙◌, sym, refl, ap, true≢false, ℕ, ◌+◌, ◌*◌, ◌%◌, add-zero, zero-add, Bool, true, false, List, [], ◌∷◌, ◌++◌, Option, Some, None}
use Rattle.std.proofs.Math.Nat.{add_assoc}
use Rattle.std.specs.Prelude.{◌&&◌, if◌then◌else◌, map, is_some}
use Rattle.set_cache.specs.Rule.{Rule}
use Rattle.set_cache.specs.declared.Touch.{Touch as Answer}
use Rattle.set_cache.specs.Cache.{Shape, CacheSet, Sets, set_at, step_by, way_of, touch_of, place_of, dirty_of, dirty_lines}
use Rattle.branch_pred.specs.Guesses.{is_wrong_branch, is_wrong_jump}
use Rattle.mem_system.specs.Hierarchy.{Hierarchy}
use Rattle.mem_system.specs.Cost.{Touch, Fetch, Load, Store, WalkRead, Look, Branch, Jump, EmptyTlb, Flush, Charge, Core, Caches, Read, WriteBack, given_up, unless_hit, fetched, accessed, looked, guessed, branched, jumped, flushed, missed_cost, is_pinned, below, below_if, below_by, below_all, on_core, pass_on, touched, touched_all, and_then}
use Rattle.mem_system.specs.Tally.{Tally, none, plus, price, one_if, one_guess, one_look, one_access, tally_access, tally_on_core, Reader, OfFetch, OfAccess, OfWalk, one_read, tally_by, tally_if, tally_below, tally_below_all, tally, tally_all}
use Rattle.mem_system.specs.TallyLaws.{PriceLaw, PriceOfAllLaw, PriceOfNoneLaw, PriceOfSumLaw, TallyAppendLaw, TallyOfOneLaw}
use Rattle.mem_system.proofs.TouchLaws.{backs_cost}

-- ---- sums

pub plus-none : (t : Tally) → plus t none ≡ t
unfolding plus none
plus-none t = simp add-zero

pub none-plus : (t : Tally) → plus none t ≡ t
unfolding plus none
none-plus t = simp zero-add

pub plus-assoc : (a b c : Tally) → plus (plus a b) c ≡ plus a (plus b c)
unfolding plus
plus-assoc a b c = simp add_assoc

pub append_law : TallyAppendLaw
unfolding tally_all touched_all and_then
append_law h pinned c [] us = sym (none-plus (tally_all h pinned c us))
append_law h pinned c (t ∷ ts) us =
    ap (plus (tally h pinned c t)) (append_law h pinned (touched h pinned c t).caches ts us)
    ∙ sym (plus-assoc (tally h pinned c t) (tally_all h pinned (touched h pinned c t).caches ts)
    (tally_all h pinned (touched_all h pinned (touched h pinned c t).caches ts).caches us))

pub one_law : TallyOfOneLaw
unfolding tally_all
one_law h pinned c t = plus-none (tally h pinned c t)

-- ---- the price

pub price_of_none : PriceOfNoneLaw
unfolding price none
price_of_none costs = omega arith

pub price_of_sum : PriceOfSumLaw
unfolding price plus
price_of_sum costs a b = omega arith

-- a hit gives nothing up
clean_step : (rule : Rule) (set : CacheSet) (number : ℕ) (store : Bool) (way : Option ℕ)
    → (step_by rule set number store way).answer.hit ≡ true
    → (step_by rule set number store way).answer.dirty_victim ≡ false
clean_step rule set number store (Some way) hit = refl
clean_step rule set number store None hit = absurd (true≢false (sym hit))

pub clean_hit : (shape : Shape) (sets : Sets) (number : ℕ) (store : Bool)
    → (touch_of shape sets number store).answer.hit ≡ true
    → (touch_of shape sets number store).answer.dirty_victim ≡ false
clean_hit shape sets number store =
    let set : CacheSet = set_at shape.ways sets (number % shape.count) in
    clean_step shape.rule set number store (way_of number set.places)

-- a miss, and what it gives up, by the costs
missed_price : (hit back marked : Bool) (l2 mem wb : ℕ) → (hit ≡ true → marked ≡ false)
    → l2 + (if hit then 0 else mem) + wb * one_if (back && marked)
    ≡ l2 + (if hit then 0 else mem + (if back && marked then wb else 0))
missed_price true back true l2 mem wb clean = absurd (true≢false (clean refl))
missed_price true true false l2 mem wb clean = omega arith
missed_price true false false l2 mem wb clean = omega arith
missed_price false true true l2 mem wb clean = omega arith
missed_price false true false l2 mem wb clean = omega arith
missed_price false false marked l2 mem wb clean = omega arith

module _ (h : Hierarchy) where
  -- what a read that goes past the first level costs there
  abbrev first_cost : Reader → ℕ
  first_cost OfFetch = h.costs.l1
  first_cost (OfAccess store) = h.costs.l1
  first_cost OfWalk = 0

  -- a read by who makes it, whether the second level has its line, and what gives way to it there
  price_read : (reader : Reader) (hit : Bool) (backs : ℕ)
      → price h.costs (record (one_read reader hit) { backs_second = backs })
      ≡ first_cost reader + (h.costs.l2 + (if hit then 0 else h.costs.mem) + h.costs.wb * backs)
  unfolding price one_read one_access none
  price_read OfFetch true backs = omega arith
  price_read OfFetch false backs = omega arith
  price_read (OfAccess true) true backs = omega arith
  price_read (OfAccess true) false backs = omega arith
  price_read (OfAccess false) true backs = omega arith
  price_read (OfAccess false) false backs = omega arith
  price_read OfWalk true backs = omega arith
  price_read OfWalk false backs = omega arith

  price_hit : (reader : Reader) → price h.costs (one_read reader true) ≡ first_cost reader + h.costs.l2
  unfolding price one_read one_access none
  price_hit OfFetch = omega arith
  price_hit (OfAccess true) = omega arith
  price_hit (OfAccess false) = omega arith
  price_hit OfWalk = omega arith

  price_if : (test : Bool) (reader : Reader) (sets : Sets) (line : ℕ)
      → price h.costs (tally_if test reader h sets line) ≡ first_cost reader + (below_if test h sets line).cost
  unfolding tally_if tally_by below_if below_by missed_cost
  price_if true reader sets line = price_hit reader
  price_if false reader sets line =
      let answer = (touch_of h.l2 sets line false).answer in
      price_read reader answer.hit (one_if (h.back && answer.dirty_victim))
      ∙ ap (λ (n : ℕ). first_cost reader + n)
      (missed_price answer.hit h.back answer.dirty_victim h.costs.l2 h.costs.mem h.costs.wb
      (clean_hit h.l2 sets line false))

  module _ (pinned : Bool) where
    price_one : (reader : Reader) (sets : Sets) (line : ℕ)
        → price h.costs (tally_below_all reader h pinned sets (Read line ∷ []))
        ≡ first_cost reader + (below_all h pinned sets (Read line ∷ [])).cost
    unfolding tally_below_all tally_below below_all below
    price_one reader sets line =
        let sum = price_of_sum h.costs (tally_if (is_pinned h pinned line) reader h sets line) none in
        let read = price_if (is_pinned h pinned line) reader sets line in
        let nothing = price_of_none h.costs in
        omega (arith, sum, read, nothing)

    -- write-backs count nothing there
    pub backs_none : (reader : Reader) (sets : Sets) (lines : List ℕ)
        → tally_below_all reader h pinned sets (map WriteBack lines) ≡ none
    unfolding tally_below_all tally_below
    backs_none reader sets [] = refl
    backs_none reader sets (line ∷ lines) =
        none-plus (tally_below_all reader h pinned (below h pinned sets (WriteBack line)).l2 (map WriteBack lines))
        ∙ backs_none reader (below h pinned sets (WriteBack line)).l2 lines

    price_reads : (sets : Sets) (reads : List ℕ)
        → price h.costs (tally_below_all OfWalk h pinned sets (map Read reads))
        ≡ (below_all h pinned sets (map Read reads)).cost
    unfolding tally_below_all tally_below below_all below
    price_reads sets [] = price_of_none h.costs
    price_reads sets (line ∷ lines) =
        let next : Sets = (below h pinned sets (Read line)).l2 in
        let sum =
        price_of_sum h.costs (tally_if (is_pinned h pinned line) OfWalk h sets line)
        (tally_below_all OfWalk h pinned next (map Read lines)) in
        let read = price_if (is_pinned h pinned line) OfWalk sets line in
        let rest = price_reads next lines in
        omega (arith, sum, read, rest)

    -- the line that is given up, and then the read
    price_miss : (store dirty : Bool) (sets : Sets) (victim : Option ℕ) (line : ℕ)
        → price h.costs (tally_below_all (OfAccess store) h pinned sets (given_up victim dirty ++ (Read line ∷ [])))
        ≡ h.costs.l1 + (below_all h pinned sets (given_up victim dirty ++ (Read line ∷ []))).cost
    unfolding tally_below_all tally_below below_all below
    price_miss store true sets (Some victim) line =
        let next : Sets = (below h pinned sets (WriteBack victim)).l2 in
        let read = price_one (OfAccess store) next line in
        ap (price h.costs) (none-plus (tally_below_all (OfAccess store) h pinned next (Read line ∷ [])))
        ∙ omega (arith, read)
    price_miss store false sets (Some victim) line = price_one (OfAccess store) sets line
    price_miss store dirty sets None line = price_one (OfAccess store) sets line

    price_given : (store dirty : Bool) (victim : Option ℕ)
        → price h.costs (tally_access store (record { hit = false; victim = victim; dirty_victim = dirty }))
        ≡ if dirty then h.costs.wb else 0
    unfolding price tally_access one_access none
    price_given true true victim = omega arith
    price_given true false victim = omega arith
    price_given false true victim = omega arith
    price_given false false victim = omega arith

    -- a load or a store, by what the first level says to it
    abbrev accessed_tally : Bool → Sets → Answer → ℕ → Tally
    accessed_tally store sets answer line =
        plus (tally_access store answer) (tally_below_all (OfAccess store) h pinned sets
        (given_up answer.victim answer.dirty_victim ++ unless_hit answer.hit line))

    abbrev accessed_cost : Sets → Answer → ℕ → ℕ
    accessed_cost sets answer line =
        h.costs.l1 + (if answer.dirty_victim then h.costs.wb else 0)
        + (below_all h pinned sets (given_up answer.victim answer.dirty_victim ++ unless_hit answer.hit line)).cost

    price_kept : (store : Bool) (sets : Sets)
        → price h.costs (plus (tally_access store (record { hit = true; victim = None; dirty_victim = false })) none)
        ≡ h.costs.l1 + 0 + 0
    unfolding price plus tally_access one_access none
    price_kept true sets = omega arith
    price_kept false sets = omega arith

    price_access : (store : Bool) (sets : Sets) (rule : Rule) (set : CacheSet) (line : ℕ) (way : Option ℕ)
        → let answer = (step_by rule set line store way).answer in
        price h.costs (accessed_tally store sets answer line) ≡ accessed_cost sets answer line
    unfolding tally_below_all below_all
    price_access store sets rule set line (Some way) = price_kept store sets
    price_access store sets rule set line None =
        let answer = (step_by rule set line store None).answer in
        let passed = given_up answer.victim answer.dirty_victim ++ (Read line ∷ []) in
        let sum =
        price_of_sum h.costs (tally_access store answer) (tally_below_all (OfAccess store) h pinned sets passed) in
        let given = price_given store answer.dirty_victim answer.victim in
        let read = price_miss store answer.dirty_victim sets answer.victim line in
        omega (arith, sum, given, read)

    -- a load or a store, by the way in which its line is kept
    price_line : (caches : Caches) (line : ℕ) (store : Bool)
        → let answer = (touch_of h.l1d caches.core.l1d line store).answer in
        price h.costs (accessed_tally store caches.l2 answer line) ≡ accessed_cost caches.l2 answer line
    price_line caches line store =
        let set : CacheSet = set_at h.l1d.ways caches.core.l1d (line % h.l1d.count) in
        price_access store caches.l2 h.l1d.rule set line (way_of line set.places)

    fetch_kept : (sets : Sets)
        → price h.costs (plus (record none { fetches = record { first = 1; second = 0; memory = 0 } })
        (tally_below_all OfFetch h pinned sets []))
        ≡ h.costs.l1 + (below_all h pinned sets []).cost
    unfolding price plus none tally_below_all below_all
    fetch_kept sets = omega arith

    price_fetch : (sets : Sets) (line : ℕ) (hit : Bool)
        → price h.costs (plus (record none { fetches = record { first = one_if hit; second = 0; memory = 0 } })
        (tally_below_all OfFetch h pinned sets (unless_hit hit line)))
        ≡ h.costs.l1 + (below_all h pinned sets (unless_hit hit line)).cost
    unfolding none
    price_fetch sets line true = fetch_kept sets
    price_fetch sets line false =
        ap (price h.costs) (none-plus (tally_below_all OfFetch h pinned sets (Read line ∷ [])))
        ∙ price_one OfFetch sets line

    look_kept : (sets : Sets)
        → price h.costs (plus (one_look true) (tally_below_all OfWalk h pinned sets []))
        ≡ h.costs.tlb + (below_all h pinned sets []).cost
    unfolding price plus none one_look tally_below_all below_all
    look_kept sets = omega arith

    price_unkept : price h.costs (one_look false) ≡ h.costs.tlb
    unfolding price none one_look
    price_unkept = omega arith

    look_walked : (sets : Sets) (reads : List ℕ)
        → price h.costs (plus (one_look false) (tally_below_all OfWalk h pinned sets (map Read reads)))
        ≡ h.costs.tlb + (below_all h pinned sets (map Read reads)).cost
    look_walked sets reads =
        let sum = price_of_sum h.costs (one_look false) (tally_below_all OfWalk h pinned sets (map Read reads)) in
        let read = price_reads sets reads in
        let look = price_unkept in
        omega (arith, sum, read, look)

    price_look : (sets : Sets) (core : Core) (page : ℕ) (reads : List ℕ) (found kept : Bool)
        → let step = looked h core page reads found kept in
        price h.costs (plus (one_look kept) (tally_below_all OfWalk h pinned sets step.passed))
        ≡ (pass_on h pinned sets step).cost
    unfolding looked pass_on
    price_look sets core page reads found true = look_kept sets
    price_look sets core page reads true false = look_walked sets reads
    price_look sets core page reads false false = look_walked sets reads

    price_guess : (wrong : Bool)
        → price h.costs (plus (one_guess wrong) none) ≡ (if wrong then h.costs.mispredict else 0) + 0
    unfolding price plus none one_guess
    price_guess true = omega arith
    price_guess false = omega arith

    price_walk_read : (sets : Sets) (line : ℕ)
        → price h.costs (plus none (tally_below_all OfWalk h pinned sets (Read line ∷ [])))
        ≡ 0 + (below_all h pinned sets (Read line ∷ [])).cost
    price_walk_read sets line =
        let read = price_one OfWalk sets line in
        ap (price h.costs) (none-plus (tally_below_all OfWalk h pinned sets (Read line ∷ []))) ∙ read

    price_of_empty : price h.costs (plus none none) ≡ 0 + 0
    unfolding price plus none
    price_of_empty = omega arith

    price_charge : (cycles : ℕ) → price h.costs (plus (record none { charged = cycles }) none) ≡ cycles + 0
    unfolding price plus none
    price_charge cycles = omega arith

    abbrev flush_of : ℕ → Tally
    flush_of dirty = record none { backs_first = dirty; charged = h.costs.flush }

    price_flush_alone : (dirty : ℕ) → price h.costs (flush_of dirty) ≡ h.costs.flush + h.costs.wb * dirty
    unfolding price none
    price_flush_alone dirty = omega arith

    price_flush : (caches : Caches)
        → let lines = map WriteBack (dirty_lines h.l1d caches.core.l1d) in
        let dirty = dirty_of h.l1d caches.core.l1d in
        price h.costs (plus (flush_of dirty) (tally_below_all OfWalk h pinned caches.l2 lines))
        ≡ h.costs.flush + h.costs.wb * dirty + (below_all h pinned caches.l2 lines).cost
    price_flush caches =
        let dirty = dirty_of h.l1d caches.core.l1d in
        let lines = dirty_lines h.l1d caches.core.l1d in
        let free = backs_cost h pinned lines caches.l2 in
        let alone = price_flush_alone dirty in
        ap (price h.costs) (ap (plus (flush_of dirty)) (backs_none OfWalk caches.l2 lines) ∙ plus-none (flush_of dirty))
        ∙ omega (arith, free, alone)

    pub price_is : (caches : Caches) (touch : Touch)
        → (touched h pinned caches touch).cost ≡ price h.costs (tally h pinned caches touch)
    unfolding touched on_core fetched accessed guessed branched jumped flushed pass_on below_all tally
        tally_on_core tally_below_all
    price_is caches (Fetch line) =
        sym (price_fetch caches.l2 line (touch_of h.l1i caches.core.l1i line false).answer.hit)
    price_is caches (Load line) = sym (price_line caches line false)
    price_is caches (Store line) = sym (price_line caches line true)
    price_is caches (WalkRead line) = sym (price_walk_read caches.l2 line)
    price_is caches (Look page reads found) =
        sym (price_look caches.l2 caches.core page reads found (is_some (place_of h.tlb caches.core.tlb page)))
    price_is caches (Branch pc taken target) = sym (price_guess (is_wrong_branch caches.core.guesses pc taken target))
    price_is caches (Jump pc target) = sym (price_guess (is_wrong_jump caches.core.guesses pc target))
    price_is caches EmptyTlb = sym price_of_empty
    price_is caches Flush = sym (price_flush caches)
    price_is caches (Charge cycles) = sym (price_charge cycles)

pub price_law : PriceLaw
price_law h pinned c t = price_is h pinned c t

pub price_of_all_law : PriceOfAllLaw
unfolding touched_all and_then tally_all
price_of_all_law h pinned c [] = sym (price_of_none h.costs)
price_of_all_law h pinned c (t ∷ ts) =
    let next : Caches = (touched h pinned c t).caches in
    let sum = price_of_sum h.costs (tally h pinned c t) (tally_all h pinned next ts) in
    let one = price_is h pinned c t in
    let rest = price_of_all_law h pinned next ts in
    omega (arith, sum, one, rest)
