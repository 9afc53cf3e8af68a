-- The laws of touches: colours, costs, hits, and what isn't touched.
use Rattle.std.proofs.Common.{arith, ◌≡◌, ◌≢◌, ◌∙◌, sym, refl, ap, subst, inl, inr, ◌⊎◌, true≢false, ℕ, ◌+◌, ◌*◌, ◌%◌, ◌≤◌, Bool, true, false, List, [], ◌∷◌, length, Option, Some, None, get_or, set}
use Rattle.std.specs.Prelude.{◌==◌, ◌&&◌, not, if◌then◌else◌, All, ◌++◌, map, is_some, option_map, slice_index, slice_index_or}
use Rattle.std.proofs.lemmas.List.{get_or-set_other}
use Rattle.std.proofs.lemmas.List.Elements.{All-nil, All-cons, All-head, All-tail, All-append, All-map}
use Rattle.tp_base.specs.Table.{at-put_other}
use Rattle.set_cache.specs.Rule.{Rule}
use Rattle.set_cache.specs.Cache.{Sets, CacheSet, Shape, fresh_set, set_at, step_of, step_by, way_of, touch_of, place_of, dirty_lines, EachDirty}
use Rattle.set_cache.proofs.Dirty.{dirty_victim_fits, dirty_lines_fit, set_at-marked_other}
use Rattle.l2_colour.specs.Colours.{IsColoured, colour_of_set}
use Rattle.l2_colour.proofs.Rows.{line_in_colour}
use Rattle.branch_pred.specs.Guesses as counters
use Rattle.branch_pred.specs.Guesses.{Guesses, counter_of, next_counter, target_place, jump, is_wrong_branch, is_wrong_jump}
use Rattle.mem_system.specs.Hierarchy.{Hierarchy, colour_of_line}
use Rattle.mem_system.specs.Cost.{Touch, Fetch, Load, Store, WalkRead, Look, Branch, Jump, EmptyTlb, Flush, Charge, Core, Caches, Passed, Read, WriteBack, given_up, missed_cost, marked_where, is_pinned, below, below_if, below_by, below_all, pass_on, touched, on_core, fetched, accessed, looked, guessed, branched, jumped, flushed, unless_hit}
use Rattle.mem_system.specs.TouchLaws.{lines_in_l1i, lines_in_l1d, lines_in_l2, pages_in_tlb, branches_in, jumps_in, is_flush, empties_tlb, holds, IsCostBelow, IsCostOfData, IsCostOfWalk, IsCost}

-- ---- colours

module _ (h : Hierarchy) where
  -- the set of a line has the line's colour
  pub set_colour : (line : ℕ) → IsColoured h.line_size h.l2.count
      → colour_of_set h.line_size (line % h.l2.count) ≡ colour_of_line h line
  unfolding colour_of_line
  set_colour line coloured = line_in_colour h.line_size h.l2.count line coloured

  -- a line of another colour than a set's stands in another set
  pub line_elsewhere : (s line : ℕ) → IsColoured h.line_size h.l2.count
      → colour_of_set h.line_size s ≢ colour_of_line h line → s ≢ line % h.l2.count
  line_elsewhere s line coloured apart same =
      apart (ap (colour_of_set h.line_size) same ∙ set_colour line coloured)

  -- the sets of lines of two colours are two
  sets_apart : (line other : ℕ) → IsColoured h.line_size h.l2.count
      → colour_of_line h other ≢ colour_of_line h line → line % h.l2.count ≢ other % h.l2.count
  sets_apart line other coloured apart =
      line_elsewhere (line % h.l2.count) other coloured (λ same. apart (sym same ∙ set_colour line coloured))

  below_if_spares : (test : Bool) (sets : Sets) (s other : ℕ) → (test ≡ false → s ≢ other % h.l2.count)
      → set_at h.l2.ways (below_if test h sets other).l2 s ≡ set_at h.l2.ways sets s
  unfolding below_if below_by
  below_if_spares true sets s other apart = refl
  below_if_spares false sets s other apart =
      let set : CacheSet = set_at h.l2.ways sets (other % h.l2.count) in
      at-put_other (fresh_set h.l2.ways) sets (other % h.l2.count) s (step_of h.l2.rule set other false).next
      (apart refl)

  marked_where_spares : (test : Bool) (sets : Sets) (s other : ℕ) → (test ≡ true → s ≢ other % h.l2.count)
      → set_at h.l2.ways (marked_where test h sets other) s ≡ set_at h.l2.ways sets s
  marked_where_spares true sets s other apart = set_at-marked_other h.l2 sets other s (apart refl)
  marked_where_spares false sets s other apart = refl

  -- a line that gets to the sets of the second level stands in another set than this one
  abbrev pub Spares : Bool → ℕ → ℕ → Type 0
  Spares pinned s other = is_pinned h pinned other ≡ false → s ≢ other % h.l2.count

  -- whatever comes to it
  abbrev pub SparesOne : Bool → ℕ → Passed → Type 0
  SparesOne pinned s (Read line) = Spares pinned s line
  SparesOne pinned s (WriteBack line) = Spares pinned s line

  module _ (pinned : Bool) (s : ℕ) where
    below_spares : (one : Passed) (sets : Sets) → SparesOne pinned s one
        → set_at h.l2.ways (below h pinned sets one).l2 s ≡ set_at h.l2.ways sets s
    unfolding below
    below_spares (Read line) sets spare = below_if_spares (is_pinned h pinned line) sets s line spare
    below_spares (WriteBack line) sets spare =
        marked_where_spares (h.back && not (is_pinned h pinned line)) sets s line
        (λ comes. spare (not_pinned h.back (is_pinned h pinned line) comes))
      where
        not_pinned : (back test : Bool) → (back && not test) ≡ true → test ≡ false
        not_pinned true true comes = absurd (true≢false (sym comes))
        not_pinned true false comes = refl
        not_pinned false test comes = absurd (true≢false (sym comes))

    all_spare : (passed : List Passed) (sets : Sets) → All (SparesOne pinned s) passed
        → set_at h.l2.ways (below_all h pinned sets passed).l2 s ≡ set_at h.l2.ways sets s
    unfolding below_all
    all_spare [] sets spare = refl
    all_spare (one ∷ passed) sets spare =
        all_spare passed (below h pinned sets one).l2 (All-tail (SparesOne pinned s) one passed spare)
        ∙ below_spares one sets (All-head (SparesOne pinned s) one passed spare)

-- what is so of the lines of a touch, and of the dirty lines, is so of what goes on
module _ (P : Passed → Type 0) where
  unless_all : (hit : Bool) (line : ℕ) → P (Read line) → All P (unless_hit hit line)
  unless_all true line its = All-nil P
  unless_all false line its = All-cons P (Read line) [] its (All-nil P)

  given_all : (victim : Option ℕ) (dirty : Bool)
      → ((line : ℕ) → victim ≡ Some line → dirty ≡ true → P (WriteBack line))
      → All P (given_up victim dirty)
  given_all (Some line) true its = All-cons P (WriteBack line) [] (its line refl refl) (All-nil P)
  given_all (Some line) false its = All-nil P
  given_all None dirty its = All-nil P

  accessed_all : (h : Hierarchy) (core : Core) (line : ℕ) (store : Bool) → P (Read line)
      → EachDirty (λ n. P (WriteBack n)) h.l1d core.l1d → All P (accessed h core line (touch_of h.l1d core.l1d line store)).passed
  unfolding accessed
  accessed_all h core line store its dirty =
      let answer = (touch_of h.l1d core.l1d line store).answer in
      All-append P (given_up answer.victim answer.dirty_victim) (unless_hit answer.hit line)
      (given_all answer.victim answer.dirty_victim
      (λ victim is marked. dirty_victim_fits (λ n. P (WriteBack n)) h.l1d core.l1d line store victim is marked dirty))
      (unless_all answer.hit line its)

  looked_all : (h : Hierarchy) (core : Core) (page : ℕ) (reads : List ℕ) (found held : Bool)
      → All (λ n. P (Read n)) reads → All P (looked h core page reads found held).passed
  unfolding looked
  looked_all h core page reads found true all = All-nil P
  looked_all h core page reads true false all = All-map P Read reads all
  looked_all h core page reads false false all = All-map P Read reads all

  pub handed_on : (h : Hierarchy) (core : Core) (touch : Touch) → All (λ n. P (Read n)) (lines_in_l2 touch)
      → EachDirty (λ n. P (WriteBack n)) h.l1d core.l1d → All P (on_core h core touch).passed
  unfolding on_core fetched guessed branched jumped flushed
  handed_on h core (Fetch line) all dirty =
      unless_all (touch_of h.l1i core.l1i line false).answer.hit line (All-head (λ n. P (Read n)) line [] all)
  handed_on h core (Load line) all dirty = accessed_all h core line false (All-head (λ n. P (Read n)) line [] all) dirty
  handed_on h core (Store line) all dirty = accessed_all h core line true (All-head (λ n. P (Read n)) line [] all) dirty
  handed_on h core (WalkRead line) all dirty = All-map P Read (line ∷ []) all
  handed_on h core (Look page reads found) all dirty =
      looked_all h core page reads found (is_some (place_of h.tlb core.tlb page)) all
  handed_on h core (Branch pc taken target) all dirty = All-nil P
  handed_on h core (Jump pc target) all dirty = All-nil P
  handed_on h core EmptyTlb all dirty = All-nil P
  handed_on h core Flush all dirty =
      All-map P WriteBack (dirty_lines h.l1d core.l1d) (dirty_lines_fit (λ n. P (WriteBack n)) h.l1d core.l1d dirty)
  handed_on h core (Charge cycles) all dirty = All-nil P

module _ (h : Hierarchy) where
  pub touch_spares : (pinned : Bool) (caches : Caches) (touch : Touch) (s : ℕ)
      → All (Spares h pinned s) (lines_in_l2 touch) → EachDirty (Spares h pinned s) h.l1d caches.core.l1d
      → set_at h.l2.ways (touched h pinned caches touch).caches.l2 s ≡ set_at h.l2.ways caches.l2 s
  unfolding touched pass_on
  touch_spares pinned caches touch s spare dirty =
      all_spare h pinned s (on_core h caches.core touch).passed caches.l2
      (handed_on (SparesOne h pinned s) h caches.core touch spare dirty)

  -- a touch leaves the set of a line in the second level as it was
  abbrev LeavesLine : Bool → Caches → Touch → ℕ → Type 0
  LeavesLine pinned caches touch line =
      set_at h.l2.ways (touched h pinned caches touch).caches.l2 (line % h.l2.count)
      ≡ set_at h.l2.ways caches.l2 (line % h.l2.count)

  pub apart : (pinned : Bool) (caches : Caches) (touch : Touch) (line : ℕ)
      → IsColoured h.line_size h.l2.count
      → All (λ other. colour_of_line h other ≢ colour_of_line h line) (lines_in_l2 touch)
      → EachDirty (λ other. colour_of_line h other ≢ colour_of_line h line) h.l1d caches.core.l1d
      → LeavesLine pinned caches touch line
  apart pinned caches touch line coloured others dirty =
      touch_spares pinned caches touch (line % h.l2.count)
      (λ k d lt _. sets_apart h line (get_or (lines_in_l2 touch) k d) coloured (others k d lt))
      (λ s way kept at marked _. sets_apart h line kept.number coloured (dirty s way kept at marked))

not_first : (k : ℕ) → (true && k == 0) ≡ false → k ≢ 0
not_first k other first = true≢false (subst (λ (j : ℕ). (true && j == 0) ≡ false) first other)

pub pinned_stay : (h : Hierarchy) (caches : Caches) (touch : Touch) (line : ℕ)
    → IsColoured h.line_size h.l2.count → colour_of_line h line ≡ 0 → LeavesLine h true caches touch line
pinned_stay h caches touch line coloured first =
    let spared : (n : ℕ) → Spares h true (line % h.l2.count) n
    = λ n other. sets_apart h line n coloured (λ same. not_first (colour_of_line h n) other (same ∙ first)) in
    touch_spares h true caches touch (line % h.l2.count) (λ k d lt. spared (get_or (lines_in_l2 touch) k d))
    (λ s way kept at marked. spared kept.number)

-- ---- costs

-- what a line costs at the second level, in these of its costs
abbrev IsLineCost : Bool → ℕ → ℕ → ℕ → ℕ → Type 0
IsLineCost back l2 mem wb cost = (cost ≡ l2) ⊎ ((cost ≡ l2 + mem) ⊎ ((back ≡ true) × (cost ≡ l2 + (mem + wb))))

hit_or_miss : (hit back marked : Bool) (l2 mem wb : ℕ)
    → IsLineCost back l2 mem wb (l2 + (if hit then 0 else mem + (if back && marked then wb else 0)))
hit_or_miss true back marked l2 mem wb = inl (omega arith)
hit_or_miss false true true l2 mem wb = inr (inr (refl, refl))
hit_or_miss false true false l2 mem wb = inr (inl (omega arith))
hit_or_miss false false marked l2 mem wb = inr (inl (omega arith))

guess_cost : (wrong : Bool) (n : ℕ) → ((if wrong then n else 0) + 0 ≡ 0) ⊎ ((if wrong then n else 0) + 0 ≡ n)
guess_cost true n = inr (omega arith)
guess_cost false n = inl refl

module _ (h : Hierarchy) where
  -- what one line costs at the second level
  abbrev IsCostOfLine : ℕ → Type 0
  IsCostOfLine cost = IsLineCost h.back h.costs.l2 h.costs.mem h.costs.wb cost

  below_if_cost : (test : Bool) (sets : Sets) (line : ℕ) → IsCostOfLine (below_if test h sets line).cost
  unfolding below_if below_by missed_cost
  below_if_cost true sets line = inl refl
  below_if_cost false sets line =
      let answer = (touch_of h.l2 sets line false).answer in
      hit_or_miss answer.hit h.back answer.dirty_victim h.costs.l2 h.costs.mem h.costs.wb

  record IsCostOfReads (reads cost : ℕ) : Type 0 where
    misses : ℕ
    written : ℕ
    few : misses ≤ reads
    fewer : written ≤ misses
    none : h.back ≡ false → written ≡ 0
    sum : cost ≡ reads * h.costs.l2 + misses * h.costs.mem + written * h.costs.wb

  module _ (pinned : Bool) where
    -- what lines that go on cost
    abbrev cost_of : Sets → List Passed → ℕ
    cost_of sets passed = (below_all h pinned sets passed).cost

    below_cost : (sets : Sets) (line : ℕ) → IsCostOfLine (below h pinned sets (Read line)).cost
    unfolding below
    below_cost sets line = below_if_cost (is_pinned h pinned line) sets line

    one_cost : (sets : Sets) (line first : ℕ) → IsCostBelow h first (first + cost_of sets (Read line ∷ []))
    unfolding below_all
    one_cost sets line first = elim (below_cost sets line) [
      | inl e ↦ inl (omega (arith, e))
      | inr (inl e) ↦ inr (inl (omega (arith, e)))
      | inr (inr (on, e)) ↦ inr (inr (on, omega (arith, e)))
    ]

    -- write-backs cost nothing there
    pub backs_cost : (lines : List ℕ) (sets : Sets) → cost_of sets (map WriteBack lines) ≡ 0
    unfolding below_all below
    backs_cost [] sets = refl
    backs_cost (line ∷ lines) sets =
        let rest = backs_cost lines (below h pinned sets (WriteBack line)).l2 in
        omega (arith, rest)

    given_cost : (sets : Sets) (victim : Option ℕ) (dirty : Bool) (passed : List Passed)
        → (kept : Sets) × (cost_of sets (given_up victim dirty ++ passed) ≡ cost_of kept passed)
    unfolding below_all below
    given_cost sets (Some line) true passed = ((below h pinned sets (WriteBack line)).l2, omega arith)
    given_cost sets (Some line) false passed = (sets, refl)
    given_cost sets None dirty passed = (sets, refl)

    abbrev IsCostOfFetch : ℕ → Type 0
    IsCostOfFetch cost = (cost ≡ h.costs.l1) ⊎ IsCostBelow h h.costs.l1 cost

    fetch_cost : (sets : Sets) (line : ℕ) (hit : Bool)
        → IsCostOfFetch (h.costs.l1 + cost_of sets (unless_hit hit line))
    unfolding below_all
    fetch_cost sets line true = inl (omega arith)
    fetch_cost sets line false = inr (one_cost sets line h.costs.l1)

    absent_cost : (sets : Sets) (line : ℕ) (dirty : Bool)
        → IsCostOfData h (h.costs.l1 + (if dirty then h.costs.wb else 0) + cost_of sets (Read line ∷ []))
    absent_cost sets line true = inr (inr (one_cost sets line (h.costs.l1 + h.costs.wb)))
    absent_cost sets line false = elim (one_cost sets line h.costs.l1) [
      | inl e ↦ inr (inl (inl (omega (arith, e))))
      | inr (inl e) ↦ inr (inl (inr (inl (omega (arith, e)))))
      | inr (inr (on, e)) ↦ inr (inl (inr (inr (on, omega (arith, e)))))
    ]

    data_cost : (sets : Sets) (rule : Rule) (set : CacheSet) (line : ℕ) (store : Bool) (way : Option ℕ)
        → let step = step_by rule set line store way in
        IsCostOfData h (h.costs.l1 + (if step.answer.dirty_victim then h.costs.wb else 0)
        + cost_of sets (given_up step.answer.victim step.answer.dirty_victim ++ unless_hit step.answer.hit line))
    unfolding below_all
    data_cost sets rule set line store (Some way) = inl (omega arith)
    data_cost sets rule set line store None =
        let answer = (step_by rule set line store None).answer in
        let given = given_cost sets answer.victim answer.dirty_victim (Read line ∷ []) in
        subst (λ (n : ℕ). IsCostOfData h (h.costs.l1 + (if answer.dirty_victim then h.costs.wb else 0) + n)) (sym given.1)
        (absent_cost given.0 line answer.dirty_victim)

    reads_cost : (sets : Sets) (reads : List ℕ) → IsCostOfReads (length reads) (cost_of sets (map Read reads))
    unfolding below_all
    reads_cost sets [] =
        record { misses = 0; written = 0; few = omega arith; fewer = omega arith; none = λ _. refl; sum = omega arith }
    reads_cost sets (line ∷ lines) =
        let rest = reads_cost (below h pinned sets (Read line)).l2 lines in
        elim (below_cost sets line) [
          | inl e ↦ record {
            misses = rest.misses;
            written = rest.written;
            few = omega (arith, rest.few);
            fewer = rest.fewer;
            none = rest.none;
            sum = grind (arith, e, rest.sum);
          }
          | inr (inl e) ↦ record {
            misses = 1 + rest.misses;
            written = rest.written;
            few = omega (arith, rest.few);
            fewer = omega (arith, rest.fewer);
            none = rest.none;
            sum = grind (arith, e, rest.sum);
          }
          | inr (inr (on, e)) ↦ record {
            misses = 1 + rest.misses;
            written = 1 + rest.written;
            few = omega (arith, rest.few);
            fewer = omega (arith, rest.fewer);
            none = λ off. absurd (true≢false (sym on ∙ off));
            sum = grind (arith, e, rest.sum);
          }
        ]

    walk_cost : (sets : Sets) (reads : List ℕ)
        → IsCostOfWalk h (length reads) (h.costs.tlb + cost_of sets (map Read reads))
    walk_cost sets reads =
        let made = reads_cost sets reads in
        record {
          misses = made.misses;
          written = made.written;
          few = made.few;
          fewer = made.fewer;
          none = made.none;
          sum = ap (λ (n : ℕ). h.costs.tlb + n) made.sum;
        }

    -- what a look-up costs, by whether its walk finds the page and the buffer holds it
    abbrev cost_of_look : Sets → Core → ℕ → List ℕ → Bool → Bool → ℕ
    cost_of_look sets core page reads found held =
        (pass_on h pinned sets (looked h core page reads found held)).cost

    look_cost : (sets : Sets) (core : Core) (page : ℕ) (reads : List ℕ) (found held : Bool)
        → let cost = cost_of_look sets core page reads found held in
        (cost ≡ h.costs.tlb) ⊎ IsCostOfWalk h (length reads) cost
    unfolding looked pass_on below_all
    look_cost sets core page reads found true = inl (omega arith)
    look_cost sets core page reads true false = inr (walk_cost sets reads)
    look_cost sets core page reads false false = inr (walk_cost sets reads)

    -- a load or a store, by the way in which its line is kept
    line_cost : (caches : Caches) (line : ℕ) (store : Bool)
        → let set = set_at h.l1d.ways caches.core.l1d (line % h.l1d.count) in
        let step = step_by h.l1d.rule set line store (way_of line set.places) in
        IsCostOfData h (h.costs.l1 + (if step.answer.dirty_victim then h.costs.wb else 0)
        + cost_of caches.l2 (given_up step.answer.victim step.answer.dirty_victim ++ unless_hit step.answer.hit line))
    line_cost caches line store =
        let set : CacheSet = set_at h.l1d.ways caches.core.l1d (line % h.l1d.count) in
        data_cost caches.l2 h.l1d.rule set line store (way_of line set.places)

    pub cost_is : (caches : Caches) (touch : Touch)
        → IsCost h caches.core touch (touched h pinned caches touch).cost
    unfolding touched on_core fetched accessed guessed branched jumped flushed pass_on below_all
    cost_is caches (Fetch line) =
        fetch_cost caches.l2 line (touch_of h.l1i caches.core.l1i line false).answer.hit
    cost_is caches (Load line) = line_cost caches line false
    cost_is caches (Store line) = line_cost caches line true
    cost_is caches (WalkRead line) = one_cost caches.l2 line 0
    cost_is caches (Look page reads found) =
        look_cost caches.l2 caches.core page reads found (is_some (place_of h.tlb caches.core.tlb page))
    cost_is caches (Branch pc taken target) =
        guess_cost (is_wrong_branch caches.core.guesses pc taken target) h.costs.mispredict
    cost_is caches (Jump pc target) = guess_cost (is_wrong_jump caches.core.guesses pc target) h.costs.mispredict
    cost_is caches EmptyTlb = refl
    cost_is caches Flush =
        let none = backs_cost (dirty_lines h.l1d caches.core.l1d) caches.l2 in
        omega (arith, none)
    cost_is caches (Charge cycles) = omega arith

-- ---- hits

-- a step of a set, by the way in which the line is kept, where there is one
module _ (rule : Rule) (set : CacheSet) (line : ℕ) (store : Bool) (f : ℕ → ℕ) where
  hit_of : (way : Option ℕ) → is_some (option_map f way) ≡ true
      → (step_by rule set line store way).answer.hit ≡ true
  hit_of (Some way) held = refl
  hit_of None held = absurd (true≢false (sym held))

  nothing_written : (way : Option ℕ) → is_some (option_map f way) ≡ true
      → (step_by rule set line store way).answer.victim ≡ None
  nothing_written (Some way) held = refl
  nothing_written None held = absurd (true≢false (sym held))

  nothing_dirty : (way : Option ℕ) → is_some (option_map f way) ≡ true
      → (step_by rule set line store way).answer.dirty_victim ≡ false
  nothing_dirty (Some way) held = refl
  nothing_dirty None held = absurd (true≢false (sym held))

module _ (shape : Shape) (sets : Sets) (line : ℕ) (store : Bool) (held : holds shape sets line ≡ true) where
  -- a line that a cache holds is a hit of a touch
  pub held_hit : (touch_of shape sets line store).answer.hit ≡ true
  held_hit =
      let set : CacheSet = set_at shape.ways sets (line % shape.count) in
      hit_of shape.rule set line store (λ way. line % shape.count * shape.ways + way)
      (way_of line set.places) held

  -- which gives nothing up
  pub held_spares : (touch_of shape sets line store).answer.victim ≡ None
  held_spares =
      let set : CacheSet = set_at shape.ways sets (line % shape.count) in
      nothing_written shape.rule set line store (λ way. line % shape.count * shape.ways + way)
      (way_of line set.places) held

  held_clean : (touch_of shape sets line store).answer.dirty_victim ≡ false
  held_clean =
      let set : CacheSet = set_at shape.ways sets (line % shape.count) in
      nothing_dirty shape.rule set line store (λ way. line % shape.count * shape.ways + way)
      (way_of line set.places) held

hit_cost : (hit : Bool) (l2 mem : ℕ) → hit ≡ true → l2 + (if hit then 0 else mem) ≡ l2
hit_cost true l2 mem held = omega arith
hit_cost false l2 mem held = absurd (true≢false (sym held))

module _ (h : Hierarchy) where
  pub below_if_held : (test : Bool) (sets : Sets) (line : ℕ) → holds h.l2 sets line ≡ true
      → (below_if test h sets line).cost ≡ h.costs.l2
  unfolding below_if below_by
  below_if_held true sets line held = refl
  below_if_held false sets line held =
      let answer = (touch_of h.l2 sets line false).answer in
      hit_cost answer.hit h.costs.l2 (missed_cost h answer.dirty_victim) (held_hit h.l2 sets line false held)

  module _ (pinned : Bool) where
    nothing_below : (sets : Sets) (line : ℕ) (hit : Bool) → hit ≡ true
        → cost_of h pinned sets (unless_hit hit line) ≡ 0
    unfolding below_all
    nothing_below sets line true held = refl
    nothing_below sets line false held = absurd (true≢false (sym held))

    -- what is held gives nothing up, so that nothing goes on
    nothing_passed : (sets : Sets) (victim : Option ℕ) (dirty : Bool) (line : ℕ) (hit : Bool) → hit ≡ true
        → victim ≡ None
        → cost_of h pinned sets (given_up victim dirty ++ unless_hit hit line) ≡ 0
    nothing_passed sets victim dirty line hit held spared = rw spared (nothing_below sets line hit held)

    l2_least : (sets : Sets) (line : ℕ) → h.costs.l2 ≤ (below h pinned sets (Read line)).cost
    l2_least sets line = elim (below_cost h pinned sets line) [
      | inl e ↦ omega (arith, e)
      | inr (inl e) ↦ omega (arith, e)
      | inr (inr (on, e)) ↦ omega (arith, e)
    ]

    look_held : (sets : Sets) (core : Core) (page : ℕ) (reads : List ℕ) (found held : Bool) → held ≡ true
        → cost_of_look h pinned sets core page reads found held ≡ h.costs.tlb
    unfolding looked pass_on below_all
    look_held sets core page reads found true e = omega arith
    look_held sets core page reads found false e = absurd (true≢false (sym e))

    tlb_least : (sets : Sets) (core : Core) (page : ℕ) (reads : List ℕ) (found held : Bool)
        → h.costs.tlb ≤ cost_of_look h pinned sets core page reads found held
    unfolding looked pass_on
    tlb_least sets core page reads found true = omega arith
    tlb_least sets core page reads true false = omega arith
    tlb_least sets core page reads false false = omega arith

    module _ (caches others : Caches) where
      -- a touch costs no more than from the other caches
      abbrev IsLeast : Touch → Type 0
      IsLeast touch = (touched h pinned caches touch).cost ≤ (touched h pinned others touch).cost

      pub fetch_least : (line : ℕ) → holds h.l1i caches.core.l1i line ≡ true → IsLeast (Fetch line)
      unfolding touched on_core fetched pass_on
      fetch_least line held =
          let none =
          nothing_below caches.l2 line (touch_of h.l1i caches.core.l1i line false).answer.hit
          (held_hit h.l1i caches.core.l1i line false held) in
          omega (arith, none)

      -- what a load or a store costs in these caches
      abbrev cost_of_data : Caches → ℕ → Bool → ℕ
      cost_of_data from line store =
          let step = touch_of h.l1d from.core.l1d line store in
          (pass_on h pinned from.l2 (accessed h from.core line step)).cost

      data_least : (line : ℕ) (store : Bool) → holds h.l1d caches.core.l1d line ≡ true
          → cost_of_data caches line store ≤ cost_of_data others line store
      unfolding accessed pass_on
      data_least line store held =
          let answer = (touch_of h.l1d caches.core.l1d line store).answer in
          let none =
          nothing_passed caches.l2 answer.victim answer.dirty_victim line answer.hit
          (held_hit h.l1d caches.core.l1d line store held) (held_spares h.l1d caches.core.l1d line store held) in
          let clean : (if answer.dirty_victim then h.costs.wb else 0) ≡ 0
          = ap (λ (b : Bool). if b then h.costs.wb else 0) (held_clean h.l1d caches.core.l1d line store held) in
          omega (arith, none, clean)

      pub load_least : (line : ℕ) → holds h.l1d caches.core.l1d line ≡ true → IsLeast (Load line)
      unfolding touched on_core
      load_least line held = data_least line false held

      pub store_least : (line : ℕ) → holds h.l1d caches.core.l1d line ≡ true → IsLeast (Store line)
      unfolding touched on_core
      store_least line held = data_least line true held

      pub walk_read_least : (line : ℕ) → holds h.l2 caches.l2 line ≡ true → IsLeast (WalkRead line)
      unfolding touched on_core pass_on below_all below
      walk_read_least line held =
          let here = below_if_held (is_pinned h pinned line) caches.l2 line held in
          let there = l2_least others.l2 line in
          omega (arith, here, there)

      pub look_least : (page : ℕ) (reads : List ℕ) (found : Bool)
          → holds h.tlb caches.core.tlb page ≡ true → IsLeast (Look page reads found)
      unfolding touched on_core
      look_least page reads found held =
          let here =
          look_held caches.l2 caches.core page reads found
          (is_some (place_of h.tlb caches.core.tlb page)) held in
          let there =
          tlb_least others.l2 others.core page reads found
          (is_some (place_of h.tlb others.core.tlb page)) in
          omega (arith, here, there)

-- ---- what isn't touched

module _ (shape : Shape) (sets : Sets) (line s : ℕ) where
  -- a set is as it was
  abbrev Stays : Sets → Type 0
  Stays next = set_at shape.ways next s ≡ set_at shape.ways sets s

  -- a touch of a line in another set
  other_set : (store : Bool) → line % shape.count ≢ s → Stays (touch_of shape sets line store).next
  other_set store apart =
      let set : CacheSet = set_at shape.ways sets (line % shape.count) in
      at-put_other (fresh_set shape.ways) sets (line % shape.count) s
      (step_of shape.rule set line store).next (λ e. apart (sym e))

  found_other : (held : Bool) → line % shape.count ≢ s
      → Stays (if held then (touch_of shape sets line false).next else sets)
  found_other true apart = other_set false apart
  found_other false apart = refl

-- the only line of a touch stands in another set
only : (count s line : ℕ) → All (λ other. other % count ≢ s) (line ∷ []) → line % count ≢ s
only count s line apart = All-head (λ n. n % count ≢ s) line [] apart

module _ (h : Hierarchy) (core : Core) (page : ℕ) (reads : List ℕ) where
  looked_l1i : (found held : Bool) → (looked h core page reads found held).core.l1i ≡ core.l1i
  unfolding looked
  looked_l1i found true = refl
  looked_l1i true false = refl
  looked_l1i false false = refl

  pub looked_l1d : (found held : Bool) → (looked h core page reads found held).core.l1d ≡ core.l1d
  unfolding looked
  looked_l1d found true = refl
  looked_l1d true false = refl
  looked_l1d false false = refl

  looked_guesses : (found held : Bool) → (looked h core page reads found held).core.guesses ≡ core.guesses
  unfolding looked
  looked_guesses found true = refl
  looked_guesses true false = refl
  looked_guesses false false = refl

  looked_tlb : (s : ℕ) (found held : Bool) → page % h.tlb.count ≢ s
      → Stays h.tlb core.tlb page s (looked h core page reads found held).core.tlb
  unfolding looked
  looked_tlb s found true apart =
      found_other h.tlb core.tlb page s (is_some (place_of h.tlb core.tlb page)) apart
  looked_tlb s true false apart = other_set h.tlb core.tlb page s false apart
  looked_tlb s false false apart = refl

module _ (h : Hierarchy) (pinned : Bool) (caches : Caches) where
  abbrev core_after : Touch → Core
  core_after touch = (touched h pinned caches touch).caches.core

  pub l1i_stays : (touch : Touch) (s : ℕ) → is_flush touch ≡ false
      → All (λ line. line % h.l1i.count ≢ s) (lines_in_l1i touch)
      → set_at h.l1i.ways (core_after touch).l1i s ≡ set_at h.l1i.ways caches.core.l1i s
  unfolding touched on_core fetched accessed guessed branched jumped pass_on
  l1i_stays (Fetch line) s kept apart =
      other_set h.l1i caches.core.l1i line s false (only h.l1i.count s line apart)
  l1i_stays (Load line) s kept apart = refl
  l1i_stays (Store line) s kept apart = refl
  l1i_stays (WalkRead line) s kept apart = refl
  l1i_stays (Look page reads found) s kept apart =
      ap (λ (sets : Sets). set_at h.l1i.ways sets s)
      (looked_l1i h caches.core page reads found (is_some (place_of h.tlb caches.core.tlb page)))
  l1i_stays (Branch pc taken target) s kept apart = refl
  l1i_stays (Jump pc target) s kept apart = refl
  l1i_stays EmptyTlb s kept apart = refl
  l1i_stays Flush s kept apart = absurd (true≢false kept)
  l1i_stays (Charge cycles) s kept apart = refl

  pub l1d_stays : (touch : Touch) (s : ℕ) → is_flush touch ≡ false
      → All (λ line. line % h.l1d.count ≢ s) (lines_in_l1d touch)
      → set_at h.l1d.ways (core_after touch).l1d s ≡ set_at h.l1d.ways caches.core.l1d s
  unfolding touched on_core fetched accessed guessed branched jumped pass_on
  l1d_stays (Fetch line) s kept apart = refl
  l1d_stays (Load line) s kept apart =
      other_set h.l1d caches.core.l1d line s false (only h.l1d.count s line apart)
  l1d_stays (Store line) s kept apart =
      other_set h.l1d caches.core.l1d line s true (only h.l1d.count s line apart)
  l1d_stays (WalkRead line) s kept apart = refl
  l1d_stays (Look page reads found) s kept apart =
      ap (λ (sets : Sets). set_at h.l1d.ways sets s)
      (looked_l1d h caches.core page reads found (is_some (place_of h.tlb caches.core.tlb page)))
  l1d_stays (Branch pc taken target) s kept apart = refl
  l1d_stays (Jump pc target) s kept apart = refl
  l1d_stays EmptyTlb s kept apart = refl
  l1d_stays Flush s kept apart = absurd (true≢false kept)
  l1d_stays (Charge cycles) s kept apart = refl

  pub tlb_stays : (touch : Touch) (s : ℕ) → empties_tlb touch ≡ false
      → All (λ page. page % h.tlb.count ≢ s) (pages_in_tlb touch)
      → set_at h.tlb.ways (core_after touch).tlb s ≡ set_at h.tlb.ways caches.core.tlb s
  unfolding touched on_core fetched accessed guessed branched jumped pass_on
  tlb_stays (Fetch line) s kept apart = refl
  tlb_stays (Load line) s kept apart = refl
  tlb_stays (Store line) s kept apart = refl
  tlb_stays (WalkRead line) s kept apart = refl
  tlb_stays (Look page reads found) s kept apart =
      looked_tlb h caches.core page reads s found (is_some (place_of h.tlb caches.core.tlb page))
      (only h.tlb.count s page apart)
  tlb_stays (Branch pc taken target) s kept apart = refl
  tlb_stays (Jump pc target) s kept apart = refl
  tlb_stays EmptyTlb s kept apart = absurd (true≢false kept)
  tlb_stays Flush s kept apart = absurd (true≢false kept)
  tlb_stays (Charge cycles) s kept apart = refl

-- an element beside one that is set
beside : {A : Type 0} (xs : List A) (i j : ℕ) (v d : A) → i ≢ j
    → slice_index_or (set xs i v) j d ≡ slice_index_or xs j d
beside xs i j v d apart = get_or-set_other xs i j v d (λ e. apart (sym e))

module _ (h : Hierarchy) (pinned : Bool) (caches : Caches) where
  after_look : (page : ℕ) (reads : List ℕ) (found : Bool)
      → (core_after h pinned caches (Look page reads found)).guesses ≡ caches.core.guesses
  unfolding touched on_core pass_on
  after_look page reads found =
      looked_guesses h caches.core page reads found (is_some (place_of h.tlb caches.core.tlb page))

  pub counters_stay : (touch : Touch) (place : ℕ) → is_flush touch ≡ false
      → All (λ pc. counters.counter_place caches.core.guesses pc ≢ place) (branches_in touch)
      → slice_index (core_after h pinned caches touch).guesses.counters place
      ≡ slice_index caches.core.guesses.counters place
  unfolding touched on_core fetched accessed guessed branched jumped pass_on
  counters_stay (Fetch line) place kept apart = refl
  counters_stay (Load line) place kept apart = refl
  counters_stay (Store line) place kept apart = refl
  counters_stay (WalkRead line) place kept apart = refl
  counters_stay (Look page reads found) place kept apart =
      ap (λ (g : Guesses). slice_index g.counters place) (after_look page reads found)
  counters_stay (Branch pc true target) place kept apart =
      beside caches.core.guesses.counters (counters.counter_place caches.core.guesses pc) place
      (next_counter true (counter_of caches.core.guesses pc)) 0
      (All-head (λ k. counters.counter_place caches.core.guesses k ≢ place) pc [] apart)
  counters_stay (Branch pc false target) place kept apart =
      beside caches.core.guesses.counters (counters.counter_place caches.core.guesses pc) place
      (next_counter false (counter_of caches.core.guesses pc)) 0
      (All-head (λ k. counters.counter_place caches.core.guesses k ≢ place) pc [] apart)
  counters_stay (Jump pc target) place kept apart = refl
  counters_stay EmptyTlb place kept apart = refl
  counters_stay Flush place kept apart = absurd (true≢false kept)
  counters_stay (Charge cycles) place kept apart = refl

  pub history_stays : (touch : Touch) → is_flush touch ≡ false → branches_in touch ≡ []
      → (core_after h pinned caches touch).guesses.history ≡ caches.core.guesses.history
  unfolding touched on_core fetched accessed guessed branched jumped pass_on
  history_stays (Fetch line) kept none = refl
  history_stays (Load line) kept none = refl
  history_stays (Store line) kept none = refl
  history_stays (WalkRead line) kept none = refl
  history_stays (Look page reads found) kept none = ap (λ (g : Guesses). g.history) (after_look page reads found)
  history_stays (Branch pc taken target) kept none = absurd (let some : 1 ≡ 0 = ap length none in omega arith)
  history_stays (Jump pc target) kept none = refl
  history_stays EmptyTlb kept none = refl
  history_stays Flush kept none = absurd (true≢false kept)
  history_stays (Charge cycles) kept none = refl

  pub targets_stay : (touch : Touch) (place : ℕ) → is_flush touch ≡ false
      → All (λ pc. target_place caches.core.guesses.targets pc ≢ place) (jumps_in touch)
      → slice_index_or (core_after h pinned caches touch).guesses.targets place None
      ≡ slice_index_or caches.core.guesses.targets place None
  unfolding touched on_core fetched accessed guessed branched jumped pass_on
  targets_stay (Fetch line) place kept apart = refl
  targets_stay (Load line) place kept apart = refl
  targets_stay (Store line) place kept apart = refl
  targets_stay (WalkRead line) place kept apart = refl
  targets_stay (Look page reads found) place kept apart =
      ap (λ (g : Guesses). slice_index_or g.targets place None) (after_look page reads found)
  targets_stay (Branch pc true target) place kept apart =
      beside caches.core.guesses.targets (target_place caches.core.guesses.targets pc) place (Some (jump pc target)) None
      (All-head (λ k. target_place caches.core.guesses.targets k ≢ place) pc [] apart)
  targets_stay (Branch pc false target) place kept apart = refl
  targets_stay (Jump pc target) place kept apart =
      beside caches.core.guesses.targets (target_place caches.core.guesses.targets pc) place (Some (jump pc target)) None
      (All-head (λ k. target_place caches.core.guesses.targets k ≢ place) pc [] apart)
  targets_stay EmptyTlb place kept apart = refl
  targets_stay Flush place kept apart = absurd (true≢false kept)
  targets_stay (Charge cycles) place kept apart = refl
