-- What each touch counts, by where its line or page is.
use Rattle.std.proofs.Common.{arith, ◌≡◌, ◌∙◌, sym, refl, ap, ap₂, subst, true≢false, ℕ, ◌+◌, ◌*◌, ◌≤◌, ◌%◌, Bool, true, false, List, [], ◌∷◌, ◌++◌, length, Option, Some, None}
use Rattle.std.specs.Prelude.{◌&&◌, ◌||◌, not, map, is_some, option_map}
use Rattle.set_cache.specs.Rule.{Rule}
use Rattle.set_cache.specs.declared.Touch.{Touch as Answer}
use Rattle.set_cache.specs.Cache.{Shape, CacheSet, Sets, set_at, step_by, way_of, touch_of, dirty_of, dirty_lines}
use Rattle.set_cache.proofs.Dirty.{held_marked}
use Rattle.branch_pred.specs.Guesses.{is_wrong_branch, is_wrong_jump}
use Rattle.mem_system.specs.Hierarchy.{Hierarchy}
use Rattle.mem_system.specs.Cost.{Touch, Fetch, Load, Store, WalkRead, Look, Branch, Jump, EmptyTlb, Flush, Charge, Core, Caches, Read, WriteBack, given_up, unless_hit, fetched, accessed, looked, guessed, branched, jumped, flushed, is_pinned, marked_where, below, below_all, on_core}
use Rattle.mem_system.specs.TouchLaws.{holds}
use Rattle.mem_system.specs.Tally.{Tally, none, plus, one_if, one_guess, one_look, one_access, tally_access, tally_on_core, Reader, OfFetch, OfAccess, OfWalk, one_read, tally_by, tally_if, tally_below, tally_below_all, tally}
use Rattle.mem_system.specs.TallyLaws.{in_first, in_second, in_memory, has_line, gives_back, answer_of, FetchCounts, AccessCounts, ReadCounts, WalkCounts, GuessCounts, Counts, CountsLaw}
use Rattle.mem_system.proofs.TouchLaws.{held_hit}
use Rattle.mem_system.proofs.TallyPrices.{plus-none, none-plus, clean_hit, backs_none}

-- ---- a read at the second level

-- a line that a cache doesn't hold is a miss
missed_step : (rule : Rule) (set : CacheSet) (line : ℕ) (store : Bool) (f : ℕ → ℕ) (way : Option ℕ)
    → is_some (option_map f way) ≡ false
    → (step_by rule set line store way).answer.hit ≡ false
missed_step rule set line store f (Some way) missed = absurd (true≢false missed)
missed_step rule set line store f None missed = refl

missed_hit : (shape : Shape) (sets : Sets) (line : ℕ) (store : Bool) → holds shape sets line ≡ false
    → (touch_of shape sets line store).answer.hit ≡ false
missed_hit shape sets line store =
    let set : CacheSet = set_at shape.ways sets (line % shape.count) in
    missed_step shape.rule set line store (λ way. line % shape.count * shape.ways + way) (way_of line set.places)

and_false : (b : Bool) → (b && false) ≡ false
and_false true = refl
and_false false = refl

-- a read of memory, and a dirty line that gives way to it
abbrev from_memory : Reader → Bool → Tally
from_memory reader dirty = record (one_read reader false) { backs_second = one_if dirty }

no_backs : (reader : Reader) → record (one_read reader true) { backs_second = 0 } ≡ one_read reader true
unfolding one_read one_access none
no_backs OfFetch = refl
no_backs (OfAccess true) = refl
no_backs (OfAccess false) = refl
no_backs OfWalk = refl

-- what the first level says to a miss
abbrev a_miss : Option ℕ → Bool → Answer
a_miss victim dirty = record { hit = false; victim = victim; dirty_victim = dirty }

-- which the second level answers, or memory
missed_second : (store dirty : Bool) (victim : Option ℕ)
    → plus (tally_access store (a_miss victim dirty)) (one_read (OfAccess store) true)
    ≡ record (one_access store in_second) { backs_first = one_if dirty }
unfolding plus none tally_access one_access one_read
missed_second true true victim = refl
missed_second true false victim = refl
missed_second false true victim = refl
missed_second false false victim = refl

missed_memory : (store dirty back : Bool) (victim : Option ℕ)
    → plus (tally_access store (a_miss victim dirty)) (from_memory (OfAccess store) back)
    ≡ record (one_access store in_memory) { backs_first = one_if dirty; backs_second = one_if back }
unfolding plus none tally_access one_access one_read
missed_memory true true true victim = refl
missed_memory true true false victim = refl
missed_memory true false true victim = refl
missed_memory true false false victim = refl
missed_memory false true true victim = refl
missed_memory false true false victim = refl
missed_memory false false true victim = refl
missed_memory false false false victim = refl

module _ (h : Hierarchy) where
  by_answer : (reader : Reader) (hit dirty : Bool) → hit ≡ true → dirty ≡ false
      → record (one_read reader hit) { backs_second = one_if (h.back && dirty) } ≡ one_read reader true
  by_answer reader true false hit clean =
      ap (λ (dirty : Bool). record (one_read reader true) { backs_second = one_if dirty }) (and_false h.back)
      ∙ no_backs reader
  by_answer reader true true hit clean = absurd (true≢false clean)
  by_answer reader false dirty hit clean = absurd (true≢false (sym hit))

  pub if_second : (test : Bool) (reader : Reader) (sets : Sets) (line : ℕ) → (test || holds h.l2 sets line) ≡ true
      → tally_if test reader h sets line ≡ one_read reader true
  unfolding tally_if tally_by
  if_second true reader sets line has = refl
  if_second false reader sets line has =
      let hit = held_hit h.l2 sets line false has in
      let answer = (touch_of h.l2 sets line false).answer in
      by_answer reader answer.hit answer.dirty_victim hit (clean_hit h.l2 sets line false hit)

  if_memory : (test : Bool) (reader : Reader) (sets : Sets) (line : ℕ) → (test || holds h.l2 sets line) ≡ false
      → tally_if test reader h sets line ≡ from_memory reader (gives_back h sets line)
  unfolding tally_if tally_by
  if_memory true reader sets line has = absurd (true≢false has)
  if_memory false reader sets line has =
      ap (λ (hit : Bool). record (one_read reader hit) { backs_second = one_if (gives_back h sets line) })
      (missed_hit h.l2 sets line false has)

  module _ (pinned : Bool) where
    pub read_second : (reader : Reader) (sets : Sets) (line : ℕ) → has_line h pinned sets line ≡ true
        → tally_below reader h pinned sets (Read line) ≡ one_read reader true
    unfolding tally_below
    read_second reader sets line has = if_second (is_pinned h pinned line) reader sets line has

    pub read_memory : (reader : Reader) (sets : Sets) (line : ℕ) → has_line h pinned sets line ≡ false
        → tally_below reader h pinned sets (Read line) ≡ from_memory reader (gives_back h sets line)
    unfolding tally_below
    read_memory reader sets line has = if_memory (is_pinned h pinned line) reader sets line has

    only_read : (reader : Reader) (sets : Sets) (line : ℕ)
        → tally_below_all reader h pinned sets (Read line ∷ []) ≡ tally_below reader h pinned sets (Read line)
    unfolding tally_below_all
    only_read reader sets line = plus-none (tally_below reader h pinned sets (Read line))

    -- ---- fetches

    abbrev fetch_of : Sets → ℕ → Bool → Tally
    fetch_of sets line hit =
        plus (record none { fetches = record { first = one_if hit; second = 0; memory = 0 } })
        (tally_below_all OfFetch h pinned sets (unless_hit hit line))

    fetch_first : (sets : Sets) (line : ℕ) (hit : Bool) → hit ≡ true
        → fetch_of sets line hit ≡ record none { fetches = in_first }
    unfolding plus none tally_below_all
    fetch_first sets line true is = refl
    fetch_first sets line false is = absurd (true≢false (sym is))

    fetch_missed : (sets : Sets) (line : ℕ) (hit : Bool) → hit ≡ false
        → fetch_of sets line hit ≡ tally_below OfFetch h pinned sets (Read line)
    unfolding none
    fetch_missed sets line true is = absurd (true≢false is)
    fetch_missed sets line false is =
        none-plus (tally_below_all OfFetch h pinned sets (Read line ∷ [])) ∙ only_read OfFetch sets line

    fetch_counts : (c : Caches) (line : ℕ) → FetchCounts h pinned c line (tally h pinned c (Fetch line))
    unfolding tally tally_on_core on_core fetched one_read none
    fetch_counts c line =
        let hit : Bool = (touch_of h.l1i c.core.l1i line false).answer.hit in
        let goes_on = λ (absent : holds h.l1i c.core.l1i line ≡ false).
        fetch_missed c.l2 line hit (missed_hit h.l1i c.core.l1i line false absent) in
        record {
          first = λ held. fetch_first c.l2 line hit (held_hit h.l1i c.core.l1i line false held);
          second = λ absent has. goes_on absent ∙ read_second OfFetch c.l2 line has;
          memory = λ absent has. goes_on absent ∙ read_memory OfFetch c.l2 line has;
        }

    -- ---- loads and stores

    abbrev access_of : Bool → Sets → Answer → ℕ → Tally
    access_of store sets answer line =
        plus (tally_access store answer) (tally_below_all (OfAccess store) h pinned sets
        (given_up answer.victim answer.dirty_victim ++ unless_hit answer.hit line))

    -- the second level after what is given up
    abbrev after : Sets → Option ℕ → Bool → Sets
    after sets victim dirty = (below_all h pinned sets (given_up victim dirty)).l2

    -- which moves no line
    marked_has : (test : Bool) (sets : Sets) (victim line : ℕ)
        → has_line h pinned (marked_where test h sets victim) line ≡ has_line h pinned sets line
    marked_has true sets victim line =
        ap (λ (b : Bool). is_pinned h pinned line || b) (held_marked h.l2 sets victim line)
    marked_has false sets victim line = refl

    after_has : (sets : Sets) (victim : Option ℕ) (dirty : Bool) (line : ℕ)
        → has_line h pinned (after sets victim dirty) line ≡ has_line h pinned sets line
    unfolding below_all below
    after_has sets (Some victim) true line = marked_has (h.back && not (is_pinned h pinned victim)) sets victim line
    after_has sets (Some victim) false line = refl
    after_has sets None dirty line = refl

    back_read : (reader : Reader) (sets : Sets) (victim line : ℕ)
        → tally_below_all reader h pinned sets (WriteBack victim ∷ Read line ∷ [])
        ≡ tally_below reader h pinned (below h pinned sets (WriteBack victim)).l2 (Read line)
    unfolding tally_below_all tally_below
    back_read reader sets victim line =
        let next : Sets = (below h pinned sets (WriteBack victim)).l2 in
        none-plus (tally_below_all reader h pinned next (Read line ∷ [])) ∙ only_read reader next line

    -- what comes after it
    given_read : (reader : Reader) (sets : Sets) (victim : Option ℕ) (dirty : Bool) (line : ℕ)
        → tally_below_all reader h pinned sets (given_up victim dirty ++ (Read line ∷ []))
        ≡ tally_below reader h pinned (after sets victim dirty) (Read line)
    unfolding below_all
    given_read reader sets (Some victim) true line = back_read reader sets victim line
    given_read reader sets (Some victim) false line = only_read reader sets line
    given_read reader sets None dirty line = only_read reader sets line

    access_first : (store : Bool) (sets : Sets) (rule : Rule) (set : CacheSet) (line : ℕ) (f : ℕ → ℕ)
        (way : Option ℕ) → is_some (option_map f way) ≡ true
        → access_of store sets (step_by rule set line store way).answer line ≡ one_access store in_first
    unfolding plus none tally_access one_access tally_below_all
    access_first true sets rule set line f (Some way) held = refl
    access_first false sets rule set line f (Some way) held = refl
    access_first store sets rule set line f None held = absurd (true≢false (sym held))

    access_second : (store : Bool) (sets : Sets) (rule : Rule) (set : CacheSet) (line : ℕ) (f : ℕ → ℕ)
        (way : Option ℕ) → is_some (option_map f way) ≡ false → has_line h pinned sets line ≡ true
        → let answer = (step_by rule set line store way).answer in
        access_of store sets answer line
        ≡ record (one_access store in_second) { backs_first = one_if answer.dirty_victim }
    access_second store sets rule set line f (Some way) missed has = absurd (true≢false missed)
    access_second store sets rule set line f None missed has =
        let answer = (step_by rule set line store None).answer in
        let next : Sets = after sets answer.victim answer.dirty_victim in
        ap (plus (tally_access store answer))
        (given_read (OfAccess store) sets answer.victim answer.dirty_victim line
        ∙ read_second (OfAccess store) next line (after_has sets answer.victim answer.dirty_victim line ∙ has))
        ∙ missed_second store answer.dirty_victim answer.victim

    access_memory : (store : Bool) (sets : Sets) (rule : Rule) (set : CacheSet) (line : ℕ) (f : ℕ → ℕ)
        (way : Option ℕ) → is_some (option_map f way) ≡ false → has_line h pinned sets line ≡ false
        → let answer = (step_by rule set line store way).answer in
        access_of store sets answer line
        ≡ record (one_access store in_memory) {
          backs_first = one_if answer.dirty_victim;
          backs_second = one_if (gives_back h (after sets answer.victim answer.dirty_victim) line);
        }
    access_memory store sets rule set line f (Some way) missed has = absurd (true≢false missed)
    access_memory store sets rule set line f None missed has =
        let answer = (step_by rule set line store None).answer in
        let next : Sets = after sets answer.victim answer.dirty_victim in
        ap (plus (tally_access store answer))
        (given_read (OfAccess store) sets answer.victim answer.dirty_victim line
        ∙ read_memory (OfAccess store) next line (after_has sets answer.victim answer.dirty_victim line ∙ has))
        ∙ missed_memory store answer.dirty_victim (gives_back h next line) answer.victim

    access_counts : (c : Caches) (store : Bool) (line : ℕ)
        → AccessCounts (one_access store) h pinned c store line (access_of store c.l2 (answer_of h c store line) line)
    access_counts c store line =
        let set : CacheSet = set_at h.l1d.ways c.core.l1d (line % h.l1d.count) in
        let way : Option ℕ = way_of line set.places in
        let f : ℕ → ℕ = λ way. line % h.l1d.count * h.l1d.ways + way in
        record {
          first = access_first store c.l2 h.l1d.rule set line f way;
          second = access_second store c.l2 h.l1d.rule set line f way;
          memory = access_memory store c.l2 h.l1d.rule set line f way;
        }

    -- ---- walks

    record OnlyReads (reads : ℕ) (t : Tally) : Type 0 where
      entries : t.reads_second + t.reads_memory ≡ reads
      backs : t.backs_second ≤ t.reads_memory
      off : h.back ≡ false → t.backs_second ≡ 0
      nothing_else : t ≡ record none {
        reads_second = t.reads_second;
        reads_memory = t.reads_memory;
        backs_second = t.backs_second;
      }

    one_second : OnlyReads 1 (one_read OfWalk true)
    unfolding one_read none
    one_second = record { entries = refl; backs = omega arith; off = λ _. refl; nothing_else = refl }

    one_if_most : (b : Bool) → one_if b ≤ 1
    one_if_most true = omega arith
    one_if_most false = omega arith

    one_memory : (sets : Sets) (line : ℕ) → OnlyReads 1 (from_memory OfWalk (gives_back h sets line))
    unfolding one_read none
    one_memory sets line = record {
      entries = refl;
      backs = one_if_most (gives_back h sets line);
      off = λ is. ap (λ (back : Bool). one_if (back && (touch_of h.l2 sets line false).answer.dirty_victim)) is;
      nothing_else = refl;
    }

    one_walk_read : (sets : Sets) (line : ℕ) (has : Bool) → has_line h pinned sets line ≡ has
        → OnlyReads 1 (tally_below OfWalk h pinned sets (Read line))
    one_walk_read sets line true has = subst (OnlyReads 1) (sym (read_second OfWalk sets line has)) one_second
    one_walk_read sets line false has =
        subst (OnlyReads 1) (sym (read_memory OfWalk sets line has)) (one_memory sets line)

    both_reads : (n m : ℕ) (a b : Tally) → OnlyReads n a → OnlyReads m b → OnlyReads (n + m) (plus a b)
    unfolding plus none
    both_reads n m a b one more = record {
      entries = omega (arith, one.entries, more.entries);
      backs = omega (arith, one.backs, more.backs);
      off = λ is. ap₂ (λ (x y : ℕ). x + y) (one.off is) (more.off is);
      nothing_else = ap₂ plus one.nothing_else more.nothing_else;
    }

    no_reads : OnlyReads 0 none
    unfolding none
    no_reads = record { entries = refl; backs = omega arith; off = λ _. refl; nothing_else = refl }

    walk_reads : (sets : Sets) (reads : List ℕ)
        → OnlyReads (length reads) (tally_below_all OfWalk h pinned sets (map Read reads))
    unfolding tally_below_all
    walk_reads sets [] = no_reads
    walk_reads sets (line ∷ lines) =
        let next : Sets = (below h pinned sets (Read line)).l2 in
        let first : Tally = tally_below OfWalk h pinned sets (Read line) in
        let others : Tally = tally_below_all OfWalk h pinned next (map Read lines) in
        let one = one_walk_read sets line (has_line h pinned sets line) refl in
        let rest = walk_reads next lines in
        subst (λ (n : ℕ). OnlyReads n (plus first others)) (omega arith)
        (both_reads 1 (length lines) first others one rest)

    walk_counts : (reads : ℕ) (t : Tally) → OnlyReads reads t → WalkCounts h reads (plus (one_look false) t)
    unfolding plus none one_look
    walk_counts reads t made = record {
      entries = omega (arith, made.entries);
      backs = omega (arith, made.backs);
      off = λ is. ap (λ (n : ℕ). 0 + n) (made.off is);
      nothing_else = ap (plus (one_look false)) made.nothing_else;
    }

    abbrev look_of : Sets → Core → ℕ → List ℕ → Bool → Bool → Tally
    look_of sets core page reads found kept =
        plus (one_look kept) (tally_below_all OfWalk h pinned sets (looked h core page reads found kept).passed)

    look_kept : (sets : Sets) (core : Core) (page : ℕ) (reads : List ℕ) (found kept : Bool) → kept ≡ true
        → look_of sets core page reads found kept ≡ record none { looks_kept = 1 }
    unfolding looked plus none one_look tally_below_all
    look_kept sets core page reads found true is = refl
    look_kept sets core page reads found false is = absurd (true≢false (sym is))

    look_walked : (sets : Sets) (core : Core) (page : ℕ) (reads : List ℕ) (found kept : Bool) → kept ≡ false
        → WalkCounts h (length reads) (look_of sets core page reads found kept)
    unfolding looked
    look_walked sets core page reads found true is = absurd (true≢false is)
    look_walked sets core page reads true false is =
        walk_counts (length reads) (tally_below_all OfWalk h pinned sets (map Read reads)) (walk_reads sets reads)
    look_walked sets core page reads false false is =
        walk_counts (length reads) (tally_below_all OfWalk h pinned sets (map Read reads)) (walk_reads sets reads)

    -- ---- each touch

    guess_counts : (wrong : Bool) → GuessCounts wrong (plus (one_guess wrong) none)
    unfolding plus none one_guess
    guess_counts true = record { right = λ is. absurd (true≢false is); missed = λ _. refl }
    guess_counts false = record { right = λ _. refl; missed = λ is. absurd (true≢false (sym is)) }

    walk_read_counts : (c : Caches) (line : ℕ)
        → ReadCounts h pinned c line (plus none (tally_below_all OfWalk h pinned c.l2 (Read line ∷ [])))
    unfolding one_read none
    walk_read_counts c line =
        let alone = none-plus (tally_below_all OfWalk h pinned c.l2 (Read line ∷ [])) ∙ only_read OfWalk c.l2 line in
        record {
          second = λ has. alone ∙ read_second OfWalk c.l2 line has;
          memory = λ has. alone ∙ read_memory OfWalk c.l2 line has;
        }

    pub counts_is : (c : Caches) (t : Touch) → Counts h pinned c t (tally h pinned c t)
    unfolding tally tally_on_core on_core accessed guessed branched jumped flushed one_access tally_below_all
    counts_is c (Fetch line) = fetch_counts c line
    counts_is c (Load line) = access_counts c false line
    counts_is c (Store line) = access_counts c true line
    counts_is c (WalkRead line) = walk_read_counts c line
    counts_is c (Look page reads found) = record {
      kept = look_kept c.l2 c.core page reads found (holds h.tlb c.core.tlb page);
      walked = look_walked c.l2 c.core page reads found (holds h.tlb c.core.tlb page);
    }
    counts_is c (Branch pc taken target) = guess_counts (is_wrong_branch c.core.guesses pc taken target)
    counts_is c (Jump pc target) = guess_counts (is_wrong_jump c.core.guesses pc target)
    counts_is c EmptyTlb = plus-none none
    counts_is c Flush =
        let core : Tally = record none { backs_first = dirty_of h.l1d c.core.l1d; charged = h.costs.flush } in
        ap (plus core) (backs_none h pinned OfWalk c.l2 (dirty_lines h.l1d c.core.l1d)) ∙ plus-none core
    counts_is c (Charge cycles) = plus-none (record none { charged = cycles })

pub counts_law : CountsLaw
counts_law h pinned c t = counts_is h pinned c t
