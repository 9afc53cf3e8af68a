-- Each touch of a list is counted once, and the first level gives no dirty line up twice.
use Rattle.std.proofs.Common.{arith, ◌≡◌, ◌∙◌, ◌≢◌, sym, refl, ap, subst, ℕ, zero, suc, ◌+◌, ◌-◌, ◌<◌, ◌≤◌, ◌%◌, Bool, true, false, List, [], ◌∷◌, Option, Some, None, get_or, set, cond}
use Rattle.std.specs.Prelude.{◌&&◌, count_by}
use Rattle.std.proofs.lemmas.List.Sums.{sum_by-cons}
use Rattle.std.proofs.lemmas.Nat.{mod_below}
use Rattle.tp_base.specs.Table.{empty, put, at-put_same, at-put_other, at-empty}
use Rattle.set_cache.specs.Rule.{Rule}
use Rattle.set_cache.specs.declared.KeptLine.{KeptLine}
use Rattle.set_cache.specs.Cache.{Shape, CacheSet, Sets, fresh_set, set_at, is_dirty, step_by, step_of, way_of, way_for, touch_of, dirty_in, dirty_below, dirty_of}
use Rattle.branch_pred.specs.Guesses.{is_wrong_branch, is_wrong_jump}
use Rattle.mem_system.specs.Hierarchy.{Hierarchy}
use Rattle.mem_system.specs.Cost.{Touch, Fetch, Load, Store, WalkRead, Look, Branch, Jump, EmptyTlb, Flush, Charge, Caches, fresh_core, fetched, accessed, guessed, branched, jumped, flushed, on_core, pass_on, touched, touched_all, and_then}
use Rattle.mem_system.specs.TouchLaws.{holds}
use Rattle.mem_system.specs.Tally.{Answered, Tally, none, plus, all_of, at_memory, one_if, tally, tally_all}
use Rattle.mem_system.specs.TallyLaws.{in_first, in_second, in_memory, has_line, gives_back, as_load, as_store, answer_of, after_back, FetchCounts, AccessCounts, ReadCounts, LookCounts, GuessCounts, is_fetch, is_load, is_store, is_look, is_guess, charge_of, CensusLaw, BacksLaw}
use Rattle.mem_system.proofs.TouchLaws.{looked_l1d}
use Rattle.mem_system.proofs.TallyCases.{counts_is}

-- ---- one touch

-- the most dirty lines that the first level gives up in it
abbrev most_given : Hierarchy → Caches → Touch → ℕ
most_given h c (Load line) = one_if (answer_of h c false line).dirty_victim
most_given h c (Store line) = one_if (answer_of h c true line).dirty_victim
most_given h c Flush = dirty_of h.l1d c.core.l1d
most_given h c _ = 0

record IsOne (h : Hierarchy) (c : Caches) (touch : Touch) (t : Tally) : Type 0 where
  fetches : all_of t.fetches ≡ cond (is_fetch touch) 1 0
  loads : all_of t.loads ≡ cond (is_load touch) 1 0
  stores : all_of t.stores ≡ cond (is_store touch) 1 0
  looks : t.looks_kept + t.looks_walked ≡ cond (is_look touch) 1 0
  guesses : t.guesses_right + t.guesses_wrong ≡ cond (is_guess touch) 1 0
  first : t.backs_first ≤ most_given h c touch
  backs : t.backs_second ≤ at_memory t
  off : h.back ≡ false → t.backs_second ≡ 0
  charged : t.charged ≡ charge_of h.costs touch
  waited : t.waited ≡ 0

one_if_most : (b : Bool) → one_if b ≤ 1
one_if_most true = omega arith
one_if_most false = omega arith

module _ (h : Hierarchy) (pinned : Bool) (c : Caches) where
  -- whether a miss of the second level gives a dirty line up there, is at most one, and none without `back`
  record IsGiven (n : ℕ) : Type 0 where
    most : n ≤ 1
    off : h.back ≡ false → n ≡ 0

  given : (dirty : Bool) → IsGiven (one_if (h.back && dirty))
  given dirty = record {
    most = one_if_most (h.back && dirty);
    off = λ is. ap (λ (back : Bool). one_if (back && dirty)) is;
  }

  fetch_there : (line : ℕ) → IsOne h c (Fetch line) (record none { fetches = in_first })
  unfolding none
  fetch_there line = omega arith

  fetch_second : (line : ℕ) → IsOne h c (Fetch line) (record none { fetches = in_second })
  unfolding none
  fetch_second line = omega arith

  fetch_memory : (line n : ℕ) → IsGiven n
      → IsOne h c (Fetch line) (record none { fetches = in_memory; backs_second = n })
  unfolding none
  fetch_memory line n its = omega arith

  one_fetch : (line : ℕ) (t : Tally) (held has : Bool) → FetchCounts h pinned c line t
      → holds h.l1i c.core.l1i line ≡ held → has_line h pinned c.l2 line ≡ has → IsOne h c (Fetch line) t
  one_fetch line t true has counts is_held is_had =
      subst (IsOne h c (Fetch line)) (sym (counts.first is_held)) (fetch_there line)
  one_fetch line t false true counts is_held is_had =
      subst (IsOne h c (Fetch line)) (sym (counts.second is_held is_had)) (fetch_second line)
  one_fetch line t false false counts is_held is_had =
      let its = given (touch_of h.l2 c.l2 line false).answer.dirty_victim in
      subst (IsOne h c (Fetch line)) (sym (counts.memory is_held is_had))
      (fetch_memory line (one_if (gives_back h c.l2 line)) its)

  -- a load or a store, and what it counts where it was answered there
  abbrev access : Bool → ℕ → Touch
  access true line = Store line
  access false line = Load line

  abbrev counted : Bool → Answered → Tally
  counted true there = as_store there
  counted false there = as_load there

  -- with so many lines given up
  access_there : (store : Bool) (line : ℕ) (there : Answered) (first second : ℕ) → all_of there ≡ 1
      → first ≤ one_if (answer_of h c store line).dirty_victim → second ≤ there.memory
      → (h.back ≡ false → second ≡ 0)
      → IsOne h c (access store line) (record (counted store there) { backs_first = first; backs_second = second })
  unfolding none
  access_there true line there first second one most few off = omega arith
  access_there false line there first second one most few off = omega arith

  given_first : (store : Bool) (there : Answered) (first : ℕ)
      → record (counted store there) { backs_first = first; backs_second = 0 }
      ≡ record (counted store there) { backs_first = first }
  unfolding none
  given_first true there first = refl
  given_first false there first = refl

  given_none : (store : Bool) (there : Answered)
      → record (counted store there) { backs_first = 0; backs_second = 0 } ≡ counted store there
  unfolding none
  given_none true there = refl
  given_none false there = refl

  one_access : (store : Bool) (line : ℕ) (t : Tally) (held has : Bool)
      → AccessCounts (counted store) h pinned c store line t → holds h.l1d c.core.l1d line ≡ held
      → has_line h pinned c.l2 line ≡ has → IsOne h c (access store line) t
  one_access store line t true has counts is_held is_had =
      subst (IsOne h c (access store line)) (given_none store in_first ∙ sym (counts.first is_held))
      (access_there store line in_first 0 0 refl (omega arith) (omega arith) (λ _. refl))
  one_access store line t false true counts is_held is_had =
      let first : ℕ = one_if (answer_of h c store line).dirty_victim in
      subst (IsOne h c (access store line)) (given_first store in_second first ∙ sym (counts.second is_held is_had))
      (access_there store line in_second first 0 refl (omega arith) (omega arith) (λ _. refl))
  one_access store line t false false counts is_held is_had =
      let answer = answer_of h c store line in
      let sets = after_back h pinned c answer in
      let its = given (touch_of h.l2 sets line false).answer.dirty_victim in
      subst (IsOne h c (access store line)) (sym (counts.memory is_held is_had))
      (access_there store line in_memory (one_if answer.dirty_victim) (one_if (gives_back h sets line)) refl
      (omega arith) its.most its.off)

  read_there : (line second memory backs : ℕ) → backs ≤ memory → (h.back ≡ false → backs ≡ 0)
      → IsOne h c (WalkRead line) (record none { reads_second = second; reads_memory = memory; backs_second = backs })
  unfolding none
  read_there line second memory backs few off = omega arith

  one_read : (line : ℕ) (t : Tally) (has : Bool) → ReadCounts h pinned c line t
      → has_line h pinned c.l2 line ≡ has → IsOne h c (WalkRead line) t
  unfolding none
  one_read line t true counts is_had =
      subst (IsOne h c (WalkRead line)) (sym (counts.second is_had)) (read_there line 1 0 0 (omega arith) (λ _. refl))
  one_read line t false counts is_had =
      let its = given (touch_of h.l2 c.l2 line false).answer.dirty_victim in
      subst (IsOne h c (WalkRead line)) (sym (counts.memory is_had))
      (read_there line 0 1 (one_if (gives_back h c.l2 line)) its.most its.off)

  look_kept : (page : ℕ) (reads : List ℕ) (found : Bool)
      → IsOne h c (Look page reads found) (record none { looks_kept = 1 })
  unfolding none
  look_kept page reads found = omega arith

  look_walked : (page : ℕ) (reads : List ℕ) (found : Bool) (second memory backs : ℕ) → backs ≤ memory
      → (h.back ≡ false → backs ≡ 0)
      → IsOne h c (Look page reads found)
      (record none { looks_walked = 1; reads_second = second; reads_memory = memory; backs_second = backs })
  unfolding none
  look_walked page reads found second memory backs few off = omega arith

  one_look : (page : ℕ) (reads : List ℕ) (found : Bool) (t : Tally) (kept : Bool) → LookCounts h c page reads t
      → holds h.tlb c.core.tlb page ≡ kept → IsOne h c (Look page reads found) t
  one_look page reads found t true counts is_kept =
      subst (IsOne h c (Look page reads found)) (sym (counts.kept is_kept)) (look_kept page reads found)
  one_look page reads found t false counts is_kept =
      let walk = counts.walked is_kept in
      subst (IsOne h c (Look page reads found)) (sym walk.nothing_else)
      (look_walked page reads found t.reads_second t.reads_memory t.backs_second walk.backs walk.off)

  -- so many guesses
  abbrev guesses_of : ℕ → ℕ → Tally
  guesses_of right wrong = record none { guesses_right = right; guesses_wrong = wrong }

  branch_there : (pc : ℕ) (taken : Bool) (target right wrong : ℕ) → right + wrong ≡ 1
      → IsOne h c (Branch pc taken target) (guesses_of right wrong)
  unfolding none
  branch_there pc taken target right wrong one = omega arith

  jump_there : (pc target right wrong : ℕ) → right + wrong ≡ 1 → IsOne h c (Jump pc target) (guesses_of right wrong)
  unfolding none
  jump_there pc target right wrong one = omega arith

  one_branch : (pc : ℕ) (taken : Bool) (target : ℕ) (t : Tally) (wrong : Bool) → GuessCounts wrong t
      → IsOne h c (Branch pc taken target) t
  unfolding none
  one_branch pc taken target t true counts =
      subst (IsOne h c (Branch pc taken target)) (sym (counts.missed refl)) (branch_there pc taken target 0 1 refl)
  one_branch pc taken target t false counts =
      subst (IsOne h c (Branch pc taken target)) (sym (counts.right refl)) (branch_there pc taken target 1 0 refl)

  one_jump : (pc target : ℕ) (t : Tally) (wrong : Bool) → GuessCounts wrong t → IsOne h c (Jump pc target) t
  unfolding none
  one_jump pc target t true counts =
      subst (IsOne h c (Jump pc target)) (sym (counts.missed refl)) (jump_there pc target 0 1 refl)
  one_jump pc target t false counts =
      subst (IsOne h c (Jump pc target)) (sym (counts.right refl)) (jump_there pc target 1 0 refl)

  empty_there : IsOne h c EmptyTlb none
  unfolding none
  empty_there = omega arith

  flush_there : IsOne h c Flush (record none { backs_first = dirty_of h.l1d c.core.l1d; charged = h.costs.flush })
  unfolding none
  flush_there = omega arith

  charge_there : (cycles : ℕ) → IsOne h c (Charge cycles) (record none { charged = cycles })
  unfolding none
  charge_there cycles = omega arith

  one : (touch : Touch) → IsOne h c touch (tally h pinned c touch)
  one (Fetch line) =
      one_fetch line (tally h pinned c (Fetch line)) (holds h.l1i c.core.l1i line) (has_line h pinned c.l2 line)
      (counts_is h pinned c (Fetch line)) refl refl
  one (Load line) =
      one_access false line (tally h pinned c (Load line)) (holds h.l1d c.core.l1d line) (has_line h pinned c.l2 line)
      (counts_is h pinned c (Load line)) refl refl
  one (Store line) =
      one_access true line (tally h pinned c (Store line)) (holds h.l1d c.core.l1d line) (has_line h pinned c.l2 line)
      (counts_is h pinned c (Store line)) refl refl
  one (WalkRead line) =
      one_read line (tally h pinned c (WalkRead line)) (has_line h pinned c.l2 line)
      (counts_is h pinned c (WalkRead line)) refl
  one (Look page reads found) =
      one_look page reads found (tally h pinned c (Look page reads found)) (holds h.tlb c.core.tlb page)
      (counts_is h pinned c (Look page reads found)) refl
  one (Branch pc taken target) =
      one_branch pc taken target (tally h pinned c (Branch pc taken target))
      (is_wrong_branch c.core.guesses pc taken target) (counts_is h pinned c (Branch pc taken target))
  one (Jump pc target) =
      one_jump pc target (tally h pinned c (Jump pc target)) (is_wrong_jump c.core.guesses pc target)
      (counts_is h pinned c (Jump pc target))
  one EmptyTlb = subst (IsOne h c EmptyTlb) (sym (counts_is h pinned c EmptyTlb)) empty_there
  one Flush = subst (IsOne h c Flush) (sym (counts_is h pinned c Flush)) flush_there
  one (Charge cycles) =
      subst (IsOne h c (Charge cycles)) (sym (counts_is h pinned c (Charge cycles))) (charge_there cycles)

-- ---- touches one after the other

count-cons : {X : Type 0} (test : X → Bool) (x : X) (xs : List X)
    → count_by test (x ∷ xs) ≡ cond (test x) 1 0 + count_by test xs
count-cons test x xs = sum_by-cons (λ y. cond (test y) 1 0) x xs

pub census_law : CensusLaw
unfolding tally_all plus none
census_law h pinned c [] = omega arith
census_law h pinned c (t ∷ ts) =
    let one = one h pinned c t in
    let rest = census_law h pinned (touched h pinned c t).caches ts in
    let fetches = count-cons is_fetch t ts in
    let loads = count-cons is_load t ts in
    let stores = count-cons is_store t ts in
    let looks = count-cons is_look t ts in
    let guesses = count-cons is_guess t ts in
    let charges = sum_by-cons (charge_of h.costs) t ts in
    record {
      fetches = omega (arith, fetches, one.fetches, rest.fetches);
      loads = omega (arith, loads, one.loads, rest.loads);
      stores = omega (arith, stores, one.stores, rest.stores);
      looks = omega (arith, looks, one.looks, rest.looks);
      guesses = omega (arith, guesses, one.guesses, rest.guesses);
      backs = omega (arith, one.backs, rest.backs);
      off = λ is. let first = one.off is in let later = rest.off is in omega (arith, first, later);
      charged = omega (arith, charges, one.charged, rest.charged);
      waited = omega (arith, one.waited, rest.waited);
    }

-- ---- dirty lines

-- of a way's new line and of its old one
count-set : (places : List (Option KeptLine)) (way : ℕ) (new : Option KeptLine)
    → dirty_in (set places way new) + cond (is_dirty (get_or places way None)) 1 0
    ≤ dirty_in places + cond (is_dirty new) 1 0
count-set [] way new = omega arith
count-set (kept ∷ places) zero new =
    let old = count-cons is_dirty kept places in
    let next = count-cons is_dirty new places in
    omega (arith, old, next)
count-set (kept ∷ places) (suc way) new =
    let old = count-cons is_dirty kept places in
    let next = count-cons is_dirty kept (set places way new) in
    let rest = count-set places way new in
    omega (arith, old, next, rest)

one_if-cond : (b : Bool) → one_if b ≡ cond b 1 0
one_if-cond true = refl
one_if-cond false = refl

-- a step of a set gives up a line that was dirty, and makes a line dirty where it is a store
step_backs : (rule : Rule) (its : CacheSet) (number : ℕ) (store : Bool) (way : Option ℕ)
    → let step = step_by rule its number store way in
    dirty_in step.next.places + one_if step.answer.dirty_victim ≤ dirty_in its.places + cond store 1 0
step_backs rule its number true (Some way) =
    let set = count-set its.places way (Some (record { number = number; dirty = true })) in
    omega (arith, set)
step_backs rule its number false (Some way) = omega arith
step_backs rule its number store None =
    let way : ℕ = way_for rule its in
    let set = count-set its.places way (Some (record { number = number; dirty = store })) in
    let old = one_if-cond (is_dirty (get_or its.places way None)) in
    omega (arith, set, old)

module _ (ways : ℕ) (sets : Sets) (s : ℕ) (new : CacheSet) where
  abbrev dirty_at : Sets → ℕ → ℕ
  dirty_at of i = dirty_in (set_at ways of i).places

  same_at : dirty_at (put sets s new) s ≡ dirty_in new.places
  same_at = ap (λ (its : CacheSet). dirty_in its.places) (at-put_same (fresh_set ways) sets s new)

  other_at : (i : ℕ) → i ≢ s → dirty_at (put sets s new) i ≡ dirty_at sets i
  other_at i other = ap (λ (its : CacheSet). dirty_in its.places) (at-put_other (fresh_set ways) sets s i new other)

  -- the sets before it stay
  before-put : (count : ℕ) → count ≤ s → dirty_below ways (put sets s new) count ≡ dirty_below ways sets count
  before-put zero before = refl
  before-put (suc count) before =
      let rest = before-put count (omega (arith, before)) in
      let stays = other_at count (λ same. omega (arith, same, before)) in
      omega (arith, rest, stays)

  -- of the sets below a number the one changes
  abbrev Changes : ℕ → Type 0
  Changes count =
      dirty_below ways (put sets s new) count + dirty_at sets s ≡ dirty_below ways sets count + dirty_in new.places

  after-put : (past : ℕ) → Changes (past + suc s)
  after-put zero =
      let rest = before-put s (omega arith) in
      let here : Changes (suc s) = omega (arith, rest, same_at) in
      let same : suc s ≡ 0 + suc s = omega arith in
      subst Changes same here
  after-put (suc past) =
      let rest = after-put past in
      let stays = other_at (past + suc s) (λ same. omega (arith, same)) in
      let here : Changes (suc (past + suc s)) = omega (arith, rest, stays) in
      let same : suc (past + suc s) ≡ suc past + suc s = omega arith in
      subst Changes same here

  below-put : (count : ℕ) → s < count → Changes count
  below-put count lt =
      let same : count - suc s + suc s ≡ count = omega (arith, lt) in
      subst Changes same (after-put (count - suc s))

-- a touch of a cache
touch_backs : (shape : Shape) (sets : Sets) (number : ℕ) (store : Bool) → 0 < shape.count
    → let step = touch_of shape sets number store in
    dirty_of shape step.next + one_if step.answer.dirty_victim ≤ dirty_of shape sets + cond store 1 0
touch_backs shape sets number store some =
    let home : ℕ = number % shape.count in
    let its : CacheSet = set_at shape.ways sets home in
    let step = step_of shape.rule its number store in
    let within : home < shape.count = mod_below number shape.count some in
    let moved = below-put shape.ways sets home step.next shape.count within in
    let one = step_backs shape.rule its number store (way_of number its.places) in
    omega (arith, moved, one)

none_fresh : (ways : ℕ) → dirty_in (fresh_set ways).places ≡ 0
none_fresh zero = refl
none_fresh (suc ways) =
    let rest = none_fresh ways in
    let kept : Option KeptLine = None in
    let one = count-cons is_dirty kept (fresh_set ways).places in
    omega (arith, rest, one)

none_below : (ways count : ℕ) → dirty_below ways empty count ≡ 0
none_below ways zero = refl
none_below ways (suc count) =
    let rest = none_below ways count in
    let fresh = ap (λ (its : CacheSet). dirty_in its.places) (at-empty (fresh_set ways) count) in
    let none = none_fresh ways in
    omega (arith, rest, fresh, none)

module _ (h : Hierarchy) (pinned : Bool) (some : 0 < h.l1d.count) where
  -- what a touch gives up, and what is dirty after it
  abbrev Spends : Caches → Touch → Type 0
  Spends c touch =
      most_given h c touch + dirty_of h.l1d (touched h pinned c touch).caches.core.l1d
      ≤ dirty_of h.l1d c.core.l1d + cond (is_store touch) 1 0

  spends : (c : Caches) (touch : Touch) → Spends c touch
  unfolding touched on_core fetched accessed guessed branched jumped flushed fresh_core pass_on
  spends c (Fetch line) = omega arith
  spends c (Load line) = let touch = touch_backs h.l1d c.core.l1d line false some in omega (arith, touch)
  spends c (Store line) = let touch = touch_backs h.l1d c.core.l1d line true some in omega (arith, touch)
  spends c (WalkRead line) = omega arith
  spends c (Look page reads found) =
      let same = ap (dirty_of h.l1d) (looked_l1d h c.core page reads found (holds h.tlb c.core.tlb page)) in
      omega (arith, same)
  spends c (Branch pc taken target) = omega arith
  spends c (Jump pc target) = omega arith
  spends c EmptyTlb = omega arith
  spends c Flush = let fresh = none_below h.l1d.ways h.l1d.count in omega (arith, fresh)
  spends c (Charge cycles) = omega arith

  backs_is : (c : Caches) (ts : List Touch)
      → (tally_all h pinned c ts).backs_first + dirty_of h.l1d (touched_all h pinned c ts).caches.core.l1d
      ≤ dirty_of h.l1d c.core.l1d + count_by is_store ts
  unfolding tally_all plus none touched_all and_then
  backs_is c [] = omega arith
  backs_is c (t ∷ ts) =
      let one = one h pinned c t in
      let spent = spends c t in
      let rest = backs_is (touched h pinned c t).caches ts in
      let stores = count-cons is_store t ts in
      omega (arith, one.first, spent, rest, stores)

pub backs_law : BacksLaw
backs_law h pinned c ts some = backs_is h pinned some c ts
