-- The table of sets: a write of one set, and the sets and lines that the table stands for.
use Rattle.std.proofs.Common.{◌≡◌, ◌≢◌, ℕ, zero, suc, ◌+◌, ◌*◌, ◌<◌, ◌≤◌, ◌%◌, ◌^◌, take, add-one, take_all, Bool, true, false, List, [], length, get_or, set, Option, Some, None, option_map, is_some, replicate, refl, ap, sym, subst, ◌∙◌, arith, inl, inr, get_or-set_other, get_or-set_same}
use Rattle.std.proofs.Math.ListN.{length-set}
use Rattle.std.proofs.lemmas.List.{get_or_default, get_or_past, length-replicate}
use Rattle.std.proofs.lemmas.List.Elements.{All-set, All-replicate}
use Rattle.std.proofs.lemmas.List.Quantifiers.{position-Some}
use Rattle.std.proofs.lemmas.List.Sums.{sum_by_more, sum_by-le, count_by-le-length}
use Rattle.std.proofs.lemmas.Bool.{cases_eq, cases_lt, false≢true}
use Rattle.std.specs.Prelude.{All, sum_by, ◌||◌, unwrap_or, position, is_none, if◌then◌else◌}
use Rattle.std.specs.Int.{IsPowerOfTwo}
use Rattle.tp_base.specs.Table.{put, empty, at-put_same, at-put_other, at-empty}
use Rattle.set_cache.specs.Rule.{Rule}
use Rattle.set_cache.specs.declared.Touch.{Touch}
use Rattle.set_cache.specs.declared.KeptLine.{KeptLine}
use Rattle.set_cache.specs.Cache.{CacheSet, Sets, SetStep, set_at, step_of, step_by, miss_at, way_for, touch_of, dirty_below, dirty_in, dirty_of, fresh_set, is_line, is_dirty, way_of}
use Rattle.set_cache.specs.Contents.{KeptSet, Contents, SetStands, SetSteps, StandsFor, CacheSteps, IsFresh, IsSound, IsOnce, AreFirst, IsHome, kept_at, shape_of}
use Rattle.set_cache.specs.Lines.{MovesLines, MovesMarks, place_in, mark_of, mark_in, dirty_kept}
use Rattle.set_cache.specs.Calls.{IsTouch, IsFlush, IsNew, IsGeometry}
use Rattle.set_cache.specs.Packed.{KeptSets, fresh_sets}
use Rattle.set_cache.proofs.Powers.{positive}
use Rattle.set_cache.proofs.Filling.{first_fresh, first_put, kept_before_way, kept_before_chosen}
use Rattle.set_cache.proofs.Ways.{way_of_none, none_of_way, others_of_way, once_put, ways_of, some_at, kept_before, hit_answer, moves_same, moves_marked, moves_filled, marks_same, marks_marked, marks_filled}

-- what holds of each element holds of one that was read
pub read_at : {X : Type 0} (P : X → Type 0) (xs : List X) (i : ℕ) (x : X) → i < length xs
    → x ≡ get_or xs i x
    → ((k : ℕ) (d : X) → k < length xs → P (get_or xs k d)) → P x
read_at P xs i x l e all = subst P (sym e) (all i x l)

-- ---- a touch of one set

-- a touch of a line: its set, by number, what that kept, what it keeps then, and the answer
pub record OneTouch : Type 0 where
  pub number : ℕ
  pub store : Bool
  pub answer : Touch
  pub set : ℕ
  pub old : KeptSet
  pub new : KeptSet

-- the set is the line's, in this table
pub record IsOfTable (table : List KeptSet) (t : OneTouch) : Type 0 where
  pub is : t.set ≡ t.number % length table
  pub below : t.set < length table
  pub read : t.old ≡ get_or table t.set t.old

-- what is so of the set afterwards
pub record LeavesSet (stands : ℕ → List ℕ → Type 0) (ways : ℕ) (t : OneTouch) : Type 0 where
  pub full : length t.new.places ≡ ways
  pub valid : (list : List ℕ) × stands t.new.state list
  pub once : IsOnce t.new.places
  pub first : AreFirst t.new.places
  pub moves : MovesLines t.answer t.number (ways_of t.old.places) (ways_of t.new.places)

-- the set takes the definition's step
pub record StepsSet (rule : Rule) (stands : ℕ → List ℕ → Type 0) (t : OneTouch) : Type 0 where
  pub step : (s : CacheSet) → SetStands stands t.old s
      → SetSteps stands t.answer t.new (step_of rule s t.number t.store)
  pub marks : MovesMarks t.answer t.number t.store (mark_of t.old.places) (mark_of t.new.places)

-- the cache with the set as it is then
abbrev pub with_set : {P : Type 0} → Contents P → OneTouch → Contents P
with_set cache t =
    record {
      policy = cache.policy;
      ways = cache.ways;
      epoch = cache.epoch;
      table = set cache.table t.set t.new;
    }

old_is : (table : List KeptSet) (t : OneTouch) → IsOfTable table t → t.old ≡ kept_at table t.set
old_is table t at = at.read ∙ get_or_default table t.set t.old _ at.below

-- ---- the sets that the table stands for

set_at-put_same : (ways : ℕ) (sets : Sets) (s : ℕ) (v : CacheSet) → set_at ways (put sets s v) s ≡ v
set_at-put_same ways sets s v = at-put_same (fresh_set ways) sets s v

set_at-put_other : (ways : ℕ) (sets : Sets) (k s : ℕ) (v : CacheSet)
    → s ≢ k → set_at ways (put sets k v) s ≡ set_at ways sets s
set_at-put_other ways sets k s v n = at-put_other (fresh_set ways) sets k s v n

-- a set that is written in the table and in the sets
pub stands_put : (stands : ℕ → List ℕ → Type 0) (ways : ℕ) (table : List KeptSet) (sets : Sets)
    (i : ℕ) (new : KeptSet) (next : CacheSet) → i < length table → SetStands stands new next
    → ((k : ℕ) → k < length table → SetStands stands (kept_at table k) (set_at ways sets k))
    → (k : ℕ) → k < length (set table i new)
    → SetStands stands (kept_at (set table i new) k) (set_at ways (put sets i next) k)
stands_put stands ways table sets i new next below for each k lt = elim (cases_eq k i) [
  | inl same ↦
      subst (λ (j : ℕ). SetStands stands (kept_at (set table i new) j) (set_at ways (put sets i next) j))
      (sym same)
      (rw (get_or-set_same table i new _ below, set_at-put_same ways sets i next) for)
  | inr other ↦
      rw (get_or-set_other table i k new _ other, set_at-put_other ways sets i k next other)
      (each k (omega (arith, length-set table i new)))
]

-- a step of one set is a step of the cache
table_steps : {P : Type 0} (rule : P → ℕ → Rule) (stands : P → ℕ → ℕ → List ℕ → Type 0)
    (cache : Contents P) (t : OneTouch)
    → IsOfTable cache.table t
    → StepsSet (rule cache.policy cache.ways) (stands cache.policy cache.ways) t
    → (sets : Sets) → StandsFor stands cache sets
    → CacheSteps stands t.answer (with_set cache t) (touch_of (shape_of rule cache) sets t.number t.store)
table_steps {P} rule stands cache t at steps sets for =
    let of : ℕ → ℕ → List ℕ → Type 0 = stands cache.policy in
    let step_at : ℕ → SetStep =
    λ j. step_of (rule cache.policy cache.ways) (set_at cache.ways sets j) t.number t.store in
    let old_stands : SetStands (of cache.ways) t.old (set_at cache.ways sets t.set) =
    subst (λ (k : KeptSet). SetStands (of cache.ways) k (set_at cache.ways sets t.set))
    (sym (old_is cache.table t at))
    (for.each t.set at.below) in
    let s : SetSteps (of cache.ways) t.answer t.new (step_at t.set) =
    steps.step (set_at cache.ways sets t.set) old_stands in
    let each =
    stands_put (of cache.ways) cache.ways cache.table sets t.set t.new (step_at t.set).next at.below
    s.next for.each in
    subst (λ (j : ℕ). CacheSteps {P = P} stands t.answer (with_set cache t)
    (record { answer = (step_at j).answer; next = put sets j (step_at j).next })) at.is
    (record { answered = s.answered; next = record { each = each } })

-- ---- fresh sets

pub fresh_stands : {P : Type 0} (stands : P → ℕ → ℕ → List ℕ → Type 0) (cache : Contents P)
    → All (IsFresh (stands cache.policy cache.ways) cache.ways) cache.table
    → StandsFor stands cache empty
fresh_stands stands cache fresh = record {
  each =
      λ s lt. rw (at-empty (fresh_set cache.ways) s) (fresh s (record { places = []; state = 0 }) lt);
}

-- a way keeps the line, or doesn't
abbrev KeepsLine : ℕ → ℕ → List (Option KeptLine) → Type 0
KeepsLine number way places = is_line number (get_or places way None) ≡ true

abbrev LacksLine : ℕ → ℕ → List (Option KeptLine) → Type 0
LacksLine number way places = is_line number (get_or places way None) ≡ false

none_past : (number k : ℕ) → LacksLine number k []
none_past number k = ap (is_line number) (get_or_past [] k None (omega arith))

none_fresh : (ways number k : ℕ) → LacksLine number k (replicate ways None)
none_fresh zero number k = none_past number k
none_fresh (suc ways) number zero = refl
none_fresh (suc ways) number (suc k) = none_fresh ways number k

-- nothing stands in a fresh set
none_in_fresh : (stands : ℕ → List ℕ → Type 0) (ways : ℕ) (table : List KeptSet)
    → All (IsFresh stands ways) table
    → (s number k : ℕ) → LacksLine number k (kept_at table s).places
none_in_fresh stands ways table fresh s number k =
    let blank : KeptSet = record { places = []; state = 0 } in
    elim (cases_lt s (length table)) [
      | inl lt ↦ subst (LacksLine number k) (fresh s blank lt).same (none_fresh ways number k)
      | inr ge ↦ rw (get_or_past table s blank ge) (none_past number k)
    ]

-- nothing stands in a fresh cache
pub none-stands : {P : Type 0} (stands : P → ℕ → ℕ → List ℕ → Type 0) (cache : Contents P)
    → StandsFor stands cache empty → 0 < length cache.table → (number : ℕ)
    → place_in cache number ≡ None
none-stands stands cache for some number =
    let s : ℕ = number % length cache.table in
    let places : List (Option KeptLine) = (kept_at cache.table s).places in
    let set : fresh_set cache.ways ≡ set_at cache.ways empty s =
    sym (at-empty (fresh_set cache.ways) s) in
    let is : replicate cache.ways None ≡ places =
    ap (λ (c : CacheSet). c.places) set ∙ (for.each s (omega arith)).same in
    let none : way_of number places ≡ None =
    way_of_none number places
    (λ k. subst (LacksLine number k) is (none_fresh cache.ways number k)) in
    ap (option_map (λ (way : ℕ). s * cache.ways + way)) none

-- fresh sets are sound
pub fresh_sound : {P : Type 0} (takes : P → ℕ → Type 0) (stands : P → ℕ → ℕ → List ℕ → Type 0)
    (cache : Contents P)
    → takes cache.policy cache.ways → IsPowerOfTwo (length cache.table)
    → length cache.table * cache.ways < 2 ^ 32
    → All (λ (kept : KeptSet). length kept.places ≡ cache.ways) cache.table
    → All (IsFresh (stands cache.policy cache.ways) cache.ways) cache.table
    → IsSound takes stands cache
fresh_sound takes stands cache taken power small full fresh = record {
  taken = taken;
  power = power;
  small = small;
  full = full;
  valid = λ k d lt. ([], (fresh k d lt).listed);
  once = λ k d lt number i j hi hj.
      absurd
      (false≢true
      (sym (subst (LacksLine number i) (fresh k d lt).same (none_fresh cache.ways number i)) ∙ hi));
  first = λ k d lt. subst AreFirst (fresh k d lt).same (first_fresh cache.ways);
  home = λ s number way t.
      absurd
      (false≢true
      (sym (none_in_fresh (stands cache.policy cache.ways) cache.ways cache.table fresh s number way) ∙ t));
}

-- ---- what a touch of one set does to the lines of the whole table

pub is_some-map : (f : ℕ → ℕ) (o : Option ℕ) → is_some (option_map f o) ≡ is_some o
is_some-map f None = refl
is_some-map f (Some x) = refl

some_way : (o : Option ℕ) → is_some o ≡ true → (way : ℕ) × (o ≡ Some way)
some_way None t = absurd (false≢true t)
some_way (Some way) t = (way, refl)

-- a line that a set keeps is at home there
at_home : (table : List KeptSet) (s number : ℕ) → IsHome table
    → is_some (way_of number (kept_at table s).places) ≡ true → number % length table ≡ s
at_home table s number home kept =
    let places : List (Option KeptLine) = (kept_at table s).places in
    let found = some_way (way_of number places) kept in
    home s number found.0 (position-Some (is_line number) places found.0 None found.1).1

-- the place of a line, and its mark, by its set and what is kept there
abbrev place_by : ℕ → ℕ → ℕ → KeptSet → Option ℕ
place_by ways number s kept = option_map (λ (way : ℕ). s * ways + way) (way_of number kept.places)

abbrev mark_by : ℕ → ℕ → KeptSet → Option Bool
mark_by number s kept = mark_of kept.places number

-- what is read of a line's set
abbrev of_set : {A : Type 0} → (ℕ → KeptSet → A) → List KeptSet → ℕ → A
of_set f table number = f (number % length table) (kept_at table (number % length table))

module _ (table : List KeptSet) (t : OneTouch) (at : IsOfTable table t) where
  -- before the touch, and after it, of a line of the touched set; and of another's
  pub of_old : {A : Type 0} (f : ℕ → KeptSet → A) (number : ℕ) → number % length table ≡ t.set
      → of_set f table number ≡ f t.set t.old
  of_old f number e =
      ap (λ (j : ℕ). f j (kept_at table j)) e ∙ ap (f t.set) (sym (old_is table t at))

  pub of_new : {A : Type 0} (f : ℕ → KeptSet → A) (number : ℕ) → number % length table ≡ t.set
      → of_set f (set table t.set t.new) number ≡ f t.set t.new
  of_new f number e =
      let written : List KeptSet = set table t.set t.new in
      ap (λ (n : ℕ). f (number % n) (kept_at written (number % n))) (length-set table t.set t.new)
      ∙ ap (λ (j : ℕ). f j (kept_at written j)) e
      ∙ ap (f t.set) (get_or-set_same table t.set t.new _ at.below)

  pub of_else : {A : Type 0} (f : ℕ → KeptSet → A) (number : ℕ) → number % length table ≢ t.set
      → of_set f (set table t.set t.new) number ≡ of_set f table number
  of_else f number n =
      let written : List KeptSet = set table t.set t.new in
      let other : ℕ = number % length table in
      ap (λ (m : ℕ). f (number % m) (kept_at written (number % m))) (length-set table t.set t.new)
      ∙ ap (f other) (get_or-set_other table t.set other t.new _ n)

  -- a line that the touched set kept is at home there
  old_home : IsHome table → (number : ℕ) → is_some (way_of number t.old.places) ≡ true
      → number % length table ≡ t.set
  old_home home number kept =
      at_home table t.set number home
      (sym (ap (λ (k : KeptSet). is_some (way_of number k.places)) (old_is table t at)) ∙ kept)

  -- and so is one that it keeps then
  new_home : IsHome table
      → MovesLines t.answer t.number (ways_of t.old.places) (ways_of t.new.places)
      → (other way : ℕ) → KeepsLine other way t.new.places → other % length table ≡ t.set
  new_home home moves other way h =
      elim (cases_eq other t.number) [
        | inl touched ↦ ap (λ (n : ℕ). n % length table) touched ∙ sym at.is
        | inr apart ↦
            let kept = some_at other t.new.places way h in
            let before =
            kept_before t.answer t.number (ways_of t.old.places) (ways_of t.new.places) moves other
            apart kept in
            old_home home other (sym (ap is_some before) ∙ kept)
      ]

module _ {P : Type 0} (cache : Contents P) (t : OneTouch) (at : IsOfTable cache.table t)
    (home : IsHome cache.table)
    (moves : MovesLines t.answer t.number (ways_of t.old.places) (ways_of t.new.places)) where
  -- the lines of the whole cache move as those of the one set do
  pub lines_move : MovesLines t.answer t.number (place_in cache) (place_in (with_set cache t))
  lines_move =
      let f : ℕ → ℕ = λ (way : ℕ). t.set * cache.ways + way in
      let before = λ (number : ℕ) (e : number % length cache.table ≡ t.set).
      of_old cache.table t at (place_by cache.ways number) number e in
      let after = λ (number : ℕ) (e : number % length cache.table ≡ t.set).
      of_new cache.table t at (place_by cache.ways number) number e in
      let was = before t.number (sym at.is) in
      let becomes = after t.number (sym at.is) in
      record {
        hit = moves.hit ∙ sym (is_some-map f (way_of t.number t.old.places)) ∙ sym (ap is_some was);
        spares = moves.spares;
        stays = λ h. becomes ∙ ap (option_map f) (moves.stays h) ∙ sym was;
        here = ap is_some becomes ∙ is_some-map f (way_of t.number t.new.places) ∙ moves.here;
        others = λ other n v. elim (cases_eq (other % length cache.table) t.set) [
          | inl same ↦
              after other same ∙ ap (option_map f) (moves.others other n v)
              ∙ sym (before other same)
          | inr apart ↦ of_else cache.table t at (place_by cache.ways other) other apart
        ];
        given_up = λ victim e.
            let gone = moves.given_up victim e in
            let near = old_home cache.table t at home victim (ap is_some gone.0 ∙ moves.here) in
            let its = before victim near ∙ ap (option_map f) gone.0 ∙ sym becomes in
            (its, after victim near ∙ ap (option_map f) gone.1);
      }

  -- and so do their marks
  pub marks_move : MovesMarks t.answer t.number t.store (mark_of t.old.places) (mark_of t.new.places)
      → MovesMarks t.answer t.number t.store (mark_in cache) (mark_in (with_set cache t))
  marks_move marks =
      let before = λ (number : ℕ) (e : number % length cache.table ≡ t.set).
      of_old cache.table t at (mark_by number) number e in
      let after = λ (number : ℕ) (e : number % length cache.table ≡ t.set).
      of_new cache.table t at (mark_by number) number e in
      record {
        own = after t.number (sym at.is) ∙ marks.own
            ∙ ap (λ (mark : Option Bool). Some (t.store || unwrap_or mark false))
            (sym (before t.number (sym at.is)));
        others = λ other n v. elim (cases_eq (other % length cache.table) t.set) [
          | inl same ↦ after other same ∙ marks.others other n v ∙ sym (before other same)
          | inr apart ↦ of_else cache.table t at (mark_by other) other apart
        ];
        given_up = λ victim e.
            let gone = marks.given_up victim e in
            let near =
            old_home cache.table t at home victim
            (ap is_some (moves.given_up victim e).0 ∙ moves.here) in
            (before victim near ∙ gone.0, after victim near ∙ gone.1);
        clean = marks.clean;
      }

-- the cache stays sound
pub sound_put : {P : Type 0} (takes : P → ℕ → Type 0) (stands : P → ℕ → ℕ → List ℕ → Type 0)
    (cache : Contents P) (t : OneTouch)
    → IsSound takes stands cache → IsOfTable cache.table t
    → LeavesSet (stands cache.policy cache.ways) cache.ways t
    → IsSound takes stands (with_set cache t)
sound_put takes stands cache t sound at left =
    let table : List KeptSet = cache.table in
    let written : List KeptSet = set table t.set t.new in
    let count : length written ≡ length table = length-set table t.set t.new in
    record {
      taken = sound.taken;
      power = rw count sound.power;
      small = rw count sound.small;
      full =
          All-set (λ (k : KeptSet). length k.places ≡ cache.ways) table t.set t.new left.full
          sound.full;
      valid =
          All-set (λ (k : KeptSet). (list : List ℕ) × stands cache.policy cache.ways k.state list)
          table t.set t.new left.valid sound.valid;
      once = All-set (λ (k : KeptSet). IsOnce k.places) table t.set t.new left.once sound.once;
      first = All-set (λ (k : KeptSet). AreFirst k.places) table t.set t.new left.first sound.first;
      home = λ s other way h.
          ap (λ (n : ℕ). other % n) count ∙
          elim (cases_eq s t.set) [
            | inl same ↦
                let there : kept_at written s ≡ t.new =
                ap (kept_at written) same ∙ get_or-set_same table t.set t.new _ at.below in
                let u = subst (λ (k : KeptSet). KeepsLine other way k.places) there h in
                new_home table t at sound.home left.moves other way u ∙ sym same
            | inr apart ↦
                let there : kept_at written s ≡ kept_at table s =
                get_or-set_other table t.set s t.new _ apart in
                sound.home s other way
                (subst (λ (k : KeptSet). KeepsLine other way k.places) there h)
          ];
    }

-- ---- marks

dirty_take : {P : Type 0} (stands : P → ℕ → ℕ → List ℕ → Type 0) (cache : Contents P) (sets : Sets)
    (n : ℕ)
    → n ≤ length cache.table → StandsFor stands cache sets
    → sum_by (λ (k : KeptSet). dirty_in k.places) (take n cache.table) ≡ dirty_below cache.ways sets n
dirty_take stands cache sets zero below for = refl
dirty_take stands cache sets (suc n) below for =
    let table : List KeptSet = cache.table in
    let dirty : KeptSet → ℕ = λ k. dirty_in k.places in
    let one : sum_by dirty (take (n + 1) table) ≡ sum_by dirty (take n table) + dirty (kept_at table n) =
    sum_by_more dirty table n (record { places = []; state = 0 }) (omega arith) in
    let rest : sum_by dirty (take n table) ≡ dirty_below cache.ways sets n =
    dirty_take stands cache sets n (omega arith) for in
    let here : dirty (kept_at table n) ≡ dirty_in (set_at cache.ways sets n).places =
    ap dirty_in (sym (for.each n (omega arith)).same) in
    ap (λ i. sum_by dirty (take i table)) (sym (add-one n)) ∙ one ∙ omega (arith, rest, here)

-- the marks that are kept are those of the sets
pub dirty-stands : {P : Type 0} (stands : P → ℕ → ℕ → List ℕ → Type 0) (rule : P → ℕ → Rule)
    (cache : Contents P) (sets : Sets)
    → StandsFor stands cache sets → dirty_kept cache ≡ dirty_of (shape_of rule cache) sets
dirty-stands stands rule cache sets for =
    let count : ℕ = length cache.table in
    let whole : take count cache.table ≡ cache.table = take_all count cache.table (omega arith) in
    ap (sum_by (λ (k : KeptSet). dirty_in k.places)) (sym whole)
    ∙ dirty_take stands cache sets count (omega arith) for

-- ---- touches of the whole cache

-- a touch of the set of a line is a touch of the cache
pub table_touch : {P : Type 0} (takes : P → ℕ → Type 0) (rule : P → ℕ → Rule)
    (stands : P → ℕ → ℕ → List ℕ → Type 0)
    (cache : Contents P) (t : OneTouch) → IsSound takes stands cache → IsOfTable cache.table t
    → LeavesSet (stands cache.policy cache.ways) cache.ways t
    → StepsSet (rule cache.policy cache.ways) (stands cache.policy cache.ways) t
    → IsTouch takes rule stands t.answer t.number t.store cache (with_set cache t)
table_touch takes rule stands cache t sound at left steps = record {
  shape =
      record { same_policy = refl; same_ways = refl; same_sets = length-set cache.table t.set t.new };
  sound = sound_put takes stands cache t sound at left;
  step = table_steps rule stands cache t at steps;
  other_sets = λ s n. get_or-set_other cache.table t.set s t.new _ (λ e. n (e ∙ at.is));
  moves = lines_move cache t at sound.home left.moves;
  marks = marks_move cache t at sound.home left.moves steps.marks;
}

-- no more lines have a mark than there are ways
pub dirty_few : {P : Type 0} (takes : P → ℕ → Type 0) (stands : P → ℕ → ℕ → List ℕ → Type 0)
    (cache : Contents P) → IsSound takes stands cache → dirty_kept cache ≤ length cache.table * cache.ways
dirty_few takes stands cache sound =
    sum_by-le (λ (k : KeptSet). dirty_in k.places) cache.ways cache.table
    (λ s d lt.
    let full : length (get_or cache.table s d).places ≡ cache.ways = sound.full s d lt in
    let few = count_by-le-length is_dirty (get_or cache.table s d).places in
    omega (arith, few, full))

-- ---- new and flushed caches

-- fresh sets in place of a cache's
abbrev pub fresh_cache : {P : Type 0} → P → KeptSets → Contents P
fresh_cache policy sets =
    record { policy = policy; ways = sets.ways; epoch = sets.epoch; table = sets.table }

module _ {P : Type 0} (takes : P → ℕ → Type 0) (stands : P → ℕ → ℕ → List ℕ → Type 0)
    (policy : P) (count ways epoch fresh : ℕ)
    (geometry : IsGeometry (takes policy) count ways) (is_fresh : stands policy ways fresh []) where
  -- a cache of fresh sets is new
  pub fresh_is_new : IsNew takes stands policy count ways
      (fresh_cache policy (fresh_sets count ways epoch fresh))
  fresh_is_new =
      let blank : KeptSet = record { places = replicate ways None; state = fresh } in
      let cache : Contents P = fresh_cache policy (fresh_sets count ways epoch fresh) in
      let long : length (replicate count blank) ≡ count = length-replicate count blank in
      let all : All (IsFresh (stands policy ways) ways) cache.table =
      All-replicate (IsFresh (stands policy ways) ways) count blank
      (record { same = refl; listed = is_fresh }) in
      let sets = fresh_stands stands cache all in
      record {
        same_policy = refl;
        same_ways = refl;
        same_sets = long;
        sound =
            fresh_sound takes stands cache geometry.taken (subst IsPowerOfTwo (sym long) geometry.power)
            (subst (λ (n : ℕ). n * ways < 2 ^ 32) (sym long) geometry.small)
            (All-replicate (λ (k : KeptSet). length k.places ≡ ways) count blank
            (length-replicate ways None))
            all;
        fresh = sets;
        none = none-stands stands cache sets (omega (arith, long, positive count geometry.power));
      }

-- and it is what a flush leaves
pub flushed : {P : Type 0} (takes : P → ℕ → Type 0) (rule : P → ℕ → Rule)
    (stands : P → ℕ → ℕ → List ℕ → Type 0)
    (cache : Contents P) (epoch fresh : ℕ)
    → IsSound takes stands cache → stands cache.policy cache.ways fresh []
    → IsFlush takes rule stands (dirty_kept cache) cache
    (fresh_cache cache.policy (fresh_sets (length cache.table) cache.ways epoch fresh))
flushed takes rule stands cache epoch fresh sound is_fresh =
    let geometry : IsGeometry (takes cache.policy) (length cache.table) cache.ways =
    record { taken = sound.taken; power = sound.power; small = sound.small } in
    let new =
    fresh_is_new takes stands cache.policy (length cache.table) cache.ways epoch fresh geometry is_fresh in
    record {
      shape = record { same_policy = refl; same_ways = refl; same_sets = new.same_sets };
      was_sound = sound;
      sound = new.sound;
      marked = refl;
      stands_for = λ sets for. dirty-stands stands rule cache sets for;
      few = dirty_few takes stands cache sound;
      fresh = new.fresh;
      none = new.none;
    }

-- ---- hits

-- what a hit leaves in the ways: on a store the line is marked
abbrev pub hit_places : List (Option KeptLine) → ℕ → ℕ → Bool → List (Option KeptLine)
hit_places places way number store =
    if store then set places way (Some (record { number = number; dirty = true })) else places

-- a hit of a line that its set keeps at a way: the set, by number, what that kept and what it keeps then
pub record OneHit : Type 0 where
  pub number : ℕ
  pub store : Bool
  pub way : ℕ
  pub set : ℕ
  pub old : KeptSet
  pub new : KeptSet

abbrev pub touch_of_hit : OneHit → OneTouch
touch_of_hit h =
    record { number = h.number; store = h.store; answer = hit_answer; set = h.set; old = h.old; new = h.new }

-- what is so of the set
pub record HitsWay (rule : Rule) (stands : ℕ → List ℕ → Type 0) (h : OneHit) : Type 0 where
  pub found : way_of h.number h.old.places ≡ Some h.way
  pub places : h.new.places ≡ hit_places h.old.places h.way h.number h.store
  pub touched : (list : List ℕ) → stands h.old.state list
      → stands h.new.state (rule.touched list h.way)

line_kept : (number : ℕ) (kept : Option KeptLine) → is_line number kept ≡ true → is_some kept ≡ true
line_kept number None t = absurd (false≢true t)
line_kept number (Some line) t = refl

module _ (places : List (Option KeptLine)) (way number : ℕ) (found : way_of number places ≡ Some way) where
  pub length-hit : (store : Bool) → length (hit_places places way number store) ≡ length places
  length-hit true = length-set places way (Some (record { number = number; dirty = true }))
  length-hit false = refl

  pub once_hit : (store : Bool) → IsOnce places → IsOnce (hit_places places way number store)
  once_hit true once =
      let at = position-Some (is_line number) places way None found in
      once_put places way number true at.0 once (others_of_way number way places once at.1)
  once_hit false once = once

  pub first_hit : (store : Bool) → AreFirst places → AreFirst (hit_places places way number store)
  first_hit true first =
      let at = position-Some (is_line number) places way None found in
      first_put places way (record { number = number; dirty = true }) at.0 first
      (λ k before. kept_before_way places first way (line_kept number (get_or places way None) at.1) k
      (omega (arith, before)))
  first_hit false first = first

  pub moves_hit : (store : Bool)
      → MovesLines hit_answer number (ways_of places) (ways_of (hit_places places way number store))
  moves_hit true = moves_marked places way number found
  moves_hit false = moves_same places way number found

  pub marks_hit : (store : Bool)
      → MovesMarks hit_answer number store (mark_of places) (mark_of (hit_places places way number store))
  marks_hit true = marks_marked places way number found
  marks_hit false = marks_same places way number found

  -- the line stays at its way
  pub found_hit : (store : Bool) → way_of number (hit_places places way number store) ≡ Some way
  found_hit store = (moves_hit store).stays refl ∙ found

  -- with the mark that it had, or gets
  pub mark_hit : (store : Bool)
      → is_dirty (get_or (hit_places places way number store) way None)
      ≡ (store || is_dirty (get_or places way None))
  mark_hit true =
      let at = position-Some (is_line number) places way None found in
      ap is_dirty (get_or-set_same places way (Some (record { number = number; dirty = true })) None at.0)
  mark_hit false = refl

-- a hit is a step of its set
hit_steps : (rule : Rule) (stands : ℕ → List ℕ → Type 0) (h : OneHit) → HitsWay rule stands h
    → StepsSet rule stands (touch_of_hit h)
hit_steps rule stands h hits = record {
  step = λ s for.
      let at : way_of h.number s.places ≡ Some h.way =
      ap (way_of h.number) for.same ∙ hits.found in
      let places : hit_places s.places h.way h.number h.store ≡ h.new.places =
      ap (λ (ps : List (Option KeptLine)). hit_places ps h.way h.number h.store) for.same
      ∙ sym hits.places in
      subst (λ (o : Option ℕ). SetSteps stands hit_answer h.new (step_by rule s h.number h.store o))
      (sym at)
      (record {
        answered = refl;
        next = record { same = places; listed = hits.touched s.order for.listed };
      });
  marks =
      subst
      (λ (ps : List (Option KeptLine)).
      MovesMarks hit_answer h.number h.store (mark_of h.old.places) (mark_of ps))
      (sym hits.places) (marks_hit h.old.places h.way h.number hits.found h.store);
}

-- what a sound cache says of a set that was read
module _ {P : Type 0} (takes : P → ℕ → Type 0) (stands : P → ℕ → ℕ → List ℕ → Type 0)
    (cache : Contents P) (t : OneTouch)
    (sound : IsSound takes stands cache) (at : IsOfTable cache.table t) where
  pub full_at : length t.old.places ≡ cache.ways
  full_at =
      read_at (λ (k : KeptSet). length k.places ≡ cache.ways) cache.table t.set t.old at.below at.read
      sound.full

  pub once_at : IsOnce t.old.places
  once_at =
      read_at (λ (k : KeptSet). IsOnce k.places) cache.table t.set t.old at.below at.read sound.once

  pub first_at : AreFirst t.old.places
  first_at =
      read_at (λ (k : KeptSet). AreFirst k.places) cache.table t.set t.old at.below at.read sound.first

  pub valid_at : (list : List ℕ) × stands cache.policy cache.ways t.old.state list
  valid_at =
      read_at (λ (k : KeptSet). (list : List ℕ) × stands cache.policy cache.ways k.state list)
      cache.table t.set t.old at.below at.read sound.valid

-- and a touch of the cache
pub table_hit : {P : Type 0} (takes : P → ℕ → Type 0) (rule : P → ℕ → Rule)
    (stands : P → ℕ → ℕ → List ℕ → Type 0)
    (cache : Contents P) (h : OneHit) → IsSound takes stands cache → IsOfTable cache.table
    (touch_of_hit h)
    → HitsWay (rule cache.policy cache.ways) (stands cache.policy cache.ways) h
    → IsTouch takes rule stands hit_answer h.number h.store cache (with_set cache (touch_of_hit h))
table_hit takes rule stands cache h sound at hits =
    let t : OneTouch = touch_of_hit h in
    let ps : List (Option KeptLine) = h.old.places in
    let valid = valid_at takes stands cache t sound at in
    let Leaves : List (Option KeptLine) → Type 0 = λ qs.
    (length qs ≡ cache.ways) × IsOnce qs × AreFirst qs × MovesLines hit_answer h.number (ways_of ps) (ways_of qs) in
    let left : Leaves h.new.places =
    subst Leaves (sym hits.places) (
      length-hit ps h.way h.number hits.found h.store ∙ full_at takes stands cache t sound at,
      once_hit ps h.way h.number hits.found h.store (once_at takes stands cache t sound at),
      first_hit ps h.way h.number hits.found h.store (first_at takes stands cache t sound at),
      moves_hit ps h.way h.number hits.found h.store,
    ) in
    table_touch takes rule stands cache t sound at (record {
      full = left.0;
      valid = ((rule cache.policy cache.ways).touched valid.0 h.way, hits.touched valid.0 valid.1);
      once = left.1;
      first = left.2;
      moves = left.3;
    })
    (hit_steps (rule cache.policy cache.ways) (stands cache.policy cache.ways) h hits)

-- ---- misses

-- a fill of a way with a line that its set doesn't keep
pub record OneFill : Type 0 where
  pub number : ℕ
  pub store : Bool
  pub way : ℕ
  pub set : ℕ
  pub old : KeptSet
  pub new : KeptSet

-- the answer tells of what the way kept
abbrev pub fill_answer : List (Option KeptLine) → ℕ → Touch
fill_answer places way = record {
  hit = false;
  victim = option_map (λ (line : KeptLine). line.number) (get_or places way None);
  dirty_victim = is_dirty (get_or places way None);
}

abbrev pub touch_of_fill : OneFill → OneTouch
touch_of_fill f = record {
  number = f.number;
  store = f.store;
  answer = fill_answer f.old.places f.way;
  set = f.set;
  old = f.old;
  new = f.new;
}

-- what is so of the set
pub record FillsWay (rule : Rule) (stands : ℕ → List ℕ → Type 0) (f : OneFill) : Type 0 where
  pub missing : way_of f.number f.old.places ≡ None
  pub within : f.way < length f.old.places
  pub places : f.new.places ≡ set f.old.places f.way (Some (record { number = f.number; dirty = f.store }))
  pub chosen : (list : List ℕ) → stands f.old.state list
      → f.way ≡ unwrap_or (position is_none f.old.places) (rule.victim list)
  pub filled : (list : List ℕ) → stands f.old.state list → stands f.new.state (rule.filled list f.way)

-- a fill is a step of its set
fill_steps : (rule : Rule) (stands : ℕ → List ℕ → Type 0) (f : OneFill) → IsOnce f.old.places
    → FillsWay rule stands f → StepsSet rule stands (touch_of_fill f)
fill_steps rule stands f once fills =
    let answer : Touch = fill_answer f.old.places f.way in
    let line : Option KeptLine = Some (record { number = f.number; dirty = f.store }) in
    record {
      step = λ s for.
          let missing : way_of f.number s.places ≡ None =
          ap (way_of f.number) for.same ∙ fills.missing in
          let chosen : f.way ≡ way_for rule s =
          fills.chosen s.order for.listed
          ∙ ap (λ (ps : List (Option KeptLine)). unwrap_or (position is_none ps) (rule.victim s.order))
          (sym for.same) in
          let places : set s.places f.way line ≡ f.new.places =
          ap (λ (ps : List (Option KeptLine)). set ps f.way line) for.same ∙ sym fills.places in
          subst (λ (o : Option ℕ). SetSteps stands answer f.new (step_by rule s f.number f.store o))
          (sym missing)
          (subst (λ (w : ℕ). SetSteps stands answer f.new (miss_at rule s f.number f.store w)) chosen
          (record {
            answered = ap (λ (ps : List (Option KeptLine)). fill_answer ps f.way) (sym for.same);
            next = record { same = places; listed = fills.filled s.order for.listed };
          }));
      marks =
          subst
          (λ (ps : List (Option KeptLine)).
          MovesMarks answer f.number f.store (mark_of f.old.places) (mark_of ps))
          (sym fills.places)
          (marks_filled f.old.places f.way f.number f.store answer.victim answer.dirty_victim fills.within
          once fills.missing refl refl);
    }

-- and a touch of the cache
pub table_fill : {P : Type 0} (takes : P → ℕ → Type 0) (rule : P → ℕ → Rule)
    (stands : P → ℕ → ℕ → List ℕ → Type 0)
    (cache : Contents P) (f : OneFill) → IsSound takes stands cache → IsOfTable cache.table
    (touch_of_fill f)
    → FillsWay (rule cache.policy cache.ways) (stands cache.policy cache.ways) f
    → IsTouch takes rule stands (fill_answer f.old.places f.way) f.number f.store cache
    (with_set cache (touch_of_fill f))
table_fill takes rule stands cache f sound at fills =
    let t : OneTouch = touch_of_fill f in
    let ps : List (Option KeptLine) = f.old.places in
    let line : Option KeptLine = Some (record { number = f.number; dirty = f.store }) in
    let once = once_at takes stands cache t sound at in
    let valid = valid_at takes stands cache t sound at in
    let Leaves : List (Option KeptLine) → Type 0 = λ qs.
    (length qs ≡ cache.ways) × IsOnce qs × AreFirst qs × MovesLines t.answer f.number (ways_of ps) (ways_of qs) in
    let left : Leaves f.new.places =
    subst Leaves (sym fills.places) (
      length-set ps f.way line ∙ full_at takes stands cache t sound at,
      once_put ps f.way f.number f.store fills.within once (λ k _. none_of_way f.number ps fills.missing k),
      first_put ps f.way (record { number = f.number; dirty = f.store }) fills.within
          (first_at takes stands cache t sound at)
          (kept_before_chosen ps f.way ((rule cache.policy cache.ways).victim valid.0) fills.within
          (fills.chosen valid.0 valid.1)),
      moves_filled ps f.way f.number f.store t.answer.dirty_victim t.answer.victim fills.within once
          fills.missing refl,
    ) in
    table_touch takes rule stands cache t sound at (record {
      full = left.0;
      valid = ((rule cache.policy cache.ways).filled valid.0 f.way, fills.filled valid.0 valid.1);
      once = left.1;
      first = left.2;
      moves = left.3;
    })
    (fill_steps (rule cache.policy cache.ways) (stands cache.policy cache.ways) f once fills)
