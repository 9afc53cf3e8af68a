-- The mark of a line, and the lines that have one, in the order of their places.
use Rattle.std.proofs.Common.{◌≡◌, ℕ, zero, suc, ◌+◌, ◌*◌, ◌<◌, ◌≤◌, ◌/◌, ◌%◌, take, drop, take_all, Bool, true, false, cond, List, [], ◌∷◌, ◌++◌, map, length, get_or, set, Option, Some, None, is_some, option_map, refl, ap, sym, subst, ◌∙◌, arith, inl, inr, append-nil, append_assoc, get_or-set_same, get_or-set_other, length-append, length-set, take-suc}
use Rattle.std.specs.Prelude.{All, sum_by, ◌||◌, ◌==◌, IfSome}
use Rattle.std.proofs.Math.ListN.{length-map}
use Rattle.std.proofs.lemmas.List.{same_lists, get_or-map, get_or_default, get_or_append_left, get_or-append-add, at_drop_more, nil_from_length}
use Rattle.std.proofs.lemmas.List.Elements.{All-head, All-tail}
use Rattle.std.proofs.lemmas.List.Quantifiers.{position-Some}
use Rattle.std.proofs.lemmas.List.Sums.{sum_by-cons}
use Rattle.std.proofs.lemmas.Nat.{mod_below, div_below, div-add-mod'}
use Rattle.std.proofs.lemmas.Bool.{cases_eq, false≢true}
use Rattle.std.proofs.lemmas.Bool.Decides.{nat_tests}
use Rattle.tp_base.specs.Table.{put, at-put_by}
use Rattle.set_cache.specs.Rule.{Rule}
use Rattle.set_cache.specs.declared.KeptLine.{KeptLine}
use Rattle.set_cache.specs.declared.cache.LastTouch.{LastTouch}
use Rattle.set_cache.specs.Cache.{CacheSet, Sets, set_at, fresh_set, is_line, is_dirty, way_of, dirty_in, marked_if, marked_in, marked_of, dirty_number, with_number, dirty_numbers, places_below, dirty_lines}
use Rattle.set_cache.specs.Contents.{KeptSet, Contents, SetStands, StandsFor, IsSound, IsOnce, kept_at, shape_of}
use Rattle.set_cache.specs.Lines.{MovesLines, MovesMarks, place_in, mark_in, dirty_kept, places_kept}
use Rattle.set_cache.specs.Last.{IsLast, IsCache, set_in}
use Rattle.set_cache.specs.Calls.{IsMark}
use Rattle.set_cache.proofs.Dirty.{dirty_numbers-append}
use Rattle.set_cache.proofs.Ways.{line_of, hit_answer, none_of_way, others_of_way, ways_of, places_stay, some_at}
use Rattle.set_cache.proofs.Sets.{OneTouch, IsOfTable, LeavesSet, with_set, of_old, of_new, of_else, stands_put, length-hit, once_hit, first_hit, moves_hit, marks_hit, full_at, once_at, first_at, valid_at, lines_move, marks_move, sound_put, is_some-map}
use Rattle.set_cache.proofs.Last.{of_table}

-- ---- the lines that have a mark

-- those from a place on are its own and those after it
pub dirty_numbers-drop_more : (places : List (Option KeptLine)) (i : ℕ) → i < length places
    → dirty_numbers (drop i places)
    ≡ with_number (dirty_number (get_or places i None)) (dirty_numbers (drop (i + 1) places))
dirty_numbers-drop_more places i below = at_drop_more dirty_numbers places i None below

-- there are none where none are counted
pub dirty_numbers-none : (places : List (Option KeptLine)) (i : ℕ)
    → length (dirty_numbers (drop i places)) ≡ 0 → dirty_numbers (drop i places) ≡ []
dirty_numbers-none places i none = nil_from_length (dirty_numbers (drop i places)) none

length-one : (dirty : Bool) (number : ℕ) (numbers : List ℕ)
    → length (with_number (cond dirty (Some number) None) numbers) ≡ cond dirty 1 0 + length numbers
length-one true number numbers = omega arith
length-one false number numbers = omega arith

length-with_number : (kept : Option KeptLine) (numbers : List ℕ)
    → length (with_number (dirty_number kept) numbers) ≡ cond (is_dirty kept) 1 0 + length numbers
length-with_number None numbers = omega arith
length-with_number (Some line) numbers = length-one line.dirty line.number numbers

-- as many as have one
pub length-dirty_numbers : (places : List (Option KeptLine)) → length (dirty_numbers places) ≡ dirty_in places
length-dirty_numbers [] = refl
length-dirty_numbers (kept ∷ places) =
    length-with_number kept (dirty_numbers places)
    ∙ ap (λ (n : ℕ). cond (is_dirty kept) 1 0 + n) (length-dirty_numbers places)
    ∙ sym (sum_by-cons (λ (k : Option KeptLine). cond (is_dirty k) 1 0) kept places)

dirty_sum-length : (table : List KeptSet)
    → sum_by (λ (kept : KeptSet). dirty_in kept.places) table ≡ length (dirty_numbers (places_kept table))
dirty_sum-length [] = refl
dirty_sum-length (kept ∷ table) =
    let dirty : KeptSet → ℕ = λ k. dirty_in k.places in
    let rest = dirty_sum-length table in
    let here = length-dirty_numbers kept.places in
    let sum = sum_by-cons dirty kept table in
    let both = ap length (dirty_numbers-append kept.places (places_kept table)) in
    let parts = length-append (dirty_numbers kept.places) (dirty_numbers (places_kept table)) in
    omega (arith, rest, here, sum, both, parts)

pub dirty_kept-length : {P : Type 0} (contents : Contents P)
    → dirty_kept contents ≡ length (dirty_numbers (places_kept contents.table))
dirty_kept-length contents = dirty_sum-length contents.table

-- ---- places

places_kept-append : (xs ys : List KeptSet) → places_kept (xs ++ ys) ≡ places_kept xs ++ places_kept ys
places_kept-append [] ys = refl
places_kept-append (kept ∷ xs) ys =
    ap (λ (ps : List (Option KeptLine)). kept.places ++ ps) (places_kept-append xs ys)
    ∙ sym (append_assoc kept.places (places_kept xs) (places_kept ys))

places_take : {P : Type 0} (stands : P → ℕ → ℕ → List ℕ → Type 0) (cache : Contents P) (sets : Sets)
    (n : ℕ) → n ≤ length cache.table → StandsFor stands cache sets
    → places_below cache.ways sets n ≡ places_kept (take n cache.table)
places_take stands cache sets zero below for = refl
places_take stands cache sets (suc n) below for =
    let table : List KeptSet = cache.table in
    let kept : KeptSet = kept_at table n in
    let under : n < length table = omega (arith, below) in
    ap (λ (ps : List (Option KeptLine)). ps ++ (set_at cache.ways sets n).places)
    (places_take stands cache sets n (omega (arith, below)) for)
    ∙ ap (λ (ps : List (Option KeptLine)). places_kept (take n table) ++ ps) (for.each n under).same
    ∙ ap (λ (ps : List (Option KeptLine)). places_kept (take n table) ++ ps) (sym (append-nil kept.places))
    ∙ sym (places_kept-append (take n table) (kept ∷ []))
    ∙ ap places_kept (sym (take-suc table n (record { places = []; state = 0 }) under))

-- what the ways keep is what the sets' do
pub places-stand : {P : Type 0} (stands : P → ℕ → ℕ → List ℕ → Type 0) (cache : Contents P) (sets : Sets)
    → StandsFor stands cache sets
    → places_below cache.ways sets (length cache.table) ≡ places_kept cache.table
places-stand stands cache sets for =
    let count : ℕ = length cache.table in
    places_take stands cache sets count (omega arith) for
    ∙ ap places_kept (take_all count cache.table (omega arith))

-- and so are the lines that have a mark
pub dirty_lines-stand : {P : Type 0} (stands : P → ℕ → ℕ → List ℕ → Type 0) (rule : P → ℕ → Rule)
    (cache : Contents P) (sets : Sets) → StandsFor stands cache sets
    → dirty_lines (shape_of rule cache) sets ≡ dirty_numbers (places_kept cache.table)
dirty_lines-stand stands rule cache sets for = ap dirty_numbers (places-stand stands cache sets for)

module _ (ways : ℕ) where
  abbrev Full : List KeptSet → Type 0
  Full table = All (λ (kept : KeptSet). length kept.places ≡ ways) table

  -- there are as many as ways in all sets
  pub length-places_kept : (table : List KeptSet) → Full table
      → length (places_kept table) ≡ length table * ways
  length-places_kept [] full = omega arith
  length-places_kept (kept ∷ table) full =
      let one = All-head (λ (k : KeptSet). length k.places ≡ ways) kept table full in
      let rest = length-places_kept table (All-tail (λ (k : KeptSet). length k.places ≡ ways) kept table full) in
      let both = length-append kept.places (places_kept table) in
      omega (arith, one, rest, both)

  -- a set times the ways plus a way is that way's
  place_kept : (table : List KeptSet) (s way : ℕ) → Full table → s < length table → way < ways
      → get_or (places_kept table) (s * ways + way) None ≡ get_or (kept_at table s).places way None
  place_kept [] s way full below within = absurd (omega (arith, below))
  place_kept (kept ∷ table) zero way full below within =
      let one = All-head (λ (k : KeptSet). length k.places ≡ ways) kept table full in
      let first : 0 * ways + way ≡ way = omega arith in
      ap (λ (i : ℕ). get_or (kept.places ++ places_kept table) i None) first
      ∙ get_or_append_left kept.places (places_kept table) None way (omega (arith, within, one))
  place_kept (kept ∷ table) (suc s) way full below within =
      let one = All-head (λ (k : KeptSet). length k.places ≡ ways) kept table full in
      let all = All-tail (λ (k : KeptSet). length k.places ≡ ways) kept table full in
      let later : suc s * ways + way ≡ length kept.places + (s * ways + way) = omega (arith, one) in
      ap (λ (i : ℕ). get_or (kept.places ++ places_kept table) i None) later
      ∙ get_or-append-add kept.places (places_kept table) (s * ways + way) None
      ∙ place_kept table s way all (omega (arith, below)) within

  -- the set and the way of a place
  pub record IsPlace (table : List KeptSet) (place s way : ℕ) : Type 0 where
    pub below : s < length table
    pub within : way < ways
    pub is : place ≡ s * ways + way
    pub listed : get_or (places_kept table) place None ≡ get_or (kept_at table s).places way None

  pub is_place : (table : List KeptSet) (place : ℕ) → Full table → place < length table * ways
      → IsPlace table place (place / ways) (place % ways)
  is_place table place full small =
      let some : 0 < ways = elim (cases_eq ways 0) [
        | inl none ↦ absurd (let e : length table * ways ≡ 0 = rw none (omega arith) in omega (arith, e, small))
        | inr some ↦ omega (arith, some)
      ] in
      let below = div_below place ways (length table) some small in
      let within = mod_below place ways some in
      let whole : place / ways * ways + place % ways ≡ place = div-add-mod' place ways in
      record {
        below = below;
        within = within;
        is = sym whole;
        listed =
            ap (λ (i : ℕ). get_or (places_kept table) i None) (sym whole)
            ∙ place_kept table (place / ways) (place % ways) full below within;
      }

-- a line that a way keeps with a mark is the way's
dirty_is_line : (kept : Option KeptLine) (number : ℕ) → dirty_number kept ≡ Some number
    → is_line number kept ≡ true
dirty_is_line None number e = let x : None ≡ Some number = e in absurd (cc)
dirty_is_line (Some line) number e = of line.dirty e
  where
    of : (dirty : Bool) → cond dirty (Some line.number) None ≡ Some number → is_line number (Some line) ≡ true
    of true same = let is : line.number ≡ number = cc in grind (arith, nat_tests)
    of false same = let x : None ≡ Some number = same in absurd (cc)

-- and so it is here
pub dirty_is_kept : {P : Type 0} (takes : P → ℕ → Type 0) (stands : P → ℕ → ℕ → List ℕ → Type 0)
    (contents : Contents P) (s way : ℕ) (found : Option ℕ) → IsSound takes stands contents
    → found ≡ dirty_number (get_or (kept_at contents.table s).places way None)
    → IfSome found (λ number. is_some (place_in contents number) ≡ true)
dirty_is_kept takes stands contents s way None sound marked = tt
dirty_is_kept takes stands contents s way (Some number) sound marked =
    let table : List KeptSet = contents.table in
    let set : ℕ = number % length table in
    let there : is_line number (get_or (kept_at table s).places way None) ≡ true =
    dirty_is_line (get_or (kept_at table s).places way None) number (sym marked) in
    let home : set ≡ s = sound.home s number way there in
    is_some-map (λ (w : ℕ). set * contents.ways + w) (way_of number (kept_at table set).places)
    ∙ some_at number (kept_at table set).places way
    (subst (λ (j : ℕ). is_line number (get_or (kept_at table j).places way None) ≡ true) (sym home) there)

-- ---- the mark of a line

or_true : (b : Bool) → (b || true) ≡ true
or_true true = refl
or_true false = refl

or_false : (b : Bool) → (b || false) ≡ b
or_false true = refl
or_false false = refl

marked_line : (number : ℕ) (kept : Option KeptLine) → is_line number kept ≡ true
    → marked_if (λ n. n == number) kept ≡ line_of number true
marked_line number None here = absurd (false≢true here)
marked_line number (Some line) here =
    let same : line.number ≡ number = grind (arith, nat_tests) in
    let mark : (line.dirty || line.number == number) ≡ true =
    ap (λ (b : Bool). line.dirty || b) here ∙ or_true line.dirty in
    ap (λ (k : ℕ × Bool). line_of k.0 k.1) (λ j. (same j, mark j))

unmarked_line : (number : ℕ) (kept : Option KeptLine) → is_line number kept ≡ false
    → marked_if (λ n. n == number) kept ≡ kept
unmarked_line number None other = refl
unmarked_line number (Some line) other =
    ap (λ (b : Bool). line_of line.number (line.dirty || b)) other
    ∙ ap (line_of line.number) (or_false line.dirty)

-- in the ways of its set it has one at its way
marked_places : (places : List (Option KeptLine)) (way number : ℕ) → IsOnce places
    → way_of number places ≡ Some way
    → map (marked_if (λ n. n == number)) places ≡ set places way (line_of number true)
marked_places places way number once found =
    let at = position-Some (is_line number) places way None found in
    let new : Option KeptLine = line_of number true in
    let marked : Option KeptLine → Option KeptLine = marked_if (λ n. n == number) in
    let long : length (map marked places) ≡ length places = length-map places marked in
    same_lists (map marked places) (set places way new) (long ∙ sym (length-set places way new)) (λ k d lt.
    let below : k < length places = omega (arith, lt, long) in
    get_or-map marked places k None d below
    ∙ elim (cases_eq k way) [
      | inl same ↦
          ap (λ (j : ℕ). marked (get_or places j None)) same
          ∙ marked_line number (get_or places way None) at.1
          ∙ sym (get_or-set_same places way new d at.0)
          ∙ ap (λ (j : ℕ). get_or (set places way new) j d) (sym same)
      | inr apart ↦
          unmarked_line number (get_or places k None) (others_of_way number way places once at.1 k apart)
          ∙ get_or_default places k None d below
          ∙ sym (get_or-set_other places way k new d apart)
    ])

-- where no way keeps it nothing changes
unmarked_places : (places : List (Option KeptLine)) (number : ℕ) → way_of number places ≡ None
    → map (marked_if (λ n. n == number)) places ≡ places
unmarked_places places number missing =
    let marked : Option KeptLine → Option KeptLine = marked_if (λ n. n == number) in
    let long : length (map marked places) ≡ length places = length-map places marked in
    same_lists (map marked places) places long (λ k d lt.
    let below : k < length places = omega (arith, lt, long) in
    get_or-map marked places k None d below
    ∙ unmarked_line number (get_or places k None) (none_of_way number places missing k)
    ∙ get_or_default places k None d below)

no_way : (f : ℕ → ℕ) (found : Option ℕ) → is_some (option_map f found) ≡ false → found ≡ None
no_way f None none = refl
no_way f (Some way) none = absurd (false≢true (sym none))

-- a cache stands for its sets with a mark of a line that isn't here
pub absent_stands : {P : Type 0} (rule : P → ℕ → Rule) (stands : P → ℕ → ℕ → List ℕ → Type 0)
    (cache : Contents P) (number : ℕ) → is_some (place_in cache number) ≡ false → (sets : Sets)
    → StandsFor stands cache sets → StandsFor stands cache (marked_of (shape_of rule cache) sets number)
absent_stands rule stands cache number absent sets for =
    let of : ℕ → List ℕ → Type 0 = stands cache.policy cache.ways in
    let s : ℕ = number % length cache.table in
    let its : CacheSet = set_at cache.ways sets s in
    let next : CacheSet = marked_in its number in
    let missing : way_of number (kept_at cache.table s).places ≡ None =
    no_way (λ (way : ℕ). s * cache.ways + way) (way_of number (kept_at cache.table s).places) absent in
    record {
      each = at-put_by (fresh_set cache.ways) sets s next
          (λ (k : ℕ) (set : CacheSet). k < length cache.table → SetStands of (kept_at cache.table k) set)
          (λ below.
          let there : SetStands of (kept_at cache.table s) its = for.each s below in
          record {
            same = ap (map (marked_if (λ n. n == number))) there.same
                ∙ unmarked_places (kept_at cache.table s).places number missing;
            listed = there.listed;
          })
          (λ k apart below. for.each k below);
    }

-- a mark of a line that its set keeps at a way: the set, by number, and what that keeps
pub record OneMark : Type 0 where
  pub number : ℕ
  pub way : ℕ
  pub set : ℕ
  pub old : KeptSet

-- what the set keeps then
abbrev pub marked_set : OneMark → KeptSet
marked_set m = record { places = set m.old.places m.way (line_of m.number true); state = m.old.state }

-- the lines and marks are those of a store that hits
abbrev store_of_mark : OneMark → OneTouch
store_of_mark m = record {
  number = m.number;
  store = true;
  answer = hit_answer;
  set = m.set;
  old = m.old;
  new = marked_set m;
}

-- the line is one of the cache
pub record MarksCache {P : Type 0} (cache : Contents P) (m : OneMark) : Type 0 where
  pub home : m.set ≡ m.number % length cache.table
  pub old : m.old ≡ kept_at cache.table m.set
  pub found : way_of m.number m.old.places ≡ Some m.way

module _ {P : Type 0} (takes : P → ℕ → Type 0) (rule : P → ℕ → Rule) (stands : P → ℕ → ℕ → List ℕ → Type 0)
    (cache : Contents P) (m : OneMark) (sound : IsSound takes stands cache) (marks : MarksCache cache m) where
  abbrev marked_cache : Contents P
  marked_cache = with_set cache (store_of_mark m)

  at_set : IsOfTable cache.table (store_of_mark m)
  at_set = of_table takes stands cache (store_of_mark m) sound marks.home marks.old

  once_there : IsOnce m.old.places
  once_there = once_at takes stands cache (store_of_mark m) sound at_set

  leaves_set : LeavesSet (stands cache.policy cache.ways) cache.ways (store_of_mark m)
  leaves_set =
      let t : OneTouch = store_of_mark m in
      let ps : List (Option KeptLine) = m.old.places in
      record {
        full = length-hit ps m.way m.number marks.found true ∙ full_at takes stands cache t sound at_set;
        valid = valid_at takes stands cache t sound at_set;
        once = once_hit ps m.way m.number marks.found true once_there;
        first = first_hit ps m.way m.number marks.found true (first_at takes stands cache t sound at_set);
        moves = moves_hit ps m.way m.number marks.found true;
      }

  lines_stay : MovesLines hit_answer m.number (place_in cache) (place_in marked_cache)
  lines_stay = lines_move cache (store_of_mark m) at_set sound.home leaves_set.moves

  marks_of_store : MovesMarks hit_answer m.number true (mark_in cache) (mark_in marked_cache)
  marks_of_store = marks_move cache (store_of_mark m) at_set sound.home leaves_set.moves
      (marks_hit m.old.places m.way m.number marks.found true)

  mark_stands : (sets : Sets) → StandsFor stands cache sets
      → StandsFor stands marked_cache (marked_of (shape_of rule cache) sets m.number)
  mark_stands sets for =
      let of : ℕ → List ℕ → Type 0 = stands cache.policy cache.ways in
      let its : CacheSet = set_at cache.ways sets m.set in
      let there : SetStands of m.old its =
      subst (λ (k : KeptSet). SetStands of k its) (sym marks.old) (for.each m.set at_set.below) in
      let next : SetStands of (marked_set m) (marked_in its m.number) = record {
        same = ap (map (marked_if (λ n. n == m.number))) there.same
            ∙ marked_places m.old.places m.way m.number once_there marks.found;
        listed = there.listed;
      } in
      subst (λ (s : ℕ). StandsFor stands marked_cache (put sets s (marked_in (set_at cache.ways sets s) m.number)))
      at_set.is
      (record {
        each = stands_put of cache.ways cache.table sets m.set (marked_set m) (marked_in its m.number) at_set.below
            next for.each;
      })

  states_stay : (s : ℕ) → (kept_at marked_cache.table s).state ≡ (kept_at cache.table s).state
  states_stay s = elim (cases_eq s m.set) [
    | inl same ↦
        ap (λ (j : ℕ). (kept_at marked_cache.table j).state) same
        ∙ ap (λ (k : KeptSet). k.state) (get_or-set_same cache.table m.set (marked_set m) _ at_set.below)
        ∙ ap (λ (k : KeptSet). k.state) marks.old
        ∙ ap (λ (j : ℕ). (kept_at cache.table j).state) (sym same)
    | inr apart ↦ ap (λ (k : KeptSet). k.state) (get_or-set_other cache.table m.set s (marked_set m) _ apart)
  ]

  -- the cache is marked as the definition says
  pub mark_is : IsMark takes rule stands m.number cache marked_cache
  mark_is = record {
    shape = record {
      same_policy = refl;
      same_ways = refl;
      same_sets = length-set cache.table m.set (marked_set m);
    };
    sound = sound_put takes stands cache (store_of_mark m) sound at_set leaves_set;
    step = mark_stands;
    other_sets = λ s n. get_or-set_other cache.table m.set s (marked_set m) _ (λ e. n (e ∙ at_set.is));
    states = states_stay;
    places = places_stay hit_answer m.number (place_in cache) (place_in marked_cache) lines_stay (sym lines_stay.hit);
    own = marks_of_store.own;
    others = λ other n. marks_of_store.others other n (λ e. let x : None ≡ Some other = e in absurd (cc));
  }

  way_stays : (number : ℕ)
      → way_of number (set_in marked_cache number).places ≡ way_of number (set_in cache number).places
  way_stays number =
      let t : OneTouch = store_of_mark m in
      let way : ℕ → KeptSet → Option ℕ = λ _ k. way_of number k.places in
      elim (cases_eq (number % length cache.table) m.set) [
        | inl here ↦
            of_new cache.table t at_set way number here
            ∙ places_stay hit_answer m.number (ways_of m.old.places) (ways_of (marked_set m).places) leaves_set.moves
            (sym leaves_set.moves.hit) number
            ∙ sym (of_old cache.table t at_set way number here)
        | inr apart ↦ of_else cache.table t at_set way number apart
      ]

  -- the line that was touched last still is
  last_stays : (last : LastTouch) → IsLast rule stands cache last → IsLast rule stands marked_cache last
  last_stays last is =
      let of : ℕ → List ℕ → Type 0 = stands cache.policy cache.ways in
      let touched : List ℕ → ℕ → List ℕ = (rule cache.policy cache.ways).touched in
      let count : length marked_cache.table ≡ length cache.table = length-set cache.table m.set (marked_set m) in
      let state : (set_in marked_cache last.number).state ≡ (set_in cache last.number).state =
      ap (λ (n : ℕ). (kept_at marked_cache.table (last.number % n)).state) count
      ∙ states_stay (last.number % length cache.table) in
      record {
        way = is.way;
        found = way_stays last.number ∙ is.found;
        place = is.place ∙ ap (λ (n : ℕ). last.number % n * cache.ways + is.way) (sym count);
        again =
            subst (λ (n : ℕ). (list : List ℕ) → of n list → of n (touched list is.way)) (sym state) is.again;
      }

-- what a mark leaves: the definition's cache, which is lawful, with the same last touch
pub record Marks {P : Type 0} (takes : P → ℕ → Type 0) (rule : P → ℕ → Rule) (stands : P → ℕ → ℕ → List ℕ → Type 0)
    (cache : Contents P) (fresh : ℕ) (last : LastTouch) (m : OneMark) : Type 0 where
  pub mark : IsMark takes rule stands m.number cache (with_set cache (store_of_mark m))
  pub lawful : IsCache takes rule stands (with_set cache (store_of_mark m)) fresh last

pub cache_mark : {P : Type 0} (takes : P → ℕ → Type 0) (rule : P → ℕ → Rule)
    (stands : P → ℕ → ℕ → List ℕ → Type 0) (cache : Contents P) (fresh : ℕ) (last : LastTouch) (m : OneMark)
    → IsCache takes rule stands cache fresh last → MarksCache cache m
    → Marks takes rule stands cache fresh last m
cache_mark takes rule stands cache fresh last m lawful marks =
    let is = mark_is takes rule stands cache m lawful.sound marks in
    record {
      mark = is;
      lawful = record {
        sound = is.sound;
        few = rw is.shape.same_sets lawful.few;
        fresh_stands = lawful.fresh_stands;
        last_stands = λ line. last_stays takes rule stands cache m lawful.sound marks last (lawful.last_stands line);
      };
    }
