-- Which lines of a table of sets have a mark, and what touches and marks make of them.
use Rattle.std.proofs.Common.{◌≡◌, ◌≢◌, ◌∙◌, sym, refl, ap, ap₂, subst, true≢false, eq-eqb, eqb-true, ne_eqb, ℕ, zero, suc, ◌+◌, ◌-◌, ◌*◌, ◌%◌, ◌<◌, ◌≤◌, Bool, true, false, List, [], ◌∷◌, ◌++◌, Option, Some, None, option_map, get_or, set, replicate, cond, ltb, arith}
use Rattle.std.specs.Prelude.{◌==◌, ◌||◌, ◌&&◌, not, All, map, is_some, if◌then◌else◌}
use Rattle.std.specs.List.{position_or_len}
use Rattle.std.proofs.lemmas.Bool.{false_from_ne_true}
use Rattle.std.proofs.lemmas.List.{length-map}
use Rattle.std.proofs.lemmas.List.Elements.{All-nil, All-cons, All-append}
use Rattle.tp_base.specs.Table.{empty, at-put_by, at-empty}
use Rattle.set_cache.specs.Rule.{Rule}
use Rattle.set_cache.specs.declared.KeptLine.{KeptLine}
use Rattle.set_cache.specs.Cache.{Shape, CacheSet, Sets, fresh_set, set_at, is_line, is_dirty, way_of, way_for, step_by, step_of, touch_of, place_of, marked_if, marked_in, marked_of, dirty_number, with_number, dirty_numbers, places_below, dirty_lines, EachDirty}

-- ---- each line with a mark

-- the same of one set
abbrev pub EachOf : (ℕ → Type 0) → List (Option KeptLine) → Type 0
EachOf Fits places = (way : ℕ) (line : KeptLine) → get_or places way None ≡ Some line → line.dirty ≡ true → Fits line.number

some_same : {A : Type 0} (x y : A) → Some x ≡ Some y → x ≡ y
some_same x y e = cc

module _ (Fits : ℕ → Type 0) where
  pub set_fits : (places : List (Option KeptLine)) (i : ℕ) (new : KeptLine)
      → (new.dirty ≡ true → Fits new.number) → EachOf Fits places
      → EachOf Fits (set places i (Some new))
  set_fits [] i new fits all way line at dirty = all way line at dirty
  set_fits (kept ∷ places) zero new fits all zero line at dirty =
      let same : new ≡ line = some_same new line at in
      subst (λ (l : KeptLine). Fits l.number) same (fits (subst (λ (l : KeptLine). l.dirty ≡ true) (sym same) dirty))
  set_fits (kept ∷ places) zero new fits all (suc way) line at dirty = all (suc way) line at dirty
  set_fits (kept ∷ places) (suc i) new fits all zero line at dirty = all zero line at dirty
  set_fits (kept ∷ places) (suc i) new fits all (suc way) line at dirty =
      set_fits places i new fits (λ w. all (suc w)) way line at dirty

  pub step_fits : (rule : Rule) (its : CacheSet) (number : ℕ) (store : Bool) (found : Option ℕ)
      → (store ≡ true → Fits number)
      → EachOf Fits its.places → EachOf Fits (step_by rule its number store found).next.places
  step_fits rule its number true (Some way) fits all =
      set_fits its.places way (record { number = number; dirty = true }) fits all
  step_fits rule its number false (Some way) fits all = all
  step_fits rule its number store None fits all =
      set_fits its.places (way_for rule its) (record { number = number; dirty = store }) fits all

  victim_of : (places : List (Option KeptLine)) (way : ℕ) (old : Option KeptLine) (victim : ℕ)
      → get_or places way None ≡ old
      → option_map (λ (line : KeptLine). line.number) old ≡ Some victim → is_dirty old ≡ true → EachOf Fits places → Fits victim
  victim_of places way None victim at is dirty all = absurd (true≢false (sym dirty))
  victim_of places way (Some line) victim at is dirty all =
      subst Fits (some_same line.number victim is) (all way line at dirty)

  step_victim : (rule : Rule) (its : CacheSet) (number : ℕ) (store : Bool) (found : Option ℕ) (victim : ℕ)
      → (step_by rule its number store found).answer.victim ≡ Some victim
      → (step_by rule its number store found).answer.dirty_victim ≡ true → EachOf Fits its.places → Fits victim
  step_victim rule its number store (Some way) victim is dirty all = absurd (true≢false (sym dirty))
  step_victim rule its number store None victim is dirty all =
      victim_of its.places (way_for rule its) (get_or its.places (way_for rule its) None) victim refl is dirty all

  number_fits : (line : KeptLine) (numbers : List ℕ) (dirty : Bool) → line.dirty ≡ dirty
      → (line.dirty ≡ true → Fits line.number)
      → All Fits numbers → All Fits (with_number (if dirty then Some line.number else None) numbers)
  number_fits line numbers true is fits all = All-cons Fits line.number numbers (fits is) all
  number_fits line numbers false is fits all = all

  numbers_fit : (places : List (Option KeptLine)) → EachOf Fits places → All Fits (dirty_numbers places)
  numbers_fit [] all = All-nil Fits
  numbers_fit (None ∷ places) all = numbers_fit places (λ way. all (suc way))
  numbers_fit (Some line ∷ places) all =
      number_fits line (dirty_numbers places) line.dirty refl (all 0 line refl) (numbers_fit places (λ way. all (suc way)))

  module _ (shape : Shape) where
    -- a store marks its line alone
    pub EachDirty-touch : (sets : Sets) (number : ℕ) (store : Bool) → (store ≡ true → Fits number)
        → EachDirty Fits shape sets
        → EachDirty Fits shape (touch_of shape sets number store).next
    EachDirty-touch sets number store fits all =
        let home : ℕ = number % shape.count in
        let its : CacheSet = set_at shape.ways sets home in
        at-put_by (fresh_set shape.ways) sets home (step_of shape.rule its number store).next
        (λ _ (one : CacheSet). EachOf Fits one.places)
        (step_fits shape.rule its number store (way_of number its.places) fits (all home)) (λ s other. all s)

    -- a line with a mark that is given up is one of them
    pub dirty_victim_fits : (sets : Sets) (number : ℕ) (store : Bool) (victim : ℕ)
        → (touch_of shape sets number store).answer.victim ≡ Some victim
        → (touch_of shape sets number store).answer.dirty_victim ≡ true → EachDirty Fits shape sets → Fits victim
    dirty_victim_fits sets number store victim is dirty all =
        let home : ℕ = number % shape.count in
        let its : CacheSet = set_at shape.ways sets home in
        step_victim shape.rule its number store (way_of number its.places) victim is dirty (all home)

-- a cache that holds nothing has none
none_kept : (ways way : ℕ) → get_or {A = Option KeptLine} (replicate ways None) way None ≡ None
none_kept zero way = refl
none_kept (suc ways) zero = refl
none_kept (suc ways) (suc way) = none_kept ways way

-- no way of an empty cache keeps a line
pub empty_kept : (ways s way : ℕ) → get_or (set_at ways empty s).places way None ≡ None
empty_kept ways s way =
    ap (λ (its : CacheSet). get_or its.places way None) (at-empty (fresh_set ways) s) ∙ none_kept ways way

pub EachDirty-empty : (Fits : ℕ → Type 0) (shape : Shape) → EachDirty Fits shape empty
EachDirty-empty Fits shape s way line at dirty =
    let some : None ≡ Some line = sym (empty_kept shape.ways s way) ∙ at in
    absurd (cc)

pub EachDirty-weaker : (Fits Others : ℕ → Type 0) (shape : Shape) (sets : Sets)
    → ((n : ℕ) → Fits n → Others n)
    → EachDirty Fits shape sets → EachDirty Others shape sets
EachDirty-weaker Fits Others shape sets weaker all s way line at dirty = weaker line.number (all s way line at dirty)

-- where no way of its set has a mark, none is given up
module _ (places : List (Option KeptLine)) (none : EachOf (λ _. ⊥) places) where
  clean_kept : (way : ℕ) (old : Option KeptLine) → get_or places way None ≡ old → is_dirty old ≡ false
  clean_kept way None at = refl
  clean_kept way (Some line) at = false_from_ne_true line.dirty (none way line at)

pub clean_victim : (rule : Rule) (its : CacheSet) (number : ℕ) (store : Bool) (found : Option ℕ)
    → EachOf (λ _. ⊥) its.places
    → (step_by rule its number store found).answer.dirty_victim ≡ false
clean_victim rule its number store (Some way) none = refl
clean_victim rule its number store None none =
    clean_kept its.places none (way_for rule its) (get_or its.places (way_for rule its) None) refl

-- ---- the list of them

with_number-append : (number : Option ℕ) (xs ys : List ℕ)
    → with_number number (xs ++ ys) ≡ with_number number xs ++ ys
with_number-append None xs ys = refl
with_number-append (Some number) xs ys = refl

pub dirty_numbers-append : (xs ys : List (Option KeptLine))
    → dirty_numbers (xs ++ ys) ≡ dirty_numbers xs ++ dirty_numbers ys
dirty_numbers-append [] ys = refl
dirty_numbers-append (None ∷ xs) ys = dirty_numbers-append xs ys
dirty_numbers-append (Some line ∷ xs) ys =
    ap (with_number (if line.dirty then Some line.number else None)) (dirty_numbers-append xs ys)
    ∙ with_number-append (if line.dirty then Some line.number else None) (dirty_numbers xs) (dirty_numbers ys)

below_fit : (Fits : ℕ → Type 0) (shape : Shape) (sets : Sets) (count : ℕ) → EachDirty Fits shape sets
    → All Fits (dirty_numbers (places_below shape.ways sets count))
below_fit Fits shape sets zero all = All-nil Fits
below_fit Fits shape sets (suc count) all =
    subst (All Fits) (sym (dirty_numbers-append (places_below shape.ways sets count) (set_at shape.ways sets count).places))
    (All-append Fits (dirty_numbers (places_below shape.ways sets count)) (dirty_numbers (set_at shape.ways sets count).places)
    (below_fit Fits shape sets count all) (numbers_fit Fits (set_at shape.ways sets count).places (all count)))

pub dirty_lines_fit : (Fits : ℕ → Type 0) (shape : Shape) (sets : Sets) → EachDirty Fits shape sets
    → All Fits (dirty_lines shape sets)
dirty_lines_fit Fits shape sets all = below_fit Fits shape sets shape.count all

-- ---- what a list of them tells

-- whether a number is one of these
abbrev pub is_among : ℕ → List ℕ → Bool
is_among n [] = false
is_among n (x ∷ xs) = (n == x) || is_among n xs

or_assoc : (a b c : Bool) → ((a || b) || c) ≡ (a || (b || c))
or_assoc true b c = refl
or_assoc false b c = refl

or_none : (a : Bool) → (a || false) ≡ a
or_none true = refl
or_none false = refl

or_swap : (a b c : Bool) → (a || (b || c)) ≡ (b || (a || c))
or_swap true true c = refl
or_swap true false c = refl
or_swap false b c = refl

pub is_among-append : (n : ℕ) (xs ys : List ℕ) → is_among n (xs ++ ys) ≡ (is_among n xs || is_among n ys)
is_among-append n [] ys = refl
is_among-append n (x ∷ xs) ys =
    ap (λ (b : Bool). (n == x) || b) (is_among-append n xs ys) ∙ sym (or_assoc (n == x) (is_among n xs) (is_among n ys))

-- whether a way keeps this number with a mark
abbrev dirty_is : ℕ → Option KeptLine → Bool
dirty_is n kept = is_among n (with_number (dirty_number kept) [])

among_first : (n : ℕ) (kept : Option KeptLine) (numbers : List ℕ)
    → is_among n (with_number (dirty_number kept) numbers) ≡ (dirty_is n kept || is_among n numbers)
among_first n None numbers = refl
among_first n (Some line) numbers = first line.dirty
  where
    first : (dirty : Bool) → is_among n (with_number (if dirty then Some line.number else None) numbers)
        ≡ (is_among n (with_number (if dirty then Some line.number else None) []) || is_among n numbers)
    first true = ap (λ (b : Bool). b || is_among n numbers) (sym (or_none (n == line.number)))
    first false = refl

-- a line without a mark in place of what a way kept
set_among : (n : ℕ) (places : List (Option KeptLine)) (way number : ℕ)
    → (dirty_is n (get_or places way None)
    || is_among n (dirty_numbers (set places way (Some (record { number = number; dirty = false })))))
    ≡ is_among n (dirty_numbers places)
set_among n [] way number = refl
set_among n (kept ∷ places) zero number = sym (among_first n kept (dirty_numbers places))
set_among n (kept ∷ places) (suc way) number =
    let old : Option KeptLine = get_or places way None in
    let new : List (Option KeptLine) = set places way (Some (record { number = number; dirty = false })) in
    ap (λ (b : Bool). dirty_is n old || b) (among_first n kept (dirty_numbers new))
    ∙ or_swap (dirty_is n old) (dirty_is n kept) (is_among n (dirty_numbers new))
    ∙ ap (λ (b : Bool). dirty_is n kept || b) (set_among n places way number)
    ∙ sym (among_first n kept (dirty_numbers places))

-- the line that a load gives up, if it has a mark
abbrev pub given_up_dirty : Shape → Sets → ℕ → Option ℕ
given_up_dirty shape sets number =
    let answer = (touch_of shape sets number false).answer in
    if answer.dirty_victim then answer.victim else None

-- of one set
step_among : (n : ℕ) (rule : Rule) (its : CacheSet) (number : ℕ) (found : Option ℕ)
    → let step = step_by rule its number false found in
    (is_among n (with_number (if step.answer.dirty_victim then step.answer.victim else None) [])
    || is_among n (dirty_numbers step.next.places))
    ≡ is_among n (dirty_numbers its.places)
step_among n rule its number (Some way) = refl
step_among n rule its number None =
    ap (λ (b : Bool). b
    || is_among n (dirty_numbers
    (set its.places (way_for rule its) (Some (record { number = number; dirty = false })))))
    (old_is (get_or its.places (way_for rule its) None))
    ∙ set_among n its.places (way_for rule its) number
  where
    old_is : (old : Option KeptLine)
        → is_among n (with_number (if is_dirty old then option_map (λ (line : KeptLine). line.number) old else None) []) ≡ dirty_is n old
    old_is None = refl
    old_is (Some line) = of line.dirty
      where
        of : (dirty : Bool) → is_among n (with_number (if dirty then Some line.number else None) [])
            ≡ is_among n (with_number (if dirty then Some line.number else None) [])
        of dirty = refl

below_among : (n : ℕ) (ways : ℕ) (sets : Sets) (count : ℕ)
    → is_among n (dirty_numbers (places_below ways sets (suc count)))
    ≡ (is_among n (dirty_numbers (places_below ways sets count)) || is_among n (dirty_numbers (set_at ways sets count).places))
below_among n ways sets count =
    ap (is_among n) (dirty_numbers-append (places_below ways sets count) (set_at ways sets count).places)
    ∙ is_among-append n (dirty_numbers (places_below ways sets count)) (dirty_numbers (set_at ways sets count).places)

module _ (n : ℕ) (shape : Shape) (sets : Sets) (number : ℕ) where
  abbrev home : ℕ
  home = number % shape.count

  abbrev after : Sets
  after = (touch_of shape sets number false).next

  -- whether it is the line that is given up
  abbrev is_given : Bool
  is_given = is_among n (with_number (given_up_dirty shape sets number) [])

  -- whether it has a mark in the first so many sets
  abbrev among : Sets → ℕ → Bool
  among cache count = is_among n (dirty_numbers (places_below shape.ways cache count))

  abbrev among_set : Sets → ℕ → Bool
  among_set cache s = is_among n (dirty_numbers (set_at shape.ways cache s).places)

  set_after : (s : ℕ) → s ≢ home → among_set after s ≡ among_set sets s
  set_after s other =
      at-put_by (fresh_set shape.ways) sets home (step_of shape.rule (set_at shape.ways sets home) number false).next
      (λ k (one : CacheSet). k ≢ home → is_among n (dirty_numbers one.places) ≡ among_set sets k)
      (λ same. absurd (same refl)) (λ k apart _. refl) s other

  home_after : (is_given || among_set after home) ≡ among_set sets home
  home_after =
      let its : CacheSet = set_at shape.ways sets home in
      subst (λ (one : CacheSet). (is_given || is_among n (dirty_numbers one.places)) ≡ among_set sets home)
      (sym (at-put_by (fresh_set shape.ways) sets home (step_of shape.rule its number false).next
      (λ k (one : CacheSet). k ≡ home → one ≡ (step_of shape.rule its number false).next) (λ _. refl)
      (λ k apart same. absurd (apart same)) home refl))
      (step_among n shape.rule its number (way_of number its.places))

  -- the sets before the line's are as they were
  before : (count : ℕ) → count ≤ home → among after count ≡ among sets count
  before zero few = refl
  before (suc count) few =
      below_among n shape.ways after count
      ∙ ap₂ (λ (a b : Bool). a || b) (before count (omega (arith, few))) (set_after count (λ same. omega (arith, few, same)))
      ∙ sym (below_among n shape.ways sets count)

  -- what is given up and what is left are what there was
  abbrev IsAll : ℕ → Type 0
  IsAll count = (is_given || among after count) ≡ among sets count

  past_home : IsAll (suc home)
  past_home =
      ap (λ (b : Bool). is_given || b) (below_among n shape.ways after home)
      ∙ or_swap is_given (among after home) (among_set after home)
      ∙ ap₂ (λ (a b : Bool). a || b) (before home (omega arith)) home_after
      ∙ sym (below_among n shape.ways sets home)

  past : (more place : ℕ) → place ≡ more + home → IsAll (suc place)
  past zero place is = let same : home ≡ place = omega (arith, is) in subst (λ (k : ℕ). IsAll (suc k)) same past_home
  past (suc more) place is =
      let last : ℕ = more + home in
      let next : suc last ≡ place = omega (arith, is) in
      subst (λ (k : ℕ). IsAll (suc k)) next
      (ap (λ (b : Bool). is_given || b) (below_among n shape.ways after (suc last))
      ∙ sym (or_assoc is_given (among after (suc last)) (among_set after (suc last)))
      ∙ ap₂ (λ (a b : Bool). a || b) (past more last refl) (set_after (suc last) (λ same. omega (arith, same)))
      ∙ sym (below_among n shape.ways sets (suc last)))

  -- a load takes the mark of the line that is given up alone
  pub among-load : home < shape.count
      → (is_given || is_among n (dirty_lines shape after)) ≡ is_among n (dirty_lines shape sets)
  among-load lt =
      let more : ℕ = shape.count - suc home in
      let all : suc (more + home) ≡ shape.count = omega (arith, lt) in
      subst IsAll all (past more (more + home) refl)

-- ---- marks

-- a set in which the lines that pass a test have a mark
abbrev pub marked_by : (ℕ → Bool) → CacheSet → CacheSet
marked_by test its = record its { places = map (marked_if test) its.places }

-- no line comes, goes or moves
pub line_marked : (number : ℕ) (test : ℕ → Bool) (kept : Option KeptLine)
    → is_line number (marked_if test kept) ≡ is_line number kept
line_marked number test None = refl
line_marked number test (Some line) = refl

first_marked : (number : ℕ) (test : ℕ → Bool) (places : List (Option KeptLine))
    → position_or_len (is_line number) (map (marked_if test) places) ≡ position_or_len (is_line number) places
first_marked number test [] = refl
first_marked number test (kept ∷ places) =
    ap₂ (λ (b : Bool) (k : ℕ). cond (not b) (1 + k) 0) (line_marked number test kept) (first_marked number test places)

pub way_of-marked : (number : ℕ) (test : ℕ → Bool) (places : List (Option KeptLine))
    → way_of number (map (marked_if test) places) ≡ way_of number places
way_of-marked number test places =
    ap₂ (λ (k n : ℕ). cond (ltb k n) (Some k) None) (first_marked number test places) (length-map places (marked_if test))

marked-same : (f g : ℕ → Bool) → ((n : ℕ) → f n ≡ g n) → (places : List (Option KeptLine))
    → map (marked_if f) places ≡ map (marked_if g) places
marked-same f g same [] = refl
marked-same f g same (None ∷ places) = ap (λ (ps : List (Option KeptLine)). None ∷ ps) (marked-same f g same places)
marked-same f g same (Some line ∷ places) =
    ap₂ (λ (b : Bool) (ps : List (Option KeptLine)). Some (record { number = line.number; dirty = line.dirty || b }) ∷ ps)
    (same line.number) (marked-same f g same places)

marked-none : (places : List (Option KeptLine)) → map (marked_if (λ _. false)) places ≡ places
marked-none [] = refl
marked-none (None ∷ places) = ap (λ (ps : List (Option KeptLine)). None ∷ ps) (marked-none places)
marked-none (Some line ∷ places) =
    ap₂ (λ (b : Bool) (ps : List (Option KeptLine)). Some (record { number = line.number; dirty = b }) ∷ ps)
    (or_none line.dirty) (marked-none places)

marked-twice : (f g : ℕ → Bool) (places : List (Option KeptLine))
    → map (marked_if f) (map (marked_if g) places) ≡ map (marked_if (λ n. g n || f n)) places
marked-twice f g [] = refl
marked-twice f g (None ∷ places) = ap (λ (ps : List (Option KeptLine)). None ∷ ps) (marked-twice f g places)
marked-twice f g (Some line ∷ places) =
    ap₂ (λ (b : Bool) (ps : List (Option KeptLine)). Some (record { number = line.number; dirty = b }) ∷ ps)
    (or_assoc line.dirty (g line.number) (f line.number)) (marked-twice f g places)

-- sets that are marked by equal tests are equal
pub marked_by-same : (f g : ℕ → Bool) (its : CacheSet) → ((n : ℕ) → f n ≡ g n)
    → marked_by f its ≡ marked_by g its
marked_by-same f g its same =
    ap (λ (ps : List (Option KeptLine)). record its { places = ps }) (marked-same f g same its.places)

pub marked_by-none : (its : CacheSet) → marked_by (λ _. false) its ≡ its
marked_by-none its = ap (λ (ps : List (Option KeptLine)). record its { places = ps }) (marked-none its.places)

pub marked_by-twice : (f g : ℕ → Bool) (its : CacheSet)
    → marked_by f (marked_by g its) ≡ marked_by (λ n. g n || f n) its
marked_by-twice f g its = ap (λ (ps : List (Option KeptLine)). record its { places = ps }) (marked-twice f g its.places)

-- what a way keeps after marks has its number, and a mark where it had one
pub marked_at : (test : ℕ → Bool) (places : List (Option KeptLine)) (way : ℕ)
    → get_or (map (marked_if test) places) way None ≡ marked_if test (get_or places way None)
marked_at test [] way = refl
marked_at test (kept ∷ places) zero = refl
marked_at test (kept ∷ places) (suc way) = marked_at test places way

-- in the set of its number
abbrev pub is_here : Shape → ℕ → ℕ → ℕ → Bool
is_here shape s number n = (n == number) && (number % shape.count == s)

and_true : (a : Bool) → (a && true) ≡ a
and_true true = refl
and_true false = refl

and_false : (a : Bool) → (a && false) ≡ false
and_false true = refl
and_false false = refl

-- a set of a cache in which a line is marked
pub set_at-marked : (shape : Shape) (sets : Sets) (number s : ℕ)
    → set_at shape.ways (marked_of shape sets number) s ≡ marked_by (is_here shape s number) (set_at shape.ways sets s)
set_at-marked shape sets number s =
    let home : ℕ = number % shape.count in
    let its : CacheSet = set_at shape.ways sets home in
    at-put_by (fresh_set shape.ways) sets home (marked_in its number)
    (λ k (one : CacheSet). one ≡ marked_by (is_here shape k number) (set_at shape.ways sets k))
    (marked_by-same (λ n. n == number) (is_here shape home number) its
    (λ n. sym (ap (λ (b : Bool). (n == number) && b) (eq-eqb home home refl) ∙ and_true (n == number))))
    (λ k apart.
    sym (marked_by-same (is_here shape k number) (λ _. false) (set_at shape.ways sets k)
    (λ n. ap (λ (b : Bool). (n == number) && b) (ne_eqb home k (λ e. apart (sym e))) ∙ and_false (n == number))
    ∙ marked_by-none (set_at shape.ways sets k))) s

-- another set stays
pub set_at-marked_other : (shape : Shape) (sets : Sets) (number s : ℕ) → s ≢ number % shape.count
    → set_at shape.ways (marked_of shape sets number) s ≡ set_at shape.ways sets s
set_at-marked_other shape sets number s apart =
    set_at-marked shape sets number s
    ∙ marked_by-same (is_here shape s number) (λ _. false) (set_at shape.ways sets s)
    (λ n. ap (λ (b : Bool). (n == number) && b) (ne_eqb (number % shape.count) s (λ e. apart (sym e))) ∙ and_false (n == number))
    ∙ marked_by-none (set_at shape.ways sets s)

-- marks move no line
pub held_marked : (shape : Shape) (sets : Sets) (number line : ℕ)
    → is_some (place_of shape (marked_of shape sets number) line) ≡ is_some (place_of shape sets line)
held_marked shape sets number line =
    let s : ℕ = line % shape.count in
    let its : CacheSet = set_at shape.ways sets s in
    ap (λ (one : CacheSet). is_some (option_map (λ way. s * shape.ways + way) (way_of line one.places))) (set_at-marked shape sets number s)
    ∙ ap (λ (found : Option ℕ). is_some (option_map (λ way. s * shape.ways + way) found))
    (way_of-marked line (is_here shape s number) its.places)

-- whether one of these lines is here
abbrev pub is_here_of : Shape → ℕ → List ℕ → ℕ → Bool
is_here_of shape s [] n = false
is_here_of shape s (x ∷ xs) n = is_here shape s x n || is_here_of shape s xs n

-- it is one of them, and here
pub here_among : (shape : Shape) (s : ℕ) (xs : List ℕ) (n : ℕ)
    → is_here_of shape s xs n ≡ (is_among n xs && (n % shape.count == s))
here_among shape s [] n = refl
here_among shape s (x ∷ xs) n =
    ap₂ (λ (a b : Bool). a || b) (first (n == x) refl) (here_among shape s xs n)
    ∙ shared (n == x) (is_among n xs) (n % shape.count == s)
  where
    first : (b : Bool) → (n == x) ≡ b → (b && (x % shape.count == s)) ≡ (b && (n % shape.count == s))
    first true is = ap (λ (k : ℕ). k % shape.count == s) (sym (eqb-true n x is))
    first false is = refl

    shared : (a b c : Bool) → ((a && c) || (b && c)) ≡ ((a || b) && c)
    shared true true true = refl
    shared true true false = refl
    shared true false true = refl
    shared true false false = refl
    shared false b c = refl

-- lists of the same lines mark alike
pub same_marks : (shape : Shape) (s : ℕ) (xs ys : List ℕ) (its : CacheSet)
    → ((n : ℕ) → is_among n xs ≡ is_among n ys)
    → marked_by (is_here_of shape s xs) its ≡ marked_by (is_here_of shape s ys) its
same_marks shape s xs ys its same =
    marked_by-same (is_here_of shape s xs) (is_here_of shape s ys) its
    (λ n. here_among shape s xs n ∙ ap (λ (b : Bool). b && (n % shape.count == s)) (same n) ∙ sym (here_among shape s ys n))
