-- The flat vectors of entries and states, as the table of sets that they keep.
use Rattle.std.proofs.Common.{◌≡◌, ◌≢◌, ℕ, zero, suc, ◌+◌, ◌-◌, ◌*◌, ◌<◌, ◌≤◌, ◌^◌, take, drop, set, get_or, zero-add, Bool, true, false, cond, eqb, List, [], ◌∷◌, map, length, Option, Some, None, replicate, refl, ap, sym, subst, ◌∙◌, arith, inl, inr, get_or-set_same, get_or-set_other}
use Rattle.std.proofs.Math.ListN.{length-map, length-set}
use Rattle.std.proofs.Math.Seq.{take-set-lt}
use Rattle.std.proofs.lemmas.List.{drop-take, drop-set-add, drop-set-lt, take-set-le, get_or-map, get_or-replicate, get_or-take, get_or-drop, same_lists, length-take, length-drop, length-replicate, map-set}
use Rattle.std.proofs.lemmas.List.Elements.{All-replicate, All-set, All-take, All-drop, All-head, All-tail}
use Rattle.std.proofs.lemmas.List.FromFn.{length-range_with_len, get_or-range_with_len}
use Rattle.std.proofs.lemmas.List.Sums.{sum_by-set, sum_by-le, count_by-le-length}
use Rattle.std.proofs.lemmas.List.Folds.{sum_by-replicate}
use Rattle.std.proofs.lemmas.Nat.{row_fits}
use Rattle.std.proofs.lemmas.Bool.{cases_eq, cases_lt}
use Rattle.std.proofs.lemmas.Bool.Decides.{nat_tests}
use Rattle.std.specs.Prelude.{All, count_by, sum_by}
use Rattle.std.specs.List.{position, prefix_len, range_with_len}
use Rattle.set_cache.specs.declared.KeptLine.{KeptLine}
use Rattle.set_cache.specs.declared.packed.Entry.{Entry}
use Rattle.set_cache.specs.declared.packed.WrittenState.{WrittenState}
use Rattle.set_cache.specs.Cache.{is_dirty, dirty_in}
use Rattle.set_cache.specs.Contents.{KeptSet, kept_at}
use Rattle.set_cache.specs.Packed.{KeptSets, line_in, state_in, entries_of, kept_in, table_in, dirty_sum, fresh_sets, IsPacked}

prefix_len-map : {A B : Type 0} (p : B → Bool) (f : A → B) (xs : List A)
    → prefix_len p (map f xs) ≡ prefix_len (λ x. p (f x)) xs
prefix_len-map p f [] = refl
prefix_len-map p f (x ∷ xs) = ap (λ n. cond (p (f x)) (1 + n) 0) (prefix_len-map p f xs)

pub position-map : {A B : Type 0} (p : B → Bool) (f : A → B) (xs : List A)
    → position p (map f xs) ≡ position (λ x. p (f x)) xs
position-map p f xs = rw (prefix_len-map, length-map)

-- ---- reading a set

pub length_table : (ways epoch fresh : ℕ) (entries : List Entry) (states : List WrittenState)
    → length (table_in ways epoch fresh entries states) ≡ length states
length_table ways epoch fresh entries states = simp (length-map, length-range_with_len)

pub get_or-table : (ways epoch fresh : ℕ) (entries : List Entry) (states : List WrittenState)
    (s : ℕ) (d : KeptSet) → s < length states
    → get_or (table_in ways epoch fresh entries states) s d ≡ kept_in ways epoch fresh entries states s
get_or-table ways epoch fresh entries states s d below =
    let len : length (range_with_len 0 (length states)) ≡ length states =
    length-range_with_len 0 (length states) in
    get_or-map (kept_in ways epoch fresh entries states) (range_with_len 0 (length states)) s 0 d
    (omega arith)
    ∙ ap (kept_in ways epoch fresh entries states)
    (get_or-range_with_len 0 (length states) s 0 below ∙ zero-add s)

-- as many entries as ways
pub length-entries_of : (ways n s : ℕ) (entries : List Entry) → length entries ≡ n * ways → s < n
    → length (entries_of ways entries s) ≡ ways
length-entries_of ways n s entries full below =
    let fits : s * ways + ways ≤ n * ways = row_fits s ways n ways below (omega arith) in
    simp (length-take, length-drop) (omega arith)

-- the entry of a way
pub get_or-entries_of : (ways s way : ℕ) (entries : List Entry) (d : Entry) → way < ways
    → get_or (entries_of ways entries s) way d ≡ get_or entries (s * ways + way) d
get_or-entries_of ways s way entries d within =
    get_or-take ways (drop (s * ways) entries) way d within ∙ get_or-drop (s * ways) entries way d

-- and what the way keeps
pub line_at : (ways epoch n s way : ℕ) (entries : List Entry) (d : Entry)
    → length entries ≡ n * ways → s < n → way < ways
    → get_or (map (line_in epoch) (entries_of ways entries s)) way None
    ≡ line_in epoch (get_or entries (s * ways + way) d)
line_at ways epoch n s way entries d full below within =
    let len : length (entries_of ways entries s) ≡ ways = length-entries_of ways n s entries full below in
    get_or-map (line_in epoch) (entries_of ways entries s) way d None (omega (arith, len))
    ∙ ap (line_in epoch) (get_or-entries_of ways s way entries d within)

-- a look-up in the entries of a set is one in its places
pub found_in : (p : Option KeptLine → Bool) (ways epoch fresh : ℕ) (entries : List Entry)
    (states : List WrittenState)
    (s k : ℕ) → s < length states → k ≡ ways
    → position (λ e. p (line_in epoch e)) (take k (drop (s * ways) entries))
    ≡ position p (kept_at (table_in ways epoch fresh entries states) s).places
found_in p ways epoch fresh entries states s k below is =
    ap (λ (n : ℕ). position (λ e. p (line_in epoch e)) (take n (drop (s * ways) entries))) is
    ∙ sym (position-map p (line_in epoch) (entries_of ways entries s))
    ∙ ap (λ (kept : KeptSet). position p kept.places)
    (sym (get_or-table ways epoch fresh entries states s (record { places = []; state = 0 }) below))

-- ---- writing a set

-- one set of the vectors, as it is written: the entries' vector, and what the policy's state is written as
pub record OneWrite : Type 0 where
  pub set : ℕ
  pub entries : List Entry
  pub state : WrittenState

-- the written entries are the set's alone
pub record WritesSet (ways : ℕ) (entries : List Entry) (states : List WrittenState)
    (w : OneWrite) : Type 0 where
  pub below : w.set < length states
  pub others : (s : ℕ) → s ≢ w.set → entries_of ways w.entries s ≡ entries_of ways entries s

-- one set written is one set of the table written
pub table-write : (ways epoch fresh : ℕ) (entries : List Entry) (states : List WrittenState) (w : OneWrite)
    → WritesSet ways entries states w
    → table_in ways epoch fresh w.entries (set states w.set w.state)
    ≡ set (table_in ways epoch fresh entries states) w.set (record {
      places = map (line_in epoch) (entries_of ways w.entries w.set);
      state = state_in epoch fresh w.state;
    })
table-write ways epoch fresh entries states w writes =
    let blank : WrittenState = record { state = 0; epoch = 0 } in
    let i : ℕ = w.set in
    let written : List WrittenState = set states i w.state in
    let kept : KeptSet = record {
      places = map (line_in epoch) (entries_of ways w.entries i);
      state = state_in epoch fresh w.state;
    } in
    let old : List KeptSet = table_in ways epoch fresh entries states in
    let new : List KeptSet = table_in ways epoch fresh w.entries written in
    let same : length written ≡ length states = length-set states i w.state in
    let long : length new ≡ length states = length_table ways epoch fresh w.entries written ∙ same in
    let long' : length old ≡ length states = length_table ways epoch fresh entries states in
    same_lists new (set old i kept) (long ∙ sym (length-set old i kept ∙ long'))
    (λ s d lt.
    let below : s < length states = omega (arith, long) in
    get_or-table ways epoch fresh w.entries written s d (omega (arith, below, same)) ∙
    elim (cases_eq s i) [
      | inl here ↦
          let state : get_or written i blank ≡ w.state =
          get_or-set_same states i w.state blank writes.below in
          subst (λ (j : ℕ). kept_in ways epoch fresh w.entries written j ≡ get_or (set old i kept) j d)
          (sym here)
          (rw state (sym (get_or-set_same old i kept d (omega (arith, long', writes.below)))))
      | inr apart ↦
          let state : get_or written s blank ≡ get_or states s blank =
          get_or-set_other states i s w.state blank apart in
          rw (state, writes.others s apart)
          (sym (get_or-set_other old i s kept d apart ∙ get_or-table ways epoch fresh entries states s d below))
    ])

-- one entry written
entry_same : (ways s way : ℕ) (entries : List Entry) (entry : Entry) → way < ways
    → entries_of ways (set entries (s * ways + way) entry) s ≡ set (entries_of ways entries s) way entry
entry_same ways s way entries entry within =
    ap (take ways) (drop-set-add (s * ways) entries way entry)
    ∙ take-set-lt ways (drop (s * ways) entries) way entry within

entry_other : (ways s way other : ℕ) (entries : List Entry) (entry : Entry) → way < ways → other ≢ s
    → entries_of ways (set entries (s * ways + way) entry) other ≡ entries_of ways entries other
entry_other ways s way other entries entry within apart =
    let written : List Entry = set entries (s * ways + way) entry in
    elim (cases_lt other s) [
      | inl lt ↦
          let before : other * ways + ways ≤ s * ways = row_fits other ways s ways lt (omega arith) in
          sym (drop-take (other * ways) ways written)
          ∙ ap (drop (other * ways))
          (take-set-le (other * ways + ways) entries (s * ways + way) entry (omega arith))
          ∙ drop-take (other * ways) ways entries
      | inr ge ↦
          let after : s * ways + ways ≤ other * ways =
          row_fits s ways other ways (omega arith) (omega arith) in
          ap (take ways) (drop-set-lt (other * ways) entries (s * ways + way) entry (omega arith))
    ]

-- a way and a state of a set, as they are written in an epoch
pub record OneEntry : Type 0 where
  pub set : ℕ
  pub way : ℕ
  pub line : KeptLine
  pub state : ℕ

abbrev pub entry_of : ℕ → OneEntry → Entry
entry_of epoch e = record { number = e.line.number; dirty = e.line.dirty; epoch = epoch }

-- what is written in this epoch counts
line_now : (epoch : ℕ) (e : OneEntry) → line_in epoch (entry_of epoch e) ≡ Some e.line
line_now epoch e = let now : eqb epoch epoch ≡ true = grind (arith, nat_tests) in rw now refl

pub state_now : (epoch fresh state : ℕ)
    → state_in epoch fresh (record { state = state; epoch = epoch }) ≡ state
state_now epoch fresh state = let now : eqb epoch epoch ≡ true = grind (arith, nat_tests) in rw now refl

-- the table with the written way and state
abbrev pub with_entry : List KeptSet → OneEntry → List KeptSet
with_entry table e = set table e.set (record {
  places = set (kept_at table e.set).places e.way (Some e.line);
  state = e.state;
})

pub kept_places : (ways epoch fresh : ℕ) (entries : List Entry) (states : List WrittenState) (s : ℕ)
    → s < length states
    → (kept_at (table_in ways epoch fresh entries states) s).places
    ≡ map (line_in epoch) (entries_of ways entries s)
kept_places ways epoch fresh entries states s below =
    ap (λ (k : KeptSet). k.places) (get_or-table ways epoch fresh entries states s _ below)

pub table-entry : (ways epoch fresh : ℕ) (entries : List Entry) (states : List WrittenState) (e : OneEntry)
    → e.set < length states → e.way < ways
    → table_in ways epoch fresh (set entries (e.set * ways + e.way) (entry_of epoch e))
    (set states e.set (record { state = e.state; epoch = epoch }))
    ≡ with_entry (table_in ways epoch fresh entries states) e
table-entry ways epoch fresh entries states e below within =
    let table : List KeptSet = table_in ways epoch fresh entries states in
    let w : OneWrite = record {
      set = e.set;
      entries = set entries (e.set * ways + e.way) (entry_of epoch e);
      state = record { state = e.state; epoch = epoch };
    } in
    let whole = table-write ways epoch fresh entries states w (record {
      below = below;
      others = λ s apart. entry_other ways e.set e.way s entries (entry_of epoch e) within apart;
    }) in
    let places : map (line_in epoch) (entries_of ways w.entries e.set)
    ≡ set (kept_at table e.set).places e.way (Some e.line) =
    ap (map (line_in epoch)) (entry_same ways e.set e.way entries (entry_of epoch e) within)
    ∙ map-set (line_in epoch) (entries_of ways entries e.set) e.way (entry_of epoch e)
    ∙ ap (set (map (line_in epoch) (entries_of ways entries e.set)) e.way) (line_now epoch e)
    ∙ ap (λ (ps : List (Option KeptLine)). set ps e.way (Some e.line))
    (sym (kept_places ways epoch fresh entries states e.set below)) in
    whole
    ∙ ap (λ (ps : List (Option KeptLine)). set table e.set
    (record { places = ps; state = state_in epoch fresh w.state })) places
    ∙ ap (λ (v : ℕ). set table e.set
    (record { places = set (kept_at table e.set).places e.way (Some e.line); state = v }))
    (state_now epoch fresh e.state)

-- a state alone
pub table-state : (ways epoch fresh : ℕ) (entries : List Entry) (states : List WrittenState) (s state : ℕ)
    → s < length states
    → table_in ways epoch fresh entries (set states s (record { state = state; epoch = epoch }))
    ≡ set (table_in ways epoch fresh entries states) s (record {
      places = (kept_at (table_in ways epoch fresh entries states) s).places;
      state = state;
    })
table-state ways epoch fresh entries states s state below =
    let table : List KeptSet = table_in ways epoch fresh entries states in
    let written : WrittenState = record { state = state; epoch = epoch } in
    let w : OneWrite = record { set = s; entries = entries; state = written } in
    let whole = table-write ways epoch fresh entries states w
    (record { below = below; others = λ k apart. refl }) in
    whole
    ∙ ap (λ (ps : List (Option KeptLine)). set table s
    (record { places = ps; state = state_in epoch fresh written }))
    (sym (kept_places ways epoch fresh entries states s below))
    ∙ ap (λ (v : ℕ). set table s (record { places = (kept_at table s).places; state = v }))
    (state_now epoch fresh state)

-- ---- what was written in an earlier epoch

stale_places : (epoch : ℕ) (entries : List Entry) → All (λ (e : Entry). e.epoch < epoch) entries
    → map (line_in epoch) entries ≡ replicate (length entries) None
stale_places epoch [] past = refl
stale_places epoch (e ∷ es) past =
    let Past : Entry → Type 0 = λ x. x.epoch < epoch in
    let lt : e.epoch < epoch = All-head Past e es past in
    let off : eqb e.epoch epoch ≡ false = grind (arith, nat_tests) in
    let rest : map (line_in epoch) es ≡ replicate (length es) None =
    stale_places epoch es (All-tail Past e es past) in
    rw (off, rest) refl

stale_state : (epoch fresh : ℕ) (written : WrittenState) → written.epoch < epoch
    → state_in epoch fresh written ≡ fresh
stale_state epoch fresh written lt =
    let off : eqb written.epoch epoch ≡ false = grind (arith, nat_tests) in
    rw off refl

-- all of it is earlier
pub record IsStale (ways epoch : ℕ) (entries : List Entry) (states : List WrittenState) : Type 0 where
  pub full : length entries ≡ length states * ways
  pub entries_past : All (λ entry. entry.epoch < epoch) entries
  pub states_past : All (λ written. written.epoch < epoch) states

-- and counts for nothing
pub table-stale : (ways epoch fresh : ℕ) (entries : List Entry) (states : List WrittenState)
    → IsStale ways epoch entries states
    → table_in ways epoch fresh entries states ≡ (fresh_sets (length states) ways epoch fresh).table
table-stale ways epoch fresh entries states stale =
    let Past : Entry → Type 0 = λ x. x.epoch < epoch in
    let blank : KeptSet = record { places = replicate ways None; state = fresh } in
    let table : List KeptSet = table_in ways epoch fresh entries states in
    let long : length table ≡ length states = length_table ways epoch fresh entries states in
    same_lists table (replicate (length states) blank) (long ∙ sym (length-replicate (length states) blank))
    (λ s d lt.
    let below : s < length states = omega (arith, long) in
    let part : List Entry = entries_of ways entries s in
    let places : map (line_in epoch) part ≡ replicate ways None =
    stale_places epoch part
    (All-take Past ways (drop (s * ways) entries) (All-drop Past (s * ways) entries stale.entries_past))
    ∙ ap (λ (n : ℕ). replicate n None)
    (length-entries_of ways (length states) s entries stale.full below) in
    let state : state_in epoch fresh (get_or states s (record { state = 0; epoch = 0 })) ≡ fresh =
    stale_state epoch fresh (get_or states s (record { state = 0; epoch = 0 }))
    (stale.states_past s _ below) in
    get_or-table ways epoch fresh entries states s d below
    ∙ rw (places, state) (sym (get_or-replicate (length states) s blank d below)))

none_dirty : (ways : ℕ) → count_by is_dirty (replicate ways None) ≡ 0
none_dirty zero = refl
none_dirty (suc ways) = none_dirty ways

-- no line of fresh sets has a mark
pub dirty-fresh : (count ways epoch fresh : ℕ) → dirty_sum (fresh_sets count ways epoch fresh).table ≡ 0
dirty-fresh count ways epoch fresh =
    let dirty : KeptSet → ℕ = λ k. dirty_in k.places in
    let blank : KeptSet = record { places = replicate ways None; state = fresh } in
    let none : dirty blank ≡ 0 = none_dirty ways in
    sum_by-replicate dirty count blank ∙ ap (λ (n : ℕ). count * n) none ∙ omega arith

-- ---- the count of dirty lines

abbrev pub mark_count : Option KeptLine → ℕ
mark_count line = cond (is_dirty line) 1 0

dirty_in-set : (places : List (Option KeptLine)) (way : ℕ) (line : Option KeptLine) → way < length places
    → dirty_in (set places way line) + mark_count (get_or places way None)
    ≡ dirty_in places + mark_count line
dirty_in-set places way line lt = sum_by-set mark_count places way line None lt

-- it changes by the marks of the lines that go and come
pub dirty-entry : (table : List KeptSet) (e : OneEntry) → e.set < length table
    → e.way < length (kept_at table e.set).places
    → dirty_sum (with_entry table e) + mark_count (get_or (kept_at table e.set).places e.way None)
    ≡ dirty_sum table + mark_count (Some e.line)
dirty-entry table e below within =
    let old : KeptSet = kept_at table e.set in
    let new : KeptSet = record { places = set old.places e.way (Some e.line); state = e.state } in
    let dirty : KeptSet → ℕ = λ k. dirty_in k.places in
    let whole : sum_by dirty (set table e.set new) + dirty old ≡ sum_by dirty table + dirty new =
    sum_by-set dirty table e.set new (record { places = []; state = 0 }) below in
    let one : dirty new + mark_count (get_or old.places e.way None) ≡ dirty old + mark_count (Some e.line) =
    dirty_in-set old.places e.way (Some e.line) within in
    omega (arith, whole, one)

-- and stays where the places do
pub dirty-state : (table : List KeptSet) (s state : ℕ) → s < length table
    → dirty_sum (set table s (record { places = (kept_at table s).places; state = state }))
    ≡ dirty_sum table
dirty-state table s state below =
    let old : KeptSet = kept_at table s in
    let new : KeptSet = record { places = old.places; state = state } in
    let dirty : KeptSet → ℕ = λ k. dirty_in k.places in
    let whole : sum_by dirty (set table s new) + dirty old ≡ sum_by dirty table + dirty new =
    sum_by-set dirty table s new (record { places = []; state = 0 }) below in
    omega (arith, whole)

-- it is at most the number of ways
pub dirty-few : (ways epoch fresh : ℕ) (entries : List Entry) (states : List WrittenState)
    → length entries ≡ length states * ways
    → dirty_sum (table_in ways epoch fresh entries states) ≤ length states * ways
dirty-few ways epoch fresh entries states full =
    let table : List KeptSet = table_in ways epoch fresh entries states in
    let long : length table ≡ length states = length_table ways epoch fresh entries states in
    let few : All (λ (k : KeptSet). dirty_in k.places ≤ ways) table = λ s d lt.
    let below : s < length states = omega (arith, long) in
    let read = get_or-table ways epoch fresh entries states s d below in
    let part : List Entry = entries_of ways entries s in
    let places : List (Option KeptLine) = map (line_in epoch) part in
    let len : length places ≡ ways =
    length-map part (line_in epoch) ∙ length-entries_of ways (length states) s entries full below in
    let le : dirty_in places ≤ length places = count_by-le-length is_dirty places in
    subst (λ (k : KeptSet). dirty_in k.places ≤ ways) (sym read) (omega (arith, le, len)) in
    let sum : dirty_sum table ≤ length table * ways =
    sum_by-le (λ (k : KeptSet). dirty_in k.places) ways table few in
    subst (λ (n : ℕ). dirty_sum table ≤ n * ways) long sum

-- ---- what stays true of the vectors

-- the line of a way, by its entry
pub place_line : (ways epoch fresh : ℕ) (entries : List Entry) (states : List WrittenState) (s way : ℕ)
    (d : Entry)
    → length entries ≡ length states * ways → s < length states → way < ways
    → get_or (kept_at (table_in ways epoch fresh entries states) s).places way None
    ≡ line_in epoch (get_or entries (s * ways + way) d)
place_line ways epoch fresh entries states s way d full below within =
    ap (λ (ps : List (Option KeptLine)). get_or ps way None)
    (kept_places ways epoch fresh entries states s below)
    ∙ line_at ways epoch (length states) s way entries d full below within

-- the policy's state of a set, by what was written
pub state_at : (ways epoch fresh : ℕ) (entries : List Entry) (states : List WrittenState) (s : ℕ)
    → s < length states
    → (kept_at (table_in ways epoch fresh entries states) s).state
    ≡ state_in epoch fresh (get_or states s (record { state = 0; epoch = 0 }))
state_at ways epoch fresh entries states s below =
    ap (λ (k : KeptSet). k.state) (get_or-table ways epoch fresh entries states s _ below)

pub state_counts : (epoch fresh : ℕ) (written : WrittenState) → written.epoch ≡ epoch
    → state_in epoch fresh written ≡ written.state
state_counts epoch fresh written same = let on : eqb written.epoch epoch
    ≡ true = grind (arith, nat_tests) in rw on refl

pub state_is_old : (epoch fresh : ℕ) (written : WrittenState) → written.epoch ≢ epoch
    → state_in epoch fresh written ≡ fresh
state_is_old epoch fresh written other = let off : eqb written.epoch epoch
    ≡ false = grind (arith, nat_tests) in rw off refl

-- the marks of the lines that go and come, as a write counts them
pub record Counts (ways epoch fresh dirty gone came : ℕ) (entries : List Entry)
    (states : List WrittenState) (e : OneEntry)
    : Type 0 where
  pub packed : IsPacked ways epoch fresh dirty entries states
  pub below : e.set < length states
  pub within : e.way < ways
  pub goes : gone
      ≡ mark_count (get_or (kept_at (table_in ways epoch fresh entries states) e.set).places e.way None)
  pub comes : came ≡ mark_count (Some e.line)

-- a write of one way and its set's state
pub record Writes (ways epoch fresh dirty gone came : ℕ) (entries : List Entry)
    (states : List WrittenState) (e : OneEntry)
    : Type 0 where
  pub goes : gone ≤ dirty
  pub comes : dirty - gone + came < 2 ^ 32
  pub packed : IsPacked ways epoch fresh (dirty - gone + came)
      (set entries (e.set * ways + e.way) (entry_of epoch e))
      (set states e.set (record { state = e.state; epoch = epoch }))

pub written : (ways epoch fresh dirty gone came : ℕ) (entries : List Entry) (states : List WrittenState)
    (e : OneEntry)
    → Counts ways epoch fresh dirty gone came entries states e
    → Writes ways epoch fresh dirty gone came entries states e
written ways epoch fresh dirty gone came entries states e counts =
    let packed = counts.packed in
    let table : List KeptSet = table_in ways epoch fresh entries states in
    let new : List Entry = set entries (e.set * ways + e.way) (entry_of epoch e) in
    let states' : List WrittenState = set states e.set (record { state = e.state; epoch = epoch }) in
    let count : length states' ≡ length states = length-set states e.set _ in
    let long : length new ≡ length entries = length-set entries (e.set * ways + e.way) (entry_of epoch e) in
    let full : length new ≡ length states' * ways = rw (long, count) packed.full in
    let below : e.set < length table =
    omega (arith, counts.below, length_table ways epoch fresh entries states) in
    let places = kept_places ways epoch fresh entries states e.set counts.below in
    let within : e.way < length (kept_at table e.set).places =
    omega (
      arith,
      counts.within,
      ap length places,
      length-map (entries_of ways entries e.set) (line_in epoch),
      length-entries_of ways (length states) e.set entries packed.full counts.below,
    ) in
    let clean : OneEntry =
    record { set = e.set; way = e.way; line = record { number = 0; dirty = false }; state = e.state } in
    let least = dirty-entry table clean below within in
    let goes : gone ≤ dirty = omega (arith, least, counts.goes, packed.counted) in
    let change = dirty-entry table e below within in
    let is = table-entry ways epoch fresh entries states e counts.below counts.within in
    let sum : dirty - gone + came ≡ dirty_sum (table_in ways epoch fresh new states') =
    omega (arith, goes, change, counts.goes, counts.comes, packed.counted, ap dirty_sum is) in
    let few = dirty-few ways epoch fresh new states' full in
    let small : length states' * ways < 2 ^ 32 = rw count packed.small in
    record {
      goes = goes;
      comes = omega (arith, sum, few, small);
      packed = record {
        full = full;
        small = small;
        counts = packed.counts;
        entries_past = All-set (λ (x : Entry). x.epoch ≤ epoch) entries _ _
            (omega arith) packed.entries_past;
        states_past = All-set (λ (x : WrittenState). x.epoch ≤ epoch) states _ _
            (omega arith) packed.states_past;
        counted = sum;
      };
    }

-- a write of a state alone
pub written-state : (ways epoch fresh dirty : ℕ) (entries : List Entry) (states : List WrittenState)
    (s state : ℕ)
    → IsPacked ways epoch fresh dirty entries states → s < length states
    → IsPacked ways epoch fresh dirty entries (set states s (record { state = state; epoch = epoch }))
written-state ways epoch fresh dirty entries states s state packed below =
    let count : length (set states s (record { state = state; epoch = epoch })) ≡ length states =
    length-set states s _ in
    let table : List KeptSet = table_in ways epoch fresh entries states in
    let sum = dirty-state table s state
    (omega (arith, below, length_table ways epoch fresh entries states)) in
    record {
      full = rw count packed.full;
      small = rw count packed.small;
      counts = packed.counts;
      entries_past = packed.entries_past;
      states_past = All-set (λ (x : WrittenState). x.epoch ≤ epoch) states _ _
          (omega arith) packed.states_past;
      counted =
          packed.counted ∙ sym sum
          ∙ ap dirty_sum (sym (table-state ways epoch fresh entries states s state below));
    }

-- what is earlier is lawful, too
pub packed-stale : (ways epoch fresh : ℕ) (entries : List Entry) (states : List WrittenState)
    → IsStale ways epoch entries states → length states * ways < 2 ^ 32 → 0 < epoch
    → IsPacked ways epoch fresh 0 entries states
packed-stale ways epoch fresh entries states stale small counts = record {
  full = stale.full;
  small = small;
  counts = counts;
  entries_past = λ k d lt. let h :
      (get_or entries k d).epoch < epoch = stale.entries_past k d lt in omega arith;
  states_past = λ k d lt. let h :
      (get_or states k d).epoch < epoch = stale.states_past k d lt in omega arith;
  counted =
      sym (ap dirty_sum (table-stale ways epoch fresh entries states stale)
      ∙ dirty-fresh (length states) ways epoch fresh);
}

-- in the next epoch everything is earlier
pub stale-next : (ways epoch fresh dirty : ℕ) (entries : List Entry) (states : List WrittenState)
    → IsPacked ways epoch fresh dirty entries states → IsStale ways (epoch + 1) entries states
stale-next ways epoch fresh dirty entries states packed = record {
  full = packed.full;
  entries_past = λ k d lt. let h :
      (get_or entries k d).epoch ≤ epoch = packed.entries_past k d lt in omega arith;
  states_past = λ k d lt. let h :
      (get_or states k d).epoch ≤ epoch = packed.states_past k d lt in omega arith;
}

-- and what is unwritten is earlier than any
pub stale-unwritten : (ways epoch : ℕ) (entries : List Entry) (states : List WrittenState)
    → length entries ≡ length states * ways → 0 < epoch
    → All (λ (x : Entry). x.epoch ≡ 0) entries → All (λ (x : WrittenState). x.epoch ≡ 0) states
    → IsStale ways epoch entries states
stale-unwritten ways epoch entries states full counts none_entries none_states = record {
  full = full;
  entries_past = λ k d lt. let h : (get_or entries k d).epoch ≡ 0 = none_entries k d lt in omega arith;
  states_past = λ k d lt. let h : (get_or states k d).epoch ≡ 0 = none_states k d lt in omega arith;
}

-- as is what a new cache has
pub stale-fresh : (sets ways epoch : ℕ) → 0 < epoch
    → IsStale ways epoch (replicate (sets * ways) (record { number = 0; dirty = false; epoch = 0 }))
    (replicate sets (record { state = 0; epoch = 0 }))
stale-fresh sets ways epoch counts =
    let entry : Entry = record { number = 0; dirty = false; epoch = 0 } in
    let state : WrittenState = record { state = 0; epoch = 0 } in
    let count : length (replicate sets state) ≡ sets = length-replicate sets state in
    let long : length (replicate (sets * ways) entry) ≡ sets * ways =
    length-replicate (sets * ways) entry in
    stale-unwritten ways epoch (replicate (sets * ways) entry) (replicate sets state)
    (rw (long, count) refl) counts
    (All-replicate (λ (x : Entry). x.epoch ≡ 0) (sets * ways) entry refl)
    (All-replicate (λ (x : WrittenState). x.epoch ≡ 0) sets state refl)

-- ---- what a call finds

-- the fields of packed sets
pub record Vectors : Type 0 where
  pub ways : ℕ
  pub epoch : ℕ
  pub fresh : ℕ
  pub dirty : ℕ
  pub entries : List Entry
  pub states : List WrittenState

abbrev pub table_of : Vectors → List KeptSet
table_of v = table_in v.ways v.epoch v.fresh v.entries v.states

abbrev pub sets_of : Vectors → KeptSets
sets_of v = record { ways = v.ways; epoch = v.epoch; fresh = v.fresh; table = table_of v }

abbrev pub Lawful : Vectors → Type 0
Lawful v = IsPacked v.ways v.epoch v.fresh v.dirty v.entries v.states

-- they are these sets
pub record KeepsSets (v : Vectors) (sets : KeptSets) : Type 0 where
  pub view : sets_of v ≡ sets
  pub lawful : Lawful v

-- as many states as sets
pub count_is : (v : Vectors) (sets : KeptSets) → sets_of v ≡ sets → length v.states ≡ length sets.table
count_is v sets view =
    sym (length_table v.ways v.epoch v.fresh v.entries v.states) ∙ ap (λ (k : KeptSets). length k.table) view

-- a way that a call names
pub record NamesWay (v : Vectors) (sets : KeptSets) (set way : ℕ) : Type 0 where
  pub packs : KeepsSets v sets
  pub below : set < length sets.table
  pub within : way < sets.ways

module _ (v : Vectors) (sets : KeptSets) (set way : ℕ) (names : NamesWay v sets set way) where
  pub set_below : set < length v.states
  set_below = omega (arith, names.below, count_is v sets names.packs.view)

  pub way_within : way < v.ways
  way_within = omega (arith, names.within, ap (λ (k : KeptSets). k.ways) names.packs.view)

  -- where it stands among all
  pub place_within : set * v.ways + way < length v.entries
  place_within =
      let row : set * v.ways + v.ways ≤ length v.states * v.ways =
      row_fits set v.ways (length v.states) v.ways set_below (omega arith) in
      omega (arith, row, way_within, names.packs.lawful.full)

  -- what its entry, as it was read, keeps
  pub line_read : (entry : Entry) → entry ≡ get_or v.entries (set * v.ways + way) entry
      → line_in v.epoch entry ≡ get_or (kept_at (table_of v) set).places way None
  line_read entry read =
      let full = names.packs.lawful.full in
      ap (line_in v.epoch) read
      ∙ sym (place_line v.ways v.epoch v.fresh v.entries v.states set way entry full set_below way_within)

  -- a write of it, by the marks of the line that goes and the one that comes
  pub write_way : (line : KeptLine) (state gone came : ℕ)
      → gone ≡ mark_count (get_or (kept_at (table_of v) set).places way None) → came ≡ mark_count (Some line)
      → Writes v.ways v.epoch v.fresh v.dirty gone came v.entries v.states
      (record { set = set; way = way; line = line; state = state })
  write_way line state gone came goes comes =
      written v.ways v.epoch v.fresh v.dirty gone came v.entries v.states
      (record { set = set; way = way; line = line; state = state })
      (record {
        packed = names.packs.lawful;
        below = set_below;
        within = way_within;
        goes = goes;
        comes = comes;
      })
