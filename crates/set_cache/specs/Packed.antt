-- The sets of a cache in flat vectors of entries and policy states, each with the epoch in which it was written.
use Rattle.std.specs.Prelude.{◌≡◌, ℕ, ◌+◌, ◌*◌, ◌<◌, ◌≤◌, ◌^◌, List, map, length, take, drop, Option, Some, None, replicate, slice_index_or, slice_set, All, sum_by, if◌then◌else◌, ◌==◌, refl}
use Rattle.std.specs.List.{range_with_len}
use Rattle.std.specs.Coded.{Coded, code_by, coded×, coded_ℕ, coded_list}
use Rattle.set_cache.specs.Cache.{dirty_in}
use Rattle.set_cache.specs.Contents.{KeptSet, coded_set}
use Rattle.set_cache.specs.declared.KeptLine.{KeptLine}
use Rattle.set_cache.specs.declared.packed.Entry.{Entry}
use Rattle.set_cache.specs.declared.packed.WrittenState.{WrittenState}

-- the greatest number of 32 bits
abbrev pub greatest_epoch : ℕ
greatest_epoch = 4294967295

-- the epoch after a flush: the next one, and the first after the greatest
abbrev pub epoch_after : ℕ → ℕ
epoch_after epoch = if epoch == greatest_epoch then 1 else epoch + 1

-- the sets with what makes them: the ways, the epoch, and a fresh set's policy state
pub record KeptSets : Type 0 where
  pub ways : ℕ
  pub epoch : ℕ
  pub fresh : ℕ
  pub table : List KeptSet

abbrev pub coded_sets : Coded KeptSets
coded_sets =
    code_by (ℕ × (ℕ × (ℕ × List KeptSet)))
    (coded× coded_ℕ (coded× coded_ℕ (coded× coded_ℕ (coded_list coded_set))))
    (λ s. (s.ways, (s.epoch, (s.fresh, s.table))))
    (λ t. record { ways = t.0; epoch = t.1.0; fresh = t.1.1.0; table = t.1.1.1 })
    (λ _. refl)

-- the sets with one of them in place of another
abbrev pub with_kept : KeptSets → ℕ → KeptSet → KeptSets
with_kept sets s kept =
    record { ways = sets.ways; epoch = sets.epoch; fresh = sets.fresh; table = slice_set sets.table s kept }

-- this many sets with nothing in them
abbrev pub fresh_sets : ℕ → ℕ → ℕ → ℕ → KeptSets
fresh_sets count ways epoch fresh = record {
  ways = ways;
  epoch = epoch;
  fresh = fresh;
  table = replicate count (record { places = replicate ways None; state = fresh });
}

-- how many lines of a table of sets have a mark
abbrev pub dirty_sum : List KeptSet → ℕ
dirty_sum table = sum_by (λ kept. dirty_in kept.places) table

-- what a way keeps: the line of its entry, where that was written in this epoch
abbrev pub line_in : ℕ → Entry → Option KeptLine
line_in epoch entry =
    if entry.epoch == epoch then Some (record { number = entry.number; dirty = entry.dirty }) else None

-- the policy's state of a set: the one written in this epoch, else a fresh set's
abbrev pub state_in : ℕ → ℕ → WrittenState → ℕ
state_in epoch fresh written = if written.epoch == epoch then written.state else fresh

-- the entries of one set
abbrev pub entries_of : ℕ → List Entry → ℕ → List Entry
entries_of ways entries s = take ways (drop (s * ways) entries)

-- one set, as the vectors keep it in an epoch
abbrev pub kept_in : ℕ → ℕ → ℕ → List Entry → List WrittenState → ℕ → KeptSet
kept_in ways epoch fresh entries states s = record {
  places = map (line_in epoch) (entries_of ways entries s);
  state = state_in epoch fresh (slice_index_or states s (record { state = 0; epoch = 0 }));
}

-- all of them
abbrev pub table_in : ℕ → ℕ → ℕ → List Entry → List WrittenState → List KeptSet
table_in ways epoch fresh entries states =
    map (kept_in ways epoch fresh entries states) (range_with_len 0 (length states))

-- what is true of the vectors: their lengths, no epoch that is to come, and the count of the dirty lines
pub record IsPacked (ways epoch fresh dirty : ℕ) (entries : List Entry) (states : List WrittenState)
    : Type 0 where
  pub full : length entries ≡ length states * ways
  pub small : length states * ways < 2 ^ 32
  pub counts : 0 < epoch
  pub entries_past : All (λ entry. entry.epoch ≤ epoch) entries
  pub states_past : All (λ written. written.epoch ≤ epoch) states
  pub counted : dirty ≡ dirty_sum (table_in ways epoch fresh entries states)
