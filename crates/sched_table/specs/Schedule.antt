-- When slots begin and end. Entries are taken cyclically; switch k leads into slot k, and belongs to the entry of the slot that ended.
use Rattle.std.specs.Prelude.{◌≡◌, ℕ, zero, suc, ◌+◌, ◌-◌, ◌%◌, ◌<◌, ◌≤◌, ◌==◌, max, if◌then◌else◌, List, [], ◌∷◌, length, map, slice_index_or, Option, Some, None}
use Rattle.std.specs.List.{filter, enumerate_from, range_with_len}
use Rattle.sched_table.specs.declared.schedule.Entry.{Entry}

abbrev pub no_entry : Entry
no_entry = record { domain = 0; length = 0; pad = 0; hart = 0 }

abbrev pub entry_in : List Entry → ℕ → Entry
entry_in es e = slice_index_or es e no_entry

-- the entry of slot k
abbrev pub entry_of_slot : List Entry → ℕ → Entry
entry_of_slot es k = entry_in es (k % length es)

-- the entries of a hart in their order, each after its place among all
unfoldable pub entries_on : List Entry → ℕ → List (ℕ × Entry)
entries_on es h = filter (λ placed. placed.1.hart == h) (enumerate_from 0 es)

-- entries without their places, and the place of one
abbrev pub entries_alone : List (ℕ × Entry) → List Entry
entries_alone placed = map (λ (p : ℕ × Entry). p.1) placed

abbrev pub place_in : List (ℕ × Entry) → ℕ → ℕ
place_in placed e = (slice_index_or placed e (0, no_entry)).0

-- a hart's entries alone, and the place of one among all
abbrev pub on_hart : List Entry → ℕ → List Entry
on_hart es h = entries_alone (entries_on es h)

abbrev pub place_on : List Entry → ℕ → ℕ → ℕ
place_on es h e = place_in (entries_on es h) e

-- how many harts there are: one more than the greatest that an entry names
unfoldable pub harts_in : List Entry → ℕ
harts_in [] = 0
harts_in (e ∷ es) = max (e.hart + 1) (harts_in es)

-- the entries of each hart, one hart after the other
unfoldable pub hart_schedules : List Entry → List (List (ℕ × Entry))
hart_schedules es = map (entries_on es) (range_with_len 0 (harts_in es))

-- the hart of a domain: that of the first entry that names it, or 0 where none does
unfoldable pub hart_for : List Entry → ℕ → ℕ
hart_for [] d = 0
hart_for (e ∷ es) d = if e.domain == d then e.hart else hart_for es d

-- the place of the entry to which switch k belongs: the boot's is the last
abbrev pub switch_entry : List Entry → ℕ → ℕ
switch_entry es zero = length es - 1
switch_entry es (suc k) = k % length es

-- the pad of switch k
abbrev pub pad_of : List Entry → ℕ → ℕ
pad_of es k = (entry_in es (switch_entry es k)).pad

-- the clock as slot k begins
unfoldable pub start : List Entry → ℕ → ℕ
start es zero = pad_of es 0
start es (suc k) = start es k + (entry_of_slot es k).length + (entry_of_slot es k).pad

abbrev pub slot_end : List Entry → ℕ → ℕ
slot_end es k = start es k + (entry_of_slot es k).length

-- the end of the slot before switch k
abbrev pub last_end : List Entry → ℕ → ℕ
last_end es zero = 0
last_end es (suc k) = slot_end es k

-- who leaves at switch k: nobody at the boot
abbrev pub outgoing : List Entry → ℕ → Option ℕ
outgoing es zero = None
outgoing es (suc k) = Some (entry_of_slot es k).domain

-- 1 to 256 entries, each of a length and a pad up to 1,000,000 cycles
pub record IsSchedule (es : List Entry) : Type 0 where
  pub some : 0 < length es
  pub few : length es ≤ 256
  pub lengths : (e : ℕ) → (entry_in es e).length ≤ 1000000
  pub pads : (e : ℕ) → (entry_in es e).pad ≤ 1000000

-- the harts that entries name: four at most, each of which has an entry, and each domain is on one of them
pub record AreHarts (es : List Entry) : Type 0 where
  pub few : (e : ℕ) → e < length es → (entry_in es e).hart < 4
  pub each : (h : ℕ) → h < harts_in es → 0 < length (on_hart es h)
  pub one : (e f : ℕ) → e < length es → f < length es → (entry_in es e).domain ≡ (entry_in es f).domain
      → (entry_in es e).hart ≡ (entry_in es f).hart
