-- What holds of the starts of slots, and of the entries of a hart.
use Rattle.std.specs.Prelude.{◌≡◌, ℕ, ◌+◌, ◌*◌, ◌<◌, ◌≤◌, List, length, take}
use Rattle.std.specs.List.{All, sum_by, enumerate_from}
use Rattle.sched_table.specs.declared.schedule.Entry.{Entry}
use Rattle.sched_table.specs.Schedule.{IsSchedule, AreHarts, entry_in, pad_of, start, last_end, entries_on, on_hart, place_on, harts_in, hart_for}

-- a slot and the pad after it
abbrev pub cycles_of : Entry → ℕ
cycles_of e = e.length + e.pad

-- the cycles of the first j entries
unfoldable pub cycles_before : List Entry → ℕ → ℕ
cycles_before es j = sum_by cycles_of (take j es)

-- of all entries, each once
abbrev pub round : List Entry → ℕ
round es = cycles_before es (length es)

-- as many slots later as there are entries, a slot begins one round later
abbrev pub RoundLaw : Type 0
RoundLaw = (es : List Entry) (k : ℕ) → start es (k + length es) ≡ start es k + round es

-- no later slot begins earlier
abbrev pub OrderLaw : Type 0
OrderLaw = (es : List Entry) (j k : ℕ) → j ≤ k → start es j ≤ start es k

-- each slot begins its switch's pad after the end of the one before, the first after the boot's
abbrev pub PadLaw : Type 0
PadLaw = (es : List Entry) (k : ℕ) → start es k ≡ last_end es k + pad_of es k

-- a slot begins after at most so many slots and pads of the greatest length
abbrev pub SoonLaw : Type 0
SoonLaw = (es : List Entry) (k : ℕ) → IsSchedule es → start es k ≤ 2000000 * k + 1000000

-- what a hart has is on it
abbrev pub HartLaw : Type 0
HartLaw = (es : List Entry) (h : ℕ) → All (λ placed. placed.1.hart ≡ h) (entries_on es h)

-- where all entries are on hart 0, it has each of them
abbrev pub OneHartLaw : Type 0
OneHartLaw = (es : List Entry) → All (λ e. e.hart ≡ 0) es → entries_on es 0 ≡ enumerate_from 0 es

-- each of a hart's entries stands at its place among all
pub record IsPlaced (es : List Entry) (h e : ℕ) : Type 0 where
  pub there : place_on es h e < length es
  pub same : entry_in (on_hart es h) e ≡ entry_in es (place_on es h e)
  pub hart : (entry_in es (place_on es h e)).hart ≡ h

abbrev pub PlacedLaw : Type 0
PlacedLaw = (es : List Entry) (h e : ℕ) → e < length (on_hart es h) → IsPlaced es h e

-- the hart of a domain is that of each entry that names it
abbrev pub DomainHartLaw : Type 0
DomainHartLaw = (es : List Entry) (e : ℕ) → AreHarts es → e < length es
    → hart_for es (entry_in es e).domain ≡ (entry_in es e).hart

-- and it is one of the harts
abbrev pub HartThereLaw : Type 0
HartThereLaw = (es : List Entry) (d : ℕ) → 0 < length es → hart_for es d < harts_in es
