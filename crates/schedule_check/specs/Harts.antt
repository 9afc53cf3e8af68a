-- K19, the rule of harts: an entry is on one of 0 to 3, each below the greatest has an entry, and a domain is on one alone.
use Rattle.std.specs.Prelude.{ℕ, ◌+◌, ◌&&◌, not, ◌==◌, nat_lt, pos, Bool, if◌then◌else◌, List, length, map, Option, Some, None}
use Rattle.std.specs.List.{list_any}
use Rattle.image_record.specs.declared.refusal.Refusal.{Refusal}
use Rattle.image_record.specs.Record.{Raw, RawEntry}
use Rattle.image_record.specs.Cases.{or_else, first_in, refusal, outside}
use Rattle.sched_table.specs.declared.schedule.Entry.{Entry}
use Rattle.sched_table.specs.Schedule.{harts_in}
use Rattle.schedule_check.specs.Schedule.{entry_of}

unfoldable pub hart_case : ℕ → RawEntry → Option Refusal
hart_case place e =
    if outside (pos 0) (pos 3) e.hart then Some (refusal 19 (pos place) e.hart (pos 1)) else None

abbrev pub k19_entry : List RawEntry → RawEntry → Option Refusal
k19_entry earlier e = hart_case (length earlier) e

abbrev pub has_entry : List Entry → ℕ → Bool
has_entry es h = list_any (λ e. e.hart == h) es

-- a hart below the greatest
unfoldable pub k19_hart : List Entry → ℕ → Option Refusal
k19_hart es h =
    if nat_lt (h + 1) (harts_in es) && not (has_entry es h) then Some (refusal 19 (pos h) (pos 0) (pos 2))
    else None

abbrev pub k19_harts : List Entry → Option Refusal
k19_harts es = or_else (k19_hart es 0) (or_else (k19_hart es 1) (k19_hart es 2))

-- an entry of the same domain on another hart
abbrev pub is_elsewhere : Entry → Entry → Bool
is_elsewhere e other = other.domain == e.domain && not (other.hart == e.hart)

abbrev pub k19_domain : List Entry → Entry → Option Refusal
k19_domain earlier e =
    if list_any (is_elsewhere e) earlier then Some (refusal 19 (pos (length earlier)) (pos e.domain) (pos 3))
    else None

-- where each is on one of 0 to 3
abbrev pub k19_entries : List Entry → Option Refusal
k19_entries es = or_else (k19_harts es) (first_in k19_domain es)

unfoldable pub k19 : Raw → Option Refusal
k19 i = or_else (first_in k19_entry i.schedule) (k19_entries (map entry_of i.schedule))
