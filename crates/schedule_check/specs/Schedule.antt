-- K16, the rule of the schedule: 1 to 64 entries, in the second version 256, each of a domain that is there, a length and a pad.
use Rattle.std.specs.Prelude.{◌≡◌, ℕ, ◌&&◌, not, nat_eq, ℤ, pos, int_lt, Bool, false, if◌then◌else◌, List, length, Option, Some, None}
use Rattle.image_record.specs.declared.refusal.Refusal.{Refusal}
use Rattle.image_record.specs.Record.{Raw, RawEntry}
use Rattle.image_record.specs.Numbers.{natural_of}
use Rattle.image_record.specs.Cases.{or_else, first_in, refusal, outside, count_case}
use Rattle.sched_table.specs.declared.schedule.Entry.{Entry}

-- a number of one of so many
abbrev pub is_number : ℕ → ℤ → Bool
is_number many x = not (int_lt x (pos 0)) && int_lt x (pos many)

unfoldable pub k16_case : ℕ → ℕ → RawEntry → Option Refusal
k16_case domains place e =
    if not (is_number domains e.domain) then Some (refusal 16 (pos place) e.domain (pos 2))
    else if outside (pos 1000) (pos 1000000) e.length then Some (refusal 16 (pos place) e.length (pos 3))
    else if outside (pos 0) (pos 1000000) e.pad then Some (refusal 16 (pos place) e.pad (pos 4))
    else None

abbrev pub k16_entry : ℕ → List RawEntry → RawEntry → Option Refusal
k16_entry domains earlier e = k16_case domains (length earlier) e

abbrev pub most_entries : ℕ → ℕ
most_entries version = if nat_eq version 1 then 64 else 256

unfoldable pub k16 : Raw → Option Refusal
k16 i =
    or_else (count_case 16 0 1 (most_entries i.version) (length i.schedule))
    (first_in (k16_entry (length i.domains)) i.schedule)

-- ---- what an entry is

-- its numbers fit those of the code
pub record IsSmallEntry (e : RawEntry) : Type 0 where
  pub domain : outside (pos 0) (pos 255) e.domain ≡ false
  pub length : outside (pos 0) (pos 1000000) e.length ≡ false
  pub pad : outside (pos 0) (pos 1000000) e.pad ≡ false
  pub hart : outside (pos 0) (pos 3) e.hart ≡ false

unfoldable pub entry_of : RawEntry → Entry
entry_of e = record {
  domain = natural_of e.domain;
  length = natural_of e.length;
  pad = natural_of e.pad;
  hart = natural_of e.hart;
}
