-- The numbers of an entry that the rule of the schedule lets through.
use Rattle.std.proofs.Common.{◌≡◌, ℕ, ◌<◌, ◌≤◌, not, false, List, length, map, take, get_or, None, Some, sym, subst, arith, ◌⊎◌, inl, inr}
use Rattle.std.specs.Prelude.{ℤ, pos, negsuc, Option, if◌then◌else◌}
use Rattle.std.specs.List.{All}
use Rattle.std.proofs.lemmas.List.{length-map, get_or_past, get_or-map as read_map}
use Rattle.std.proofs.lemmas.Bool.{cases_lt}
use Rattle.std.proofs.lemmas.Bool.Decides.{nat_tests}
use Rattle.image_record.specs.declared.raw.Raw.{Raw}
use Rattle.image_record.specs.declared.refusal.Refusal.{Refusal}
use Rattle.image_record.specs.Record.{Raw as RawText, RawEntry as TextEntry}
use Rattle.image_record.specs.Models.{raw_model}
use Rattle.image_record.specs.Parts.{entry_model}
use Rattle.image_record.specs.Cases.{first_in, outside, refusal}
use Rattle.schedule_check.specs.Schedule.{is_number, k16, k16_case, k16_entry}
use Rattle.image_record.specs.Numbers.{IsNatural, natural_of}
use Rattle.sched_table.specs.declared.schedule.Entry.{Entry}
use Rattle.sched_table.specs.Schedule.{entry_in, no_entry, IsSchedule}
use Rattle.schedule_check.specs.Schedule.{IsSmallEntry, entry_of}
use Rattle.schedule_check.specs.Harts.{hart_case, k19_entry}
use Rattle.image_record.proofs.FirstCases.{if_first, if_rest, first_in_none}
use Rattle.image_record.proofs.Ranges.{most_inside, inside}
use Rattle.schedule_check.proofs.Counts.{entries_within, entries_pass}

pub record Passed (domains : ℕ) (e : Entry) : Type 0 where
  pub domain : e.domain < domains
  pub length : e.length ≤ 1000000
  pub lasting : 1000 ≤ e.length
  pub pad : e.pad ≤ 1000000

pub number_below : (many : ℕ) (x : ℤ) → not (is_number many x) ≡ false → natural_of x < many
number_below many (pos n) h = grind (arith, nat_tests, h)
number_below many (negsuc n) h = cc

pub number_natural : (many : ℕ) (x : ℤ) → not (is_number many x) ≡ false → IsNatural x
number_natural many (pos n) h = tt
number_natural many (negsuc n) h = cc

passed : (domains place : ℕ) (e : TextEntry) → k16_case domains place e ≡ None → Passed domains (entry_of e)
unfolding k16_case entry_of
passed domains place e n =
    let last : Option Refusal = if outside (pos 0) (pos 1000000) e.pad then Some (refusal 16 (pos place) e.pad (pos 4)) else None in
    let later : Option Refusal =
    if outside (pos 1000) (pos 1000000) e.length then Some (refusal 16 (pos place) e.length (pos 3))
    else last in
    let first = refusal 16 (pos place) e.domain (pos 2) in
    let second = refusal 16 (pos place) e.length (pos 3) in
    let third = refusal 16 (pos place) e.pad (pos 4) in
    let a = if_rest (not (is_number domains e.domain)) first later n in
    let b = if_rest (outside (pos 1000) (pos 1000000) e.length) second last a in
    let long = inside 1000 1000000 e.length (if_first (outside (pos 1000) (pos 1000000) e.length) second last a) in
    record {
      domain = number_below domains e.domain (if_first (not (is_number domains e.domain)) first later n);
      length = long.most;
      lasting = long.least;
      pad = most_inside 0 1000000 e.pad (if_first (outside (pos 0) (pos 1000000) e.pad) third None b);
    }

pub entry_passed : (domains : ℕ) (es : List TextEntry) → first_in (k16_entry domains) es ≡ None → (e : ℕ)
    → e < length es → (d : TextEntry) → Passed domains (entry_of (get_or es e d))
entry_passed domains es n e l d = passed domains (length (take e es)) (get_or es e d) (first_in_none (k16_entry domains) es n e l d)

pub no_text_entry : TextEntry
no_text_entry = record { domain = pos 0; length = pos 0; pad = pos 0; hart = pos 0 }

-- an entry of the schedule
pub entry_in_passed : (domains : ℕ) (es : List TextEntry) → first_in (k16_entry domains) es ≡ None → (e : ℕ)
    → e < length es → Passed domains (entry_in (map entry_of es) e)
entry_in_passed domains es n e l =
    let P : Entry → Type 0 = λ x. Passed domains x in
    subst P (sym (read_map entry_of es e no_text_entry no_entry l)) (entry_passed domains es n e l no_text_entry)

-- an entry, or the one past the end
record Short (e : Entry) : Type 0 where
  pub length : e.length ≤ 1000000
  pub pad : e.pad ≤ 1000000

all_short : (domains : ℕ) (es : List TextEntry) → first_in (k16_entry domains) es ≡ None → (e : ℕ)
    → Short (entry_in (map entry_of es) e)
all_short domains es n e = either (cases_lt e (length es))
  where
    either : (e < length es) ⊎ (length es ≤ e) → Short (entry_in (map entry_of es) e)
    either (inl l) = let p = entry_in_passed domains es n e l in record { length = p.length; pad = p.pad }
    either (inr m) =
        subst Short
        (sym (get_or_past (map entry_of es) e no_entry (omega (arith, length-map es entry_of, m))))
        (record { length = omega arith; pad = omega arith })

-- each entry is of a domain that is there
numbered : (domains place : ℕ) (e : TextEntry) → k16_case domains place e ≡ None
    → not (is_number domains e.domain) ≡ false
unfolding k16_case
numbered domains place e n =
    let last : Option Refusal = if outside (pos 0) (pos 1000000) e.pad then Some (refusal 16 (pos place) e.pad (pos 4)) else None in
    let later : Option Refusal =
    if outside (pos 1000) (pos 1000000) e.length then Some (refusal 16 (pos place) e.length (pos 3))
    else last in
    if_first (not (is_number domains e.domain)) (refusal 16 (pos place) e.domain (pos 2)) later n

pub all_numbered : (raw : Raw) (many : ℕ) → many ≡ length (raw_model raw).domains → k16 (raw_model raw) ≡ None
    → All (λ e. not (is_number many e.domain) ≡ false) raw.schedule.items
all_numbered raw many same n = λ k d l.
    let i = raw_model raw in
    let within : k < length i.schedule = omega (arith, length-map raw.schedule.items entry_model, l) in
    let case = first_in_none (k16_entry (length i.domains)) i.schedule (entries_pass i n) k within no_text_entry in
    let P : TextEntry → Type 0 = λ e. not (is_number many e.domain) ≡ false in
    let here = numbered (length i.domains) (length (take k i.schedule)) (get_or i.schedule k no_text_entry) case in
    let there : P (get_or i.schedule k no_text_entry) =
    subst (λ (m : ℕ). not (is_number m (get_or i.schedule k no_text_entry).domain) ≡ false) (sym same) here in
    subst P (read_map entry_model raw.schedule.items k d no_text_entry l) there

pub schedule_sound : (i : RawText) → k16 i ≡ None → IsSchedule (map entry_of i.schedule)
schedule_sound i n =
    let count = entries_within i n in
    let pass = entries_pass i n in
    let long = length-map i.schedule entry_of in
    record {
      some = omega (arith, long, count.least);
      few = omega (arith, long, count.most);
      lengths = λ e. (all_short (length i.domains) i.schedule pass e).length;
      pads = λ e. (all_short (length i.domains) i.schedule pass e).pad;
    }

-- ---- in the code

number_inside : (many : ℕ) (x : ℤ) → many ≤ 32 → not (is_number many x) ≡ false
    → outside (pos 0) (pos 255) x ≡ false
number_inside many (pos n) few h = grind (arith, nat_tests, h, few)
number_inside many (negsuc n) few h = cc

long_inside : (x : ℤ) → outside (pos 1000) (pos 1000000) x ≡ false → outside (pos 0) (pos 1000000) x ≡ false
long_inside (pos n) h = grind (arith, nat_tests, h)
long_inside (negsuc n) h = cc

small : (domains place : ℕ) (e : TextEntry) → domains ≤ 32 → k16_case domains place e ≡ None
    → outside (pos 0) (pos 3) e.hart ≡ false → IsSmallEntry e
unfolding k16_case
small domains place e few n on =
    let last : Option Refusal = if outside (pos 0) (pos 1000000) e.pad then Some (refusal 16 (pos place) e.pad (pos 4)) else None in
    let later : Option Refusal =
    if outside (pos 1000) (pos 1000000) e.length then Some (refusal 16 (pos place) e.length (pos 3))
    else last in
    let first = refusal 16 (pos place) e.domain (pos 2) in
    let second = refusal 16 (pos place) e.length (pos 3) in
    let third = refusal 16 (pos place) e.pad (pos 4) in
    let a = if_rest (not (is_number domains e.domain)) first later n in
    let b = if_rest (outside (pos 1000) (pos 1000000) e.length) second last a in
    record {
      domain = number_inside domains e.domain few (if_first (not (is_number domains e.domain)) first later n);
      length = long_inside e.length (if_first (outside (pos 1000) (pos 1000000) e.length) second last a);
      pad = if_first (outside (pos 0) (pos 1000000) e.pad) third None b;
      hart = on;
    }

on_hart : (place : ℕ) (e : TextEntry) → hart_case place e ≡ None → outside (pos 0) (pos 3) e.hart ≡ false
unfolding hart_case
on_hart place e n = if_first (outside (pos 0) (pos 3) e.hart) (refusal 19 (pos place) e.hart (pos 1)) None n

pub hart_passed : (es : List TextEntry) → first_in k19_entry es ≡ None → (e : ℕ) → e < length es
    → outside (pos 0) (pos 3) (get_or es e no_text_entry).hart ≡ false
hart_passed es n e l = on_hart (length (take e es)) (get_or es e no_text_entry) (first_in_none k19_entry es n e l no_text_entry)

pub all_small : (raw : Raw) → length (raw_model raw).domains ≤ 32 → k16 (raw_model raw) ≡ None
    → first_in k19_entry (raw_model raw).schedule ≡ None
    → All (λ e. IsSmallEntry (entry_model e)) raw.schedule.items
all_small raw few rule harts = λ k d l.
    let i = raw_model raw in
    let within : k < length i.schedule = omega (arith, length-map raw.schedule.items entry_model, l) in
    let case = first_in_none (k16_entry (length i.domains)) i.schedule (entries_pass i rule) k within no_text_entry in
    let here : IsSmallEntry (get_or i.schedule k no_text_entry) =
    small (length i.domains) (length (take k i.schedule)) (get_or i.schedule k no_text_entry) few case
    (hart_passed i.schedule harts k within) in
    subst IsSmallEntry (read_map entry_model raw.schedule.items k d no_text_entry l) here
