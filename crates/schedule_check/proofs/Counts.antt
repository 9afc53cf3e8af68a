-- The counts that a rule lets through, and that of the schedule.
use Rattle.std.proofs.Common.{◌≡◌, ℕ, ◌≤◌, Bool, true, false, ◌||◌, List, length, map, None, sym, ap₂, ◌∙◌, arith}
use Rattle.std.specs.Prelude.{nat_eq, nat_lt, pos, Option, if◌then◌else◌}
use Rattle.std.proofs.lemmas.Bool.Decides.{nat_tests}
use Rattle.std.proofs.lemmas.List.{length-map}
use Rattle.image_record.specs.declared.refusal.Refusal.{Refusal}
use Rattle.image_record.specs.declared.raw.Raw as coded
use Rattle.image_record.specs.declared.raw.RawEntry as coded_entry
use Rattle.image_record.specs.Models.{raw_model}
use Rattle.image_record.specs.Parts.{domain_model, entry_model}
use Rattle.image_record.specs.Record.{Raw}
use Rattle.image_record.specs.Cases.{or_else, first_in, refusal, count_case}
use Rattle.image_record.proofs.FirstCases.{or_first, or_rest, if_first}
use Rattle.schedule_check.specs.Schedule.{most_entries, k16, k16_entry}

pub record Within (low high n : ℕ) : Type 0 where
  pub least : low ≤ n
  pub most : n ≤ high

pub counted : (rule at wanted most many : ℕ) → count_case rule at wanted most many ≡ None → Within 1 most many
counted rule at wanted most many n =
    let o = if_first (nat_lt many 1 || nat_lt most many) (refusal rule (pos at) (pos many) (pos wanted)) None n in
    record { least = grind (arith, nat_tests, o); most = grind (arith, nat_tests, o) }

-- a number that depends on the version is at most the greater of both
pub at_most : (first : Bool) (low high : ℕ) → low ≤ high → (if first then low else high) ≤ high
at_most true low high l = l
at_most false low high l = omega arith

entry_count : Raw → Option Refusal
entry_count i = count_case 16 0 1 (most_entries i.version) (length i.schedule)

-- what the rule has of the entries, as the code goes through them
pub entries_case : (raw : coded.Raw) (texts : List coded_entry.RawEntry) (most : ℕ)
    → texts ≡ raw.schedule.items → most ≡ most_entries raw.version
    → k16 (raw_model raw)
    ≡ or_else (count_case 16 0 1 most (length texts))
    (first_in (k16_entry (length raw.domains.items)) (map entry_model texts))
unfolding k16
entries_case raw texts most same is =
    let own = raw.schedule.items in
    ap₂ (λ n m. or_else (count_case 16 0 1 (most_entries raw.version) n)
    (first_in (k16_entry m) (map entry_model own))) (length-map own entry_model)
    (length-map raw.domains.items domain_model)
    ∙ ap₂ (λ m (es : List coded_entry.RawEntry). or_else (count_case 16 0 1 m (length es))
    (first_in (k16_entry (length raw.domains.items)) (map entry_model es))) (sym is) (sym same)

pub entries_within : (i : Raw) → k16 i ≡ None → Within 1 256 (length i.schedule)
unfolding k16 entry_count
entries_within i n =
    let case = or_first (entry_count i) (first_in (k16_entry (length i.domains)) i.schedule) n in
    let range = counted 16 0 1 (most_entries i.version) (length i.schedule) case in
    let few = at_most (nat_eq i.version 1) 64 256 (omega arith) in
    record { least = range.least; most = omega (arith, range.most, few) }

pub entries_pass : (i : Raw) → k16 i ≡ None → first_in (k16_entry (length i.domains)) i.schedule ≡ None
unfolding k16 entry_count
entries_pass i n = or_rest (entry_count i) (first_in (k16_entry (length i.domains)) i.schedule) n
