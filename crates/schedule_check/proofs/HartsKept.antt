-- That the entries of an image that keeps the rule of harts are on harts.
use Rattle.std.proofs.Common.{◌≡◌, ℕ, zero, suc, ◌+◌, ◌<◌, ◌≤◌, Bool, true, false, not, List, length, map, take, get_or, None, refl, sym, ap, ◌∙◌, arith, ◌⊎◌, inl, inr, true≢false, eqb-true, eq-eqb}
use Rattle.std.specs.Prelude.{pos, nat_lt, ◌==◌, ◌&&◌}
use Rattle.std.specs.List.{list_any}
use Rattle.std.proofs.lemmas.Bool.{cases_lt}
use Rattle.std.proofs.lemmas.Bool.Decides.{nat_tests}
use Rattle.std.proofs.lemmas.List.{get_or-take, length-take-le, length-map, get_or-map}
use Rattle.std.proofs.lemmas.List.Folds.{list_any_at}
use Rattle.image_record.specs.Record.{Raw, RawEntry}
use Rattle.image_record.specs.Cases.{or_else, first_in, refusal}
use Rattle.image_record.proofs.FirstCases.{or_first, or_rest, if_first, first_in_none}
use Rattle.image_record.proofs.Ranges.{most_inside}
use Rattle.sched_table.specs.declared.schedule.Entry.{Entry}
use Rattle.sched_table.specs.Schedule.{no_entry, entry_in, harts_in, AreHarts}
use Rattle.sched_table.proofs.Harts.{named_there, greatest_named}
use Rattle.sched_table.proofs.HartSchedules.{few_harts}
use Rattle.schedule_check.specs.Schedule.{entry_of}
use Rattle.schedule_check.specs.Harts.{k19_entry, has_entry, k19_hart, k19_harts, is_elsewhere, k19_domain, k19_entries, k19}
use Rattle.schedule_check.proofs.Entries.{no_text_entry, hart_passed}

-- ---- each hart has an entry

named_below : (es : List Entry) (h : ℕ) → k19_hart es h ≡ None → h + 1 < harts_in es → has_entry es h ≡ true
unfolding k19_hart
named_below es h n below =
    by_case (has_entry es h) (if_first (nat_lt (h + 1) (harts_in es) && not (has_entry es h)) (refusal 19 (pos h) (pos 0) (pos 2)) None n)
  where
    by_case : (b : Bool) → (nat_lt (h + 1) (harts_in es) && not b) ≡ false → b ≡ true
    by_case true passed = refl
    by_case false passed = grind (arith, nat_tests, passed, below)

each_named : (es : List Entry) → k19_harts es ≡ None → harts_in es ≤ 4 → (h : ℕ) → h < harts_in es
    → has_entry es h ≡ true
each_named es n few h l = either (cases_lt (h + 1) (harts_in es))
  where
    rest : or_else (k19_hart es 1) (k19_hart es 2) ≡ None
    rest = or_rest (k19_hart es 0) (or_else (k19_hart es 1) (k19_hart es 2)) n

    below : (h : ℕ) → h < 3 → k19_hart es h ≡ None
    below zero l = or_first (k19_hart es 0) (or_else (k19_hart es 1) (k19_hart es 2)) n
    below (suc zero) l = or_first (k19_hart es 1) (k19_hart es 2) rest
    below (suc (suc zero)) l = or_rest (k19_hart es 1) (k19_hart es 2) rest
    below (suc (suc (suc h))) l = absurd (omega (arith, l))

    either : (h + 1 < harts_in es) ⊎ (harts_in es ≤ h + 1) → has_entry es h ≡ true
    either (inl less) = named_below es h (below h (omega (arith, less, few))) less
    either (inr greatest) = greatest_named es h (omega (arith, greatest, l))

-- ---- each domain is on one hart

later_same : (es : List Entry) (e f : ℕ) → first_in k19_domain es ≡ None → e < f → f < length es
    → (entry_in es e).domain ≡ (entry_in es f).domain → (entry_in es e).hart ≡ (entry_in es f).hart
later_same es e f n before l same = by_case ((entry_in es e).hart == (entry_in es f).hart) refl
  where
    later : Entry
    later = entry_in es f

    none : list_any (is_elsewhere later) (take f es) ≡ false
    none = if_first (list_any (is_elsewhere later) (take f es)) (refusal 19 (pos (length (take f es))) (pos later.domain) (pos 3)) None
        (first_in_none k19_domain es n f l no_entry)

    by_case : (b : Bool) → ((entry_in es e).hart == later.hart) ≡ b → (entry_in es e).hart ≡ later.hart
    by_case true is = eqb-true (entry_in es e).hart later.hart is
    by_case false differ =
        let long : e < length (take f es) = let n = length-take-le f es (omega (arith, l)) in omega (arith, n, before, l) in
        let at : get_or (take f es) e no_entry ≡ entry_in es e = get_or-take f es e no_entry before in
        let elsewhere : is_elsewhere later (entry_in es e) ≡ true = rw (eq-eqb (entry_in es e).domain later.domain same, differ) refl in
        let some = list_any_at (is_elsewhere later) (take f es) e no_entry long (ap (is_elsewhere later) at ∙ elsewhere) in
        absurd (true≢false (sym some ∙ none))

one_each : (es : List Entry) (e f : ℕ) → first_in k19_domain es ≡ None → e < length es → f < length es
    → (entry_in es e).domain ≡ (entry_in es f).domain → (entry_in es e).hart ≡ (entry_in es f).hart
one_each es e f n l m same = either (cases_lt e f)
  where
    among : (f < e) ⊎ (e ≤ f) → f ≤ e → (entry_in es e).hart ≡ (entry_in es f).hart
    among (inl before) after = sym (later_same es f e n before l (sym same))
    among (inr not_before) after = let here : e ≡ f = omega (arith, after, not_before) in ap (λ (k : ℕ). (entry_in es k).hart) here

    either : (e < f) ⊎ (f ≤ e) → (entry_in es e).hart ≡ (entry_in es f).hart
    either (inl before) = later_same es e f n before m same
    either (inr after) = among (cases_lt f e) after

-- ---- the law

below_4 : (es : List RawEntry) → first_in k19_entry es ≡ None → (e : ℕ) → e < length (map entry_of es)
    → (entry_in (map entry_of es) e).hart < 4
unfolding entry_of
below_4 es n e l =
    let within : e < length es = let long = length-map es entry_of in omega (arith, long, l) in
    let here = get_or-map entry_of es e no_text_entry no_entry within in
    let most = most_inside 0 3 (get_or es e no_text_entry).hart (hart_passed es n e within) in
    let same = ap (λ (x : Entry). x.hart) here in
    omega (arith, same, most)

pub harts_kept : (i : Raw) → k19 i ≡ None → AreHarts (map entry_of i.schedule)
unfolding k19
harts_kept i n =
    let es = map entry_of i.schedule in
    let texts = or_first (first_in k19_entry i.schedule) (k19_entries es) n in
    let entries = or_rest (first_in k19_entry i.schedule) (k19_entries es) n in
    let harts = or_first (k19_harts es) (first_in k19_domain es) entries in
    let domains = or_rest (k19_harts es) (first_in k19_domain es) entries in
    let few = below_4 i.schedule texts in
    record {
      few = few;
      each = λ h l. named_there es h (each_named es harts (few_harts es few) h l);
      one = λ e f l m same. one_each es e f domains l m same;
    }
