use Rattle.std.proofs.Common.{map, length, sym, ap, subst, ◌∙◌, ◌≡◌, arith}
use Rattle.std.specs.Prelude.{Option}
use Rattle.image_record.specs.declared.refusal.Refusal.{Refusal}
use Rattle.image_record.specs.Parts.{entry_model}
use Rattle.image_record.specs.Cases.{or_else, first_in}
use Rattle.image_record.specs.Outcomes.{IsVerdict}
use Rattle.image_record.proofs.Loops.{refused}
use Rattle.schedule_check.specs.Schedule.{k16_entry}
use Rattle.schedule_check.proofs.Counts.{entries_case}
use Rattle.schedule_check.proofs.schedule.k16.Goals as goal

pub returns-in_err-count_case : goal.returns-in_err-count_case
returns-in_err-count_case c =
    let raw = c.args.raw.now in
    record {
      verdict =
          refused c.from_residual.result _ _ c.from_residual.ensures.1
          (entries_case raw c.as_slice-texts.result.now c.most_entries.result c.as_slice-texts.ensures.value c.most_entries.ensures.value
          ∙ ap (λ o. or_else o
          (first_in (k16_entry (length raw.domains.items)) (map entry_model c.as_slice-texts.result.now)))
          c.in_err-count_case.ensures.verdict);
    }

pub returns : goal.returns
returns c =
    let raw = c.args.raw.now in
    let texts = c.as_slice-texts.result.now in
    let len : length raw.domains.items ≡ c.len.result = omega (arith, c.len.ensures) in
    let cases = first_in (k16_entry (length raw.domains.items)) (map entry_model texts) in
    let all =
    entries_case raw texts c.most_entries.result c.as_slice-texts.ensures.value c.most_entries.ensures.value
    ∙ ap (λ o. or_else o cases) c.in_ok-count_case.ensures.verdict
    ∙ ap (λ n. first_in (k16_entry n) (map entry_model texts)) len in
    record { verdict = subst (λ (o : Option Refusal). IsVerdict c.entry_cases.result o) (sym all) c.entry_cases.ensures.verdict }
