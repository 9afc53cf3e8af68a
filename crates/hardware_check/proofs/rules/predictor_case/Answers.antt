use Rattle.std.proofs.Common.{◌≡◌, rules, to_z, of_z, w64, Option, sym, ap, subst, ◌∙◌}
use Rattle.image_record.specs.declared.refusal.Refusal.{Refusal}
use Rattle.image_record.specs.Outcomes.{IsVerdict}
use Rattle.image_record.proofs.Loops.{refused}
use Rattle.hardware_check.specs.Rules.{size_case, history_case, predictor_case}
use Rattle.hardware_check.proofs.Verdicts.{past, here}
use Rattle.hardware_check.proofs.rules.predictor_case.Goals as goal

pub returns-in_err-size_case : goal.returns-in_err-size_case
unfolding predictor_case
returns-in_err-size_case c =
    let x = c.args.size in
    let same : x ≡ to_z w64 (of_z w64 x) = search rules in
    record {
      verdict =
          refused c.from_residual.result _ _ c.from_residual.ensures.1
          (here _ _ _ (ap (size_case 6 1 4096) same ∙ c.in_err-size_case.ensures.verdict));
    }

pub returns : goal.returns
unfolding predictor_case
returns c =
    let x = c.args.size in
    let y = c.args.history in
    let same_size : x ≡ to_z w64 (of_z w64 x) = search rules in
    let same_history : y ≡ to_z w64 (of_z w64 y) = search rules in
    let case = past _ _ _ (ap (size_case 6 1 4096) same_size ∙ c.in_ok-size_case.ensures.verdict) (ap history_case same_history) in
    record { verdict = subst (λ (o : Option Refusal). IsVerdict c.history_case.result o) (sym case) c.history_case.ensures.verdict }
