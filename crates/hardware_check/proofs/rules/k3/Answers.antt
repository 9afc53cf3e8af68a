use Rattle.std.proofs.Common.{◌≡◌, rules, to_z, of_z, w64, ap, ◌∙◌}
use Rattle.hardware_check.specs.Rules.{k3, size_case, predictor_case}
use Rattle.image_record.proofs.Loops.{refused, no_value}
use Rattle.hardware_check.proofs.Verdicts.{past, here}
use Rattle.hardware_check.proofs.rules.k3.Goals as goal

pub returns-in_err-size_case-clause-verdict : goal.returns-in_err-size_case-clause-verdict
unfolding k3
returns-in_err-size_case-clause-verdict c =
    let line = c.args.raw.now.line in
    let same : line ≡ to_z w64 (of_z w64 line) = search rules in
    let at = ap (size_case 1 16 128) same in
    refused c.from_residual.result _ _ c.from_residual.ensures.1 (here _ _ _ (at ∙ c.in_err-size_case.ensures.verdict))

pub returns-in_err-size_case-clause-value : goal.returns-in_err-size_case-clause-value
returns-in_err-size_case-clause-value c = no_value c.from_residual.result _ c.from_residual.ensures.0

pub returns-in_err-l1i-clause-verdict : goal.returns-in_err-l1i-clause-verdict
unfolding k3
returns-in_err-l1i-clause-verdict c =
    let line = c.args.raw.now.line in
    let same : line ≡ to_z w64 (of_z w64 line) = search rules in
    let at = ap (size_case 1 16 128) same in
    refused c.from_residual-in_err-l1i.result _ _ c.from_residual-in_err-l1i.ensures.1
    (past _ _ _ (at ∙ c.in_ok-size_case.ensures.verdict) (here _ _ _ c.in_err-l1i.ensures.verdict))

pub returns-in_err-l1i-clause-value : goal.returns-in_err-l1i-clause-value
returns-in_err-l1i-clause-value c = no_value c.from_residual-in_err-l1i.result _ c.from_residual-in_err-l1i.ensures.0

pub returns-in_err-l1d-clause-verdict : goal.returns-in_err-l1d-clause-verdict
unfolding k3
returns-in_err-l1d-clause-verdict c =
    let line = c.args.raw.now.line in
    let same : line ≡ to_z w64 (of_z w64 line) = search rules in
    let at = ap (size_case 1 16 128) same in
    refused c.from_residual-in_err-l1d.result _ _ c.from_residual-in_err-l1d.ensures.1
    (past _ _ _ (at ∙ c.in_ok-size_case.ensures.verdict)
    (past _ _ _ c.in_ok-l1i.ensures.verdict (here _ _ _ c.in_err-l1d.ensures.verdict)))

pub returns-in_err-l1d-clause-value : goal.returns-in_err-l1d-clause-value
returns-in_err-l1d-clause-value c = no_value c.from_residual-in_err-l1d.result _ c.from_residual-in_err-l1d.ensures.0

pub returns-in_err-l2-clause-verdict : goal.returns-in_err-l2-clause-verdict
unfolding k3
returns-in_err-l2-clause-verdict c =
    let line = c.args.raw.now.line in
    let same : line ≡ to_z w64 (of_z w64 line) = search rules in
    let at = ap (size_case 1 16 128) same in
    refused c.from_residual-in_err-l2.result _ _ c.from_residual-in_err-l2.ensures.1
    (past _ _ _ (at ∙ c.in_ok-size_case.ensures.verdict)
    (past _ _ _ c.in_ok-l1i.ensures.verdict
    (past _ _ _ c.in_ok-l1d.ensures.verdict (here _ _ _ c.in_err-l2.ensures.verdict))))

pub returns-in_err-l2-clause-value : goal.returns-in_err-l2-clause-value
returns-in_err-l2-clause-value c = no_value c.from_residual-in_err-l2.result _ c.from_residual-in_err-l2.ensures.0

pub returns-in_err-tlb-clause-verdict : goal.returns-in_err-tlb-clause-verdict
unfolding k3
returns-in_err-tlb-clause-verdict c =
    let line = c.args.raw.now.line in
    let same : line ≡ to_z w64 (of_z w64 line) = search rules in
    let at = ap (size_case 1 16 128) same in
    refused c.from_residual-in_err-tlb.result _ _ c.from_residual-in_err-tlb.ensures.1
    (past _ _ _ (at ∙ c.in_ok-size_case.ensures.verdict)
    (past _ _ _ c.in_ok-l1i.ensures.verdict
    (past _ _ _ c.in_ok-l1d.ensures.verdict
    (past _ _ _ c.in_ok-l2.ensures.verdict (here _ _ _ c.in_err-tlb.ensures.verdict)))))

pub returns-in_err-tlb-clause-value : goal.returns-in_err-tlb-clause-value
returns-in_err-tlb-clause-value c = no_value c.from_residual-in_err-tlb.result _ c.from_residual-in_err-tlb.ensures.0

pub returns-in_err-predictor_case-clause-verdict : goal.returns-in_err-predictor_case-clause-verdict
unfolding k3
returns-in_err-predictor_case-clause-verdict c =
    let line = c.args.raw.now.line in
    let same : line ≡ to_z w64 (of_z w64 line) = search rules in
    let at = ap (size_case 1 16 128) same in
    let size = c.args.raw.now.predictor in
    let history = c.args.raw.now.history in
    let same_size : size ≡ to_z w64 (of_z w64 size) = search rules in
    let same_history : history ≡ to_z w64 (of_z w64 history) = search rules in
    let guess = ap (λ x. predictor_case x history) same_size ∙ ap (predictor_case (to_z w64 (of_z w64 size))) same_history in
    refused c.from_residual-in_err-predictor_case.result _ _ c.from_residual-in_err-predictor_case.ensures.1
    (past _ _ _ (at ∙ c.in_ok-size_case.ensures.verdict)
    (past _ _ _ c.in_ok-l1i.ensures.verdict
    (past _ _ _ c.in_ok-l1d.ensures.verdict
    (past _ _ _ c.in_ok-l2.ensures.verdict
    (past _ _ _ c.in_ok-tlb.ensures.verdict (guess ∙ c.in_err-predictor_case.ensures.verdict))))))

pub returns-in_err-predictor_case-clause-value : goal.returns-in_err-predictor_case-clause-value
returns-in_err-predictor_case-clause-value c =
    no_value c.from_residual-in_err-predictor_case.result _ c.from_residual-in_err-predictor_case.ensures.0

pub returns-clause-verdict : goal.returns-clause-verdict
unfolding k3
returns-clause-verdict c =
    let line = c.args.raw.now.line in
    let same : line ≡ to_z w64 (of_z w64 line) = search rules in
    let at = ap (size_case 1 16 128) same in
    let size = c.args.raw.now.predictor in
    let history = c.args.raw.now.history in
    let same_size : size ≡ to_z w64 (of_z w64 size) = search rules in
    let same_history : history ≡ to_z w64 (of_z w64 history) = search rules in
    let guess = ap (λ x. predictor_case x history) same_size ∙ ap (predictor_case (to_z w64 (of_z w64 size))) same_history in
    past _ _ _ (at ∙ c.in_ok-size_case.ensures.verdict)
    (past _ _ _ c.in_ok-l1i.ensures.verdict
    (past _ _ _ c.in_ok-l1d.ensures.verdict
    (past _ _ _ c.in_ok-l2.ensures.verdict
    (past _ _ _ c.in_ok-tlb.ensures.verdict (guess ∙ c.in_ok-predictor_case.ensures.verdict)))))

pub returns-clause-value : goal.returns-clause-value
returns-clause-value c = record {
  l1i = c.in_ok-l1i.ensures.value;
  l1d = c.in_ok-l1d.ensures.value;
  l2 = c.in_ok-l2.ensures.value;
  tlb = c.in_ok-tlb.ensures.value;
}
