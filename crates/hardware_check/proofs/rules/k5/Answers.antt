use Rattle.std.proofs.Common.{◌≡◌, rules, pos, to_z, of_z, w64, sym, ap, ◌∙◌}
use Rattle.image_record.specs.Cases.{range_case}
use Rattle.image_record.proofs.Loops.{refused, no_value}
use Rattle.hardware_check.specs.Rules.{k5}
use Rattle.hardware_check.proofs.Parts.{in_range}
use Rattle.hardware_check.proofs.rules.k5.Goals as goal

pub returns-in_err-range_case-clause-verdict : goal.returns-in_err-range_case-clause-verdict
unfolding k5
returns-in_err-range_case-clause-verdict c =
    let n = c.colours_in-colours.result in
    let read : pos n ≡ to_z w64 (of_z w64 c.from.result) = search rules in
    let is = ap (λ m. range_case 5 (pos 0) 2 64 (pos m)) (sym c.colours_in-colours.ensures.value) ∙ ap (range_case 5 (pos 0) 2 64) read in
    refused c.from_residual.result _ _ c.from_residual.ensures.1 (is ∙ c.in_err-range_case.ensures.verdict)

pub returns-in_err-range_case-clause-value : goal.returns-in_err-range_case-clause-value
returns-in_err-range_case-clause-value c = no_value c.from_residual.result _ c.from_residual.ensures.0

pub returns-in_err-range_case-clause-some : goal.returns-in_err-range_case-clause-some
returns-in_err-range_case-clause-some c = no_value c.from_residual.result _ c.from_residual.ensures.0

pub returns-in_err-range_case-clause-few : goal.returns-in_err-range_case-clause-few
returns-in_err-range_case-clause-few c = no_value c.from_residual.result _ c.from_residual.ensures.0

pub returns-clause-verdict : goal.returns-clause-verdict
unfolding k5
returns-clause-verdict c =
    let n = c.colours_in-colours.result in
    let read : pos n ≡ to_z w64 (of_z w64 c.from.result) = search rules in
    let is = ap (λ m. range_case 5 (pos 0) 2 64 (pos m)) (sym c.colours_in-colours.ensures.value) ∙ ap (range_case 5 (pos 0) 2 64) read in
    is ∙ c.in_ok-range_case.ensures.verdict

pub returns-clause-value : goal.returns-clause-value
returns-clause-value c = c.colours_in-colours.ensures.value

pub returns-clause-some : goal.returns-clause-some
returns-clause-some c =
    let n = c.colours_in-colours.result in
    let read : pos n ≡ to_z w64 (of_z w64 c.from.result) = search rules in
    (in_range 5 (pos 0) 2 64 (pos n) (ap (range_case 5 (pos 0) 2 64) read ∙ c.in_ok-range_case.ensures.verdict)).least

pub returns-clause-few : goal.returns-clause-few
returns-clause-few c =
    let n = c.colours_in-colours.result in
    let read : pos n ≡ to_z w64 (of_z w64 c.from.result) = search rules in
    (in_range 5 (pos 0) 2 64 (pos n) (ap (range_case 5 (pos 0) 2 64) read ∙ c.in_ok-range_case.ensures.verdict)).most
