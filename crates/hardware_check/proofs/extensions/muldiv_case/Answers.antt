use Rattle.std.proofs.Common.{◌≡◌, rules, to_z, of_z, w64, Option, sym, ap, subst, ◌∙◌}
use Rattle.std.specs.Prelude.{option_map}
use Rattle.image_record.specs.declared.refusal.Refusal.{Refusal}
use Rattle.image_record.specs.Parts.{muldiv_model}
use Rattle.image_record.specs.Outcomes.{IsVerdict}
use Rattle.image_record.proofs.Loops.{refused}
use Rattle.hardware_check.specs.Extensions.{product_case, muldiv_case}
use Rattle.hardware_check.proofs.Verdicts.{past, here}
use Rattle.hardware_check.proofs.extensions.muldiv_case.Goals as goal

pub returns-in_default : goal.returns-in_default
returns-in_default c = record { verdict = ap (λ o. muldiv_case (option_map muldiv_model o)) c.in_default.is }

pub returns-in_err-product_case : goal.returns-in_err-product_case
returns-in_err-product_case c =
    let x = c.in-Some.costs.mul in
    let same : x ≡ to_z w64 (of_z w64 x) = search rules in
    let case = here _ (product_case 2 c.in-Some.costs.div) _ (ap (product_case 1) same ∙ c.in_err-product_case.ensures.verdict) in
    let said = ap (λ o. muldiv_case (option_map muldiv_model o)) c.in-Some.is in
    record { verdict = refused c.from_residual.result _ _ c.from_residual.ensures.1 (said ∙ case) }

pub returns : goal.returns
returns c =
    let x = c.in-Some.costs.mul in
    let y = c.in-Some.costs.div in
    let same_mul : x ≡ to_z w64 (of_z w64 x) = search rules in
    let same_div : y ≡ to_z w64 (of_z w64 y) = search rules in
    let case =
    past _ (product_case 2 y) _ (ap (product_case 1) same_mul ∙ c.in_ok-product_case.ensures.verdict)
    (ap (product_case 2) same_div) in
    let said = ap (λ o. muldiv_case (option_map muldiv_model o)) c.in-Some.is in
    record {
      verdict =
          subst (λ (o : Option Refusal). IsVerdict c.product_case-2.result o) (sym (said ∙ case))
          c.product_case-2.ensures.verdict;
    }
