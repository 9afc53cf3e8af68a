use Rattle.std.proofs.Common.{[], sym, ap, subst, ◌∙◌, List}
use Rattle.std.specs.Prelude.{IfErr}
use Rattle.image_record.specs.declared.refusal.Refusal.{Refusal}
use Rattle.image_record.specs.Record.{Raw}
use Rattle.image_record.specs.Models.{raw_model}
use Rattle.image_check.specs.Outcomes.{IsFirst}
use Rattle.image_check.specs.Checking.{rules_after_pads, broken_of, broken}
use Rattle.image_check.proofs.Kept.{first_handed, verdict_handed, first_of_all, first_of_pads, all_left}
use Rattle.image_check.proofs.checked.check.Goals as goal

pub returns-in_err-parts-clause-refused : goal.returns-in_err-parts-clause-refused
returns-in_err-parts-clause-refused c =
    first_of_all (raw_model c.args.raw) c.from_residual.result (first_handed c.from_residual.result
    c.in_err-parts.field-0.0 _ c.from_residual.ensures.1 c.in_err-parts.ensures.refused)

pub returns-in_err-k17-clause-refused : goal.returns-in_err-k17-clause-refused
returns-in_err-k17-clause-refused c =
    let verdict = verdict_handed c.from_residual-in_err-k17.result _ _ c.from_residual-in_err-k17.ensures.1 c.in_err-k17.ensures.verdict in
    first_of_pads (raw_model c.args.raw) c.from_residual-in_err-k17.result c.in_ok-parts.ensures.accepted verdict

pub returns-in_err-image-clause-refused : goal.returns-in_err-image-clause-refused
returns-in_err-image-clause-refused c =
    let result = c.from_residual-in_err-image.result in
    let left = all_left (raw_model c.args.raw) c.in_ok-parts.ensures.accepted c.in_ok-k17.ensures.verdict in
    subst (λ (due : List Refusal). IfErr result (IsFirst due)) (sym left)
    (first_handed result c.in_err-image.field-0.0 _ c.from_residual-in_err-image.ensures.1
    c.in_err-image.ensures.refused)

pub invariant_of-result : goal.invariant_of-result
invariant_of-result c =
    let i = raw_model c.args.raw in
    let same = c.in_ok-image.ensures.same in
    let last = ap (λ (j : Raw). broken_of rules_after_pads j []) (sym same) ∙ c.in_ok-image.ensures.accepted in
    ap broken same ∙ all_left i c.in_ok-parts.ensures.accepted c.in_ok-k17.ensures.verdict ∙ last

pub returns-clause-accepted : goal.returns-clause-accepted
returns-clause-accepted c =
    let i = raw_model c.args.raw in
    let same = c.in_ok-image.ensures.same in
    let last = ap (λ (j : Raw). broken_of rules_after_pads j []) (sym same) ∙ c.in_ok-image.ensures.accepted in
    ap broken same ∙ all_left i c.in_ok-parts.ensures.accepted c.in_ok-k17.ensures.verdict ∙ last
