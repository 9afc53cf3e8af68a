use Rattle.std.proofs.Common.{sym, subst, List}
use Rattle.std.specs.Prelude.{IfErr}
use Rattle.image_record.specs.declared.refusal.Refusal.{Refusal}
use Rattle.image_record.specs.Models.{raw_model}
use Rattle.image_check.specs.Outcomes.{IsFirst}
use Rattle.image_check.proofs.Kept.{first_handed, first_of_others, others_left}
use Rattle.image_check.proofs.unpadded.check_but_pads.Goals as goal

pub returns-in_err-parts-clause-refused : goal.returns-in_err-parts-clause-refused
returns-in_err-parts-clause-refused c =
    first_of_others (raw_model c.args.raw) c.from_residual.result (first_handed c.from_residual.result
    c.in_err-parts.field-0.0 _ c.from_residual.ensures.1 c.in_err-parts.ensures.refused)

pub returns-clause-refused : goal.returns-clause-refused
returns-clause-refused c =
    let left = others_left (raw_model c.args.raw) c.in_ok-parts.ensures.accepted in
    subst (λ (due : List Refusal). IfErr c.image_with.result (IsFirst due)) (sym left) c.image_with.ensures.refused
