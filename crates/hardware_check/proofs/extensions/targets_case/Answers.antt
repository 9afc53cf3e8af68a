use Rattle.std.proofs.Common.{◌≡◌, rules, refl, Some, pos, to_z, of_z, w64, sym, ap, ◌∙◌}
use Rattle.image_record.specs.Cases.{refusal}
use Rattle.hardware_check.specs.Hardware.{is_size}
use Rattle.hardware_check.specs.Extensions.{targets_case}
use Rattle.hardware_check.proofs.Verdicts.{met, unmet}
use Rattle.hardware_check.proofs.extensions.targets_case.Goals as goal

pub returns-in_default : goal.returns-in_default
returns-in_default c = record { verdict = ap targets_case c.in_default.is }

pub returns-then-not-is_size : goal.returns-then-not-is_size
returns-then-not-is_size c =
    let x = c.in-Some.places in
    let same : to_z w64 (of_z w64 x) ≡ x = search rules in
    let is = ap (is_size 1 256) (sym same) ∙ sym c.if-not-is_size.ensures.value in
    let told : Some (refusal 22 (pos 3) x (pos 256)) ≡ Some c.refusal.result = search rules in
    record { verdict = ap targets_case c.in-Some.is ∙ unmet _ _ _ _ is told }

pub returns : goal.returns
returns c =
    let x = c.in-Some.places in
    let same : to_z w64 (of_z w64 x) ≡ x = search rules in
    let is = ap (is_size 1 256) (sym same) ∙ sym c.if-not-is_size.ensures.value in
    record { verdict = ap targets_case c.in-Some.is ∙ met _ _ _ _ is refl }
