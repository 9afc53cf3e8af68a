use Rattle.std.proofs.Common.{◌≡◌, ◌<◌, rules, Some, pos, to_z, of_z, w64, sym, ap, ap₂, subst, ◌∙◌}
use Rattle.std.specs.Prelude.{ℤ}
use Rattle.image_record.specs.Models.{raw_model}
use Rattle.image_record.specs.Numbers.{natural_of}
use Rattle.image_record.specs.Cases.{refusal}
use Rattle.image_record.proofs.Loops.{refused, no_value}
use Rattle.hardware_check.specs.Rules.{k11, is_region, room_case}
use Rattle.hardware_check.proofs.Parts.{some_line}
use Rattle.hardware_check.proofs.Verdicts.{met, unmet}
use Rattle.hardware_check.proofs.rules.k11.Goals as goal

pub is_region-requires : goal.is_region-requires
is_region-requires c =
    let x = c.args.raw.now.line in
    let same : to_z w64 (of_z w64 x) ≡ x = search rules in
    record { line = subst (λ (y : ℤ). 0 < natural_of y) (sym same) (some_line (raw_model c.args.raw.now) c.requires.parts) }

pub returns-then-not-is_region-clause-verdict : goal.returns-then-not-is_region-clause-verdict
unfolding k11
returns-then-not-is_region-clause-verdict c =
    let line = c.args.raw.now.line in
    let shared = c.args.raw.now.shared in
    let same_line : to_z w64 (of_z w64 line) ≡ line = search rules in
    let same_shared : to_z w64 (of_z w64 shared) ≡ shared = search rules in
    let is = ap₂ is_region (sym same_line) (sym same_shared) ∙ sym c.if-not-is_region.ensures.value in
    let told : Some (refusal 11 (pos 1) shared (pos 65536)) ≡ Some c.refusal.result = search rules in
    unmet _ _ _ _ is told

pub hardware_of-hardware-requires : goal.hardware_of-hardware-requires
hardware_of-hardware-requires c =
    let line = c.args.raw.now.line in
    let shared = c.args.raw.now.shared in
    let same_line : to_z w64 (of_z w64 line) ≡ line = search rules in
    let same_shared : to_z w64 (of_z w64 shared) ≡ shared = search rules in
    record {
      parts = c.requires.parts;
      caches = c.requires.caches;
      region = ap₂ is_region (sym same_line) (sym same_shared) ∙ sym c.if-not-is_region.ensures.value;
    }

pub returns-in_err-room_case-clause-verdict : goal.returns-in_err-room_case-clause-verdict
unfolding k11
returns-in_err-room_case-clause-verdict c =
    let line = c.args.raw.now.line in
    let shared = c.args.raw.now.shared in
    let same_line : to_z w64 (of_z w64 line) ≡ line = search rules in
    let same_shared : to_z w64 (of_z w64 shared) ≡ shared = search rules in
    let is = ap₂ is_region (sym same_line) (sym same_shared) ∙ sym c.if-not-is_region.ensures.value in
    let room = ap room_case (sym c.hardware_of-hardware.ensures.value) ∙ c.in_err-room_case.ensures.verdict in
    refused c.from_residual.result _ _ c.from_residual.ensures.1 (met _ _ _ _ is room)

pub returns-in_err-room_case-clause-value : goal.returns-in_err-room_case-clause-value
returns-in_err-room_case-clause-value c = no_value c.from_residual.result _ c.from_residual.ensures.0

pub returns-clause-verdict : goal.returns-clause-verdict
unfolding k11
returns-clause-verdict c =
    let line = c.args.raw.now.line in
    let shared = c.args.raw.now.shared in
    let same_line : to_z w64 (of_z w64 line) ≡ line = search rules in
    let same_shared : to_z w64 (of_z w64 shared) ≡ shared = search rules in
    let is = ap₂ is_region (sym same_line) (sym same_shared) ∙ sym c.if-not-is_region.ensures.value in
    met _ _ _ _ is (ap room_case (sym c.hardware_of-hardware.ensures.value) ∙ c.in_ok-room_case.ensures.verdict)

pub returns-clause-value : goal.returns-clause-value
returns-clause-value c = c.hardware_of-hardware.ensures.value
