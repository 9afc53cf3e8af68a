use Rattle.std.proofs.Common.{◌≡◌, ◌<◌, ◌^◌, rules, refl, Some, pos, to_z, of_z, w64, sym, ap, ◌∙◌, arith}
use Rattle.image_record.specs.Numbers.{natural_of}
use Rattle.image_record.specs.Cases.{refusal}
use Rattle.hardware_check.specs.Hardware.{is_size}
use Rattle.hardware_check.proofs.Parts.{size_natural, size_most}
use Rattle.hardware_check.proofs.Verdicts.{met, unmet}
use Rattle.hardware_check.proofs.rules.size_case.Goals as goal

pub returns-then-not-is_size-clause-verdict : goal.returns-then-not-is_size-clause-verdict
returns-then-not-is_size-clause-verdict c =
    let x = c.args.number in
    let same : to_z w64 (of_z w64 x) ≡ x = search rules in
    let is = ap (is_size c.args.low c.args.high) (sym same) ∙ sym c.if-not-is_size.ensures.value in
    let told : Some (refusal 3 (pos c.args.part) x (pos 1)) ≡ Some c.refusal.result = search rules in
    unmet _ _ _ _ is told

pub natural_of-requires : goal.natural_of-requires
natural_of-requires c = record {
  natural =
      size_natural c.args.low c.args.high (to_z w64 (of_z w64 c.args.number))
      (sym c.if-not-is_size.ensures.value);
}

pub overflow_cast-result : goal.overflow_cast-result
overflow_cast-result c =
    let most = size_most c.args.low c.args.high (to_z w64 (of_z w64 c.args.number)) (sym c.if-not-is_size.ensures.value) in
    let small : c.natural_of.result < 2 ^ 32 = omega (arith, most, c.natural_of.ensures.value, c.ranges.high.fits) in
    search (rules, small)

pub returns-clause-verdict : goal.returns-clause-verdict
returns-clause-verdict c =
    let x = c.args.number in
    let same : to_z w64 (of_z w64 x) ≡ x = search rules in
    met _ _ _ _ (ap (is_size c.args.low c.args.high) (sym same) ∙ sym c.if-not-is_size.ensures.value) refl

pub returns-clause-value : goal.returns-clause-value
returns-clause-value c =
    let same : to_z w64 (of_z w64 c.args.number) ≡ c.args.number = search rules in
    c.natural_of.ensures.value ∙ ap natural_of same
