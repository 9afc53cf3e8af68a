use Rattle.std.proofs.Common.{◌≡◌, ◌<◌, ◌^◌, rules, refl, to_z, of_z, w64, sym, ap, ◌∙◌, arith}
use Rattle.image_record.specs.Numbers.{natural_of}
use Rattle.hardware_check.specs.Hardware.{is_size}
use Rattle.hardware_check.proofs.Parts.{size_natural, size_most}
use Rattle.hardware_check.proofs.Verdicts.{met, unmet}
use Rattle.hardware_check.proofs.extensions.places_of.Goals as goal

pub returns-then-not-is_size : goal.returns-then-not-is_size
returns-then-not-is_size c =
    let x = c.args.said in
    let same : to_z w64 (of_z w64 x) ≡ x = search rules in
    record { value = sym (unmet _ _ _ _ (ap (is_size 1 256) (sym same) ∙ sym c.if-not-is_size.ensures.value) refl) }

pub natural_of-requires : goal.natural_of-requires
natural_of-requires c = record { natural = size_natural 1 256 (to_z w64 (of_z w64 c.args.said)) (sym c.if-not-is_size.ensures.value) }

pub overflow_cast-result : goal.overflow_cast-result
overflow_cast-result c =
    let most = size_most 1 256 (to_z w64 (of_z w64 c.args.said)) (sym c.if-not-is_size.ensures.value) in
    let small : c.natural_of.result < 2 ^ 32 = omega (arith, most, c.natural_of.ensures.value) in
    search (rules, small)

pub returns : goal.returns
returns c =
    let x = c.args.said in
    let same : to_z w64 (of_z w64 x) ≡ x = search rules in
    let is = ap (is_size 1 256) (sym same) ∙ sym c.if-not-is_size.ensures.value in
    record { value = sym (met _ _ _ _ is (sym (c.natural_of.ensures.value ∙ ap natural_of same))) }
