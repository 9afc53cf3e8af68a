use Rattle.std.proofs.Common.{◌≡◌, ◌<◌, ◌^◌, rules, refl, pos, to_z, of_z, w64, sym, ap, ◌∙◌, arith}
use Rattle.image_record.specs.Numbers.{natural_of}
use Rattle.image_record.specs.Cases.{outside}
use Rattle.image_record.proofs.Ranges.{natural_inside, most_inside}
use Rattle.hardware_check.proofs.Verdicts.{met, unmet}
use Rattle.hardware_check.proofs.extensions.cost_or_none.Goals as goal

pub returns-then-outside : goal.returns-then-outside
returns-then-outside c =
    let x = c.args.cost in
    let same : to_z w64 (of_z w64 x) ≡ x = search rules in
    let out = ap (outside (pos 1) (pos 1000)) (sym same) ∙ sym c.if-outside.ensures.value in
    record { value = sym (met _ _ _ _ out refl); few = omega arith }

pub natural_of-requires : goal.natural_of-requires
natural_of-requires c = record { natural = natural_inside 1 1000 (to_z w64 (of_z w64 c.args.cost)) (sym c.if-outside.ensures.value) }

pub overflow_cast-result : goal.overflow_cast-result
overflow_cast-result c =
    let most = most_inside 1 1000 (to_z w64 (of_z w64 c.args.cost)) (sym c.if-outside.ensures.value) in
    let small : c.natural_of.result < 2 ^ 32 = omega (arith, most, c.natural_of.ensures.value) in
    search (rules, small)

pub returns-clause-value : goal.returns-clause-value
returns-clause-value c =
    let x = c.args.cost in
    let same : to_z w64 (of_z w64 x) ≡ x = search rules in
    let out = ap (outside (pos 1) (pos 1000)) (sym same) ∙ sym c.if-outside.ensures.value in
    sym (unmet _ _ _ _ out (sym (c.natural_of.ensures.value ∙ ap natural_of same)))

pub returns-clause-few : goal.returns-clause-few
returns-clause-few c =
    let most = most_inside 1 1000 (to_z w64 (of_z w64 c.args.cost)) (sym c.if-outside.ensures.value) in
    omega (arith, most, c.natural_of.ensures.value)
