use Rattle.std.proofs.Common.{◌≡◌, ◌<◌, ◌^◌, rules, to_z, of_z, w64, sym, subst, ap, ◌∙◌, arith}
use Rattle.cycle_cost.specs.Costs.{IsCost}
use Rattle.image_record.specs.Numbers.{IsNatural, natural_of}
use Rattle.hardware_check.proofs.Parts.{natural_cost}
use Rattle.hardware_check.proofs.reading.cost_of.Goals as goal

pub natural_of-requires : goal.natural_of-requires
natural_of-requires c =
    let same : to_z w64 (of_z w64 c.args.cost) ≡ c.args.cost = search rules in
    record { natural = subst IsNatural (sym same) (natural_cost c.args.cost c.requires.range) }

pub overflow_cast-result : goal.overflow_cast-result
overflow_cast-result c =
    let same : to_z w64 (of_z w64 c.args.cost) ≡ c.args.cost = search rules in
    let value = c.natural_of.ensures.value ∙ ap natural_of same in
    let small : c.natural_of.result < 2 ^ 32 = omega (arith, c.requires.range.few, value) in
    search (rules, small)

pub returns : goal.returns
returns c =
    let same : to_z w64 (of_z w64 c.args.cost) ≡ c.args.cost = search rules in
    let value = c.natural_of.ensures.value ∙ ap natural_of same in
    record { value = value; range = subst IsCost (sym value) c.requires.range }
