use Rattle.std.proofs.Common.{◌≡◌, ◌+◌, rules, refl, pos, take, get_or, length, to_z, of_z, w64, sym, ap, ◌∙◌, length-take, arith}
use Rattle.std.specs.Prelude.{ℤ}
use Rattle.image_record.specs.Cases.{first_in, range_case}
use Rattle.hardware_check.specs.Rules.{k6_cost}
use Rattle.image_record.proofs.Loops.{refused, found, ended}
use Rattle.hardware_check.proofs.rules.first_dear.Goals as goal

pub returns-in_err-range_case : goal.returns-in_err-range_case
returns-in_err-range_case c =
    let costs = c.args.costs.now in
    let k = c.loop-place.place in
    let x = to_z w64 (of_z w64 (get_or costs k (pos 0))) in
    let same : x ≡ get_or costs k (pos 0) = search rules in
    let many : length (take k costs) ≡ k = omega (arith, length-take k costs, c.loop-place-test.true) in
    let at : to_z w64 (k + 1) ≡ pos (k + 1) = search rules in
    let here =
    ap (λ n. range_case 6 (pos (n + 1)) 1 1000 x) many
    ∙ ap (λ (z : ℤ). range_case 6 z 1 1000 x) (sym at) ∙ c.in_err-range_case.ensures.verdict in
    let is = sym c.loop-place.invariant ∙ found k6_cost costs k x (pos 0) _ c.loop-place-test.true same here in
    record { verdict = refused c.from_residual.result (first_in k6_cost costs) _ c.from_residual.ensures.1 is }

pub returns : goal.returns
returns c =
    record { verdict = sym c.loop-place.invariant ∙ ended k6_cost _ c.args.costs.now c.loop-place.place (omega arith) }

pub loop-place-init : goal.loop-place-init
loop-place-init c = refl

pub bounds-costs-place : goal.bounds-costs-place
bounds-costs-place c = c.loop-place-test.true

pub loop-place-smaller : goal.loop-place-smaller
loop-place-smaller c = omega (arith, c.loop-place-test.true)

pub overflow_add-place : goal.overflow_add-place
overflow_add-place c = search rules

pub overflow_cast-place : goal.overflow_cast-place
overflow_cast-place c = search rules
