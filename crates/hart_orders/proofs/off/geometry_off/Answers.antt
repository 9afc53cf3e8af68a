use Rattle.std.proofs.Common.{◌≤◌, ap, sym, subst}
use Rattle.repl_policy.specs.declared.AnyPolicy.{AnyPolicy}
use Rattle.mem_system.specs.declared.geometry.Geometry.{Geometry}
use Rattle.hardware_check.specs.Models.{hardware_model}
use Rattle.hart_orders.proofs.OneColour.{geometry_one}
use Rattle.hart_orders.proofs.off.geometry_off.Goals as goal

pub returns-then-not-is_on-clause-sound : goal.returns-then-not-is_on-clause-sound
returns-then-not-is_on-clause-sound c =
    let p = hardware_model c.args.hardware.now in
    let made = c.geometry_of-geometry in
    geometry_one p c.requires.hardware made.result
    (ap (λ (g : Geometry AnyPolicy). g.line_size) made.ensures.value)
    (subst (λ (n : _). n ≤ 16) (sym (ap (λ (g : Geometry AnyPolicy). g.l2.ways) made.ensures.value))
    c.requires.hardware.l2.few_ways)
    made.ensures.sound
