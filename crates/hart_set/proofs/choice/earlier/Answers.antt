use Rattle.std.proofs.Common.{◌∙◌, ℕ, ◌<◌, Option, IfSome, sym, subst, arith}
use Rattle.sched_table.specs.Schedule.{harts_in}
use Rattle.hart_machine.specs.HartMachine.{machine_of}
use Rattle.hart_set.specs.Models.{image_of, harts_after}
use Rattle.hart_set.proofs.First.{second, still}
use Rattle.hart_set.proofs.Standing.{its_clock}
use Rattle.hart_set.proofs.choice.earlier.Goals as goal

pub returns-then-clock-clause-value : goal.returns-then-clock-clause-value
returns-then-clock-clause-value c order stands =
    let v = c.args.harts.now in
    let there = subst (λ (o : Option ℕ). IfSome o (λ g. g < harts_in (image_of v).all.schedule)) c.in-Some.is c.requires.first in
    let own = its_clock v order stands c.args.h c.requires.hart c.clock.result c.clock.ensures.value in
    let other = its_clock v order stands c.in-Some.g there c.clock-2.result c.clock-2.ensures.value in
    second (machine_of (image_of v)) (harts_after v order) c.args.first c.in-Some.g c.args.h c.in-Some.is
    (omega (arith, own, other, c.if-clock.true))

pub returns-else-clock-clause-value : goal.returns-else-clock-clause-value
returns-else-clock-clause-value c order stands =
    let v = c.args.harts.now in
    let there = subst (λ (o : Option ℕ). IfSome o (λ g. g < harts_in (image_of v).all.schedule)) c.in-Some.is c.requires.first in
    let own = its_clock v order stands c.args.h c.requires.hart c.clock.result c.clock.ensures.value in
    let other = its_clock v order stands c.in-Some.g there c.clock-2.result c.clock-2.ensures.value in
    sym c.in-Some.is ∙ still (machine_of (image_of v)) (harts_after v order) c.args.first c.in-Some.g c.args.h c.in-Some.is
    (omega (arith, own, other, c.if-clock.false))
