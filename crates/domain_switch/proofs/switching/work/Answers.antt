-- The parts of a switch, one after the other.
use Rattle.std.proofs.Common.{◌≡◌, ◌+◌, ℕ, subst, arith}
use Rattle.std.specs.Option.{option_copied}
use Rattle.kernel_clone.specs.Models.{layout_model}
use Rattle.mem_system.specs.Contents.{system, MakesTouches}
use Rattle.mem_system.specs.Operations.{switch_by}
use Rattle.domain_switch.specs.Switch.{layout_if}
use Rattle.domain_switch.proofs.Charges.{switch_made}
use Rattle.domain_switch.proofs.switching.work.Goals as goal

pub returns-clause-makes : goal.returns-clause-makes
returns-clause-makes g c =
    let rule = g.P.Policy.rule in
    let stands = g.P.Policy.stands_for in
    let old = (system c.args.core.now c.args.l2.now) in
    let new = (system c.enter-entered.new.core c.enter-entered.new.l2) in
    let out = layout_if (option_copied c.args.out) in
    let into = layout_model c.args.into.now in
    let left : ℕ = c.leave_if-left.result in
    let loaded : ℕ = c.prefetch_if-loaded.result in
    let emptied : ℕ = c.flush_if-emptied.result in
    let entered : ℕ = c.enter-entered.result in
    let made =
    switch_made rule stands c.args.parts.loads c.args.parts.flushes old.core.costs out into left loaded emptied entered
    old (system c.leave_if-left.new.core c.leave_if-left.new.l2)
    (system c.prefetch_if-loaded.new.core c.prefetch_if-loaded.new.l2)
    (system c.flush_if-emptied.new.core c.flush_if-emptied.new.l2) new
    c.leave_if-left.ensures.makes c.prefetch_if-loaded.ensures.makes c.flush_if-emptied.ensures.makes
    c.enter-entered.ensures.makes in
    let all : left + loaded + emptied + entered ≡ c.from.result + c.from-2.result + c.from-3.result + c.from-4.result =
    omega (arith, c.from.ensures, c.from-2.ensures, c.from-3.ensures, c.from-4.ensures) in
    subst
    (λ (n : ℕ).
    MakesTouches rule stands (switch_by c.args.parts.loads c.args.parts.flushes old.core.costs out into) n old new)
    all made
