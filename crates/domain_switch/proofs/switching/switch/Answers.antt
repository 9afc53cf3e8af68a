-- The parts of a switch, one after the other, and when they are done.
use Rattle.std.proofs.Common.{◌∙◌, refl, arith}
use Rattle.std.specs.Option.{option_copied}
use Rattle.std.proofs.Math.Nat.{max-eq_right}
use Rattle.kernel_clone.specs.Models.{layout_model}
use Rattle.mem_system.specs.Hierarchy.{Hierarchy}
use Rattle.mem_system.specs.Contents.{system, hierarchy_of}
use Rattle.domain_switch.specs.Switch.{layout_if}
use Rattle.domain_switch.proofs.OnTime.{done_by}
use Rattle.domain_switch.proofs.switching.switch.Goals as goal

pub returns-clause-work : goal.returns-clause-work
returns-clause-work g c caches for =
    let step = c.work.ensures.makes.steps caches for in
    record {
      time = omega (arith, step.cost);
      next = step.next;
    }

pub returns-clause-within : goal.returns-clause-within
returns-clause-within g c caches for in_time =
    let h : Hierarchy = hierarchy_of g.P.Policy.rule (system c.args.core.now c.args.l2.now) in
    let done = done_by h c.args.core.now.pinned caches (layout_if (option_copied c.args.out)) (layout_model c.args.into.now)
    c.args.into.now.shared c.args.calls c.args.old_end c.args.now c.args.until _
    (record { line = c.requires.into.line; shared = refl }) c.requires.ended in_time
    (returns-clause-work g c caches for).time in
    omega (arith, done)

pub returns-clause-on_time : goal.returns-clause-on_time
returns-clause-on_time g c caches for in_time =
    c.max.ensures ∙ max-eq_right (omega (arith, returns-clause-within g c caches for in_time, in_time.pad, c.requires.ended))
