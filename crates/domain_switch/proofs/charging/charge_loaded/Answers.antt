-- One line, or none.
use Rattle.std.proofs.Common.{◌∙◌, List, subst, sym, ap, map}
use Rattle.kernel_clone.specs.Footprints.{LineTouch, run_of}
use Rattle.kernel_clone.specs.Models.{layout_model}
use Rattle.kernel_clone.specs.declared.Kind.TheVariants.{Load}
use Rattle.mem_system.specs.Contents.{system, MakesTouches}
use Rattle.mem_system.specs.Operations.{touch_of_line}
use Rattle.domain_switch.proofs.Charges.{loaded_none}
use Rattle.domain_switch.proofs.charging.charge_loaded.Goals as goal

pub returns-then-count-eq0-clause-makes : goal.returns-then-count-eq0-clause-makes
returns-then-count-eq0-clause-makes g c =
    loaded_none g.P.Policy.rule g.P.Policy.stands_for (layout_model c.args.layout.now) c.args.op
    c.shared_count-count.result (system c.args.core.now c.args.l2.now)
    c.shared_count-count.ensures.value c.if-count-eq0.true

pub returns-clause-makes : goal.returns-clause-makes
returns-clause-makes g c =
    subst (λ (ts : List LineTouch). MakesTouches g.P.Policy.rule g.P.Policy.stands_for (map touch_of_line ts)
    c.load_run.result (system c.args.core.now c.args.l2.now)
    (system c.load_run.new.core c.load_run.new.l2))
    (sym (c.loaded_line.ensures.touches ∙ ap (run_of Load c.loaded_line.result) (sym c.shared_count-count.ensures.value)))
    c.load_run.ensures.makes
