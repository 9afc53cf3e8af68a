-- The three parts, one after the other.
use Rattle.kernel_clone.specs.Models.{layout_model, work_model}
use Rattle.domain_switch.proofs.Charges.{footprint_made}
use Rattle.mem_system.specs.Contents.{system}
use Rattle.domain_switch.proofs.charging.charge_footprint.Goals as goal

pub returns-clause-makes : goal.returns-clause-makes
returns-clause-makes g c =
    footprint_made g.P.Policy.rule g.P.Policy.stands_for (layout_model c.args.layout.now) (work_model c.args.work.now)
    c.charge_own-own.result c.charge_zeroed-zeroed.result c.charge_entries-entries.result
    (system c.args.core.now c.args.l2.now) (system c.charge_own-own.new.core c.charge_own-own.new.l2)
    (system c.charge_zeroed-zeroed.new.core c.charge_zeroed-zeroed.new.l2)
    (system c.charge_entries-entries.new.core c.charge_entries-entries.new.l2)
    c.charge_own-own.ensures.makes c.charge_zeroed-zeroed.ensures.makes c.charge_entries-entries.ensures.makes
