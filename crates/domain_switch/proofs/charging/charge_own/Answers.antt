-- The four parts, one after the other.
use Rattle.std.proofs.Common.{◌∙◌, sym, ap}
use Rattle.kernel_clone.specs.Footprints.{run_of}
use Rattle.kernel_clone.specs.Models.{layout_model}
use Rattle.kernel_clone.specs.declared.Kind.TheVariants.{Fetch, Store}
use Rattle.domain_switch.proofs.Charges.{own_made}
use Rattle.mem_system.specs.Contents.{system}
use Rattle.domain_switch.proofs.charging.charge_own.Goals as goal

pub returns-clause-makes : goal.returns-clause-makes
returns-clause-makes g c =
    own_made g.P.Policy.rule g.P.Policy.stands_for (layout_model c.args.layout.now) c.args.op
    (run_of Fetch c.text_start.result 4) (run_of Store c.stack_start.result 2) (run_of Store c.data_start.result c.data_count.result)
    c.fetch_run-text.result c.store_run-stack.result c.store_run-stored.result c.charge_loaded-loaded.result
    (system c.args.core.now c.args.l2.now) (system c.fetch_run-text.new.core c.fetch_run-text.new.l2)
    (system c.store_run-stack.new.core c.store_run-stack.new.l2)
    (system c.store_run-stored.new.core c.store_run-stored.new.l2)
    (system c.charge_loaded-loaded.new.core c.charge_loaded-loaded.new.l2)
    c.text_start.ensures.touches c.stack_start.ensures.touches
    (c.data_start.ensures.touches ∙ ap (run_of Store c.data_start.result) (sym c.data_count.ensures.value))
    c.fetch_run-text.ensures.makes c.store_run-stack.ensures.makes c.store_run-stored.ensures.makes c.charge_loaded-loaded.ensures.makes
