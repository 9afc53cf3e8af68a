-- The first touches are made.
use Rattle.std.proofs.Common.{◌≡◌, ◌≤◌, ◌*◌}
use Rattle.kernel_clone.specs.Footprints.{entry_touches}
use Rattle.kernel_clone.specs.Models.{layout_model, work_model}
use Rattle.cycle_cost.specs.Ranges.{most_access}
use Rattle.domain_switch.proofs.Charges.{Front}
use Rattle.mem_system.specs.Contents.{system}
use Rattle.domain_switch.proofs.charging.charge_entries.Given as goal

abbrev pub invariant-loop-place : goal.invariant-loop-place
invariant-loop-place g l =
    record {
      made : Front g.P.Policy.rule g.P.Policy.stands_for
          (entry_touches (layout_model l.layout) (work_model l.work).entries) l.place l.cycles
          (system l.fn.core l.fn.l2) (system l.core l.l2);
      buffer : l.core.tlb ≡ l.fn.core.tlb;
      few : l.cycles ≤ most_access * l.place;
      within : l.place ≤ l.place-end;
      most : l.place-end ≤ 64;
    }
