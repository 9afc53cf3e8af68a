-- The first touches are made.
use Rattle.std.proofs.Common.{◌≡◌, ◌≤◌, ◌*◌}
use Rattle.kernel_clone.specs.Footprints.{run_of}
use Rattle.kernel_clone.specs.declared.Kind.TheVariants.{Load}
use Rattle.cycle_cost.specs.Ranges.{most_access}
use Rattle.domain_switch.proofs.Charges.{Front}
use Rattle.mem_system.specs.Contents.{system}
use Rattle.domain_switch.proofs.charging.load_run.Given as goal

abbrev pub invariant-loop-place : goal.invariant-loop-place
invariant-loop-place g l =
    record {
      made : Front g.P.Policy.rule g.P.Policy.stands_for (run_of Load l.first l.count) l.place l.cycles
          (system l.fn.core l.fn.l2) (system l.core l.l2);
      buffer : l.core.tlb ≡ l.fn.core.tlb;
      few : l.cycles ≤ most_access * l.place;
      within : l.place ≤ l.count;
      most : l.count ≤ 256;
    }
