-- The first lines are loaded, of whole frames but for the last one.
use Rattle.std.proofs.Common.{◌≡◌, ◌<◌, ◌≤◌, ◌*◌, ◌-◌, ◌%◌, map}
use Rattle.std.specs.List.{range_with_len}
use Rattle.kernel_clone.specs.Footprints.{shared_line, lines_in_frame}
use Rattle.kernel_clone.specs.Models.{layout_model}
use Rattle.cycle_cost.specs.Ranges.{most_access}
use Rattle.mem_system.specs.Contents.{system, MakesTouches}
use Rattle.mem_system.specs.Operations.{prefetch}
use Rattle.domain_switch.proofs.switching.prefetch.Given as goal

abbrev pub invariant-loop-place : goal.invariant-loop-place
invariant-loop-place g l =
    record {
      made : MakesTouches g.P.Policy.rule g.P.Policy.stands_for
          (prefetch (map (shared_line (layout_model l.layout)) (range_with_len 0 l.place))) l.cycles
          (system l.fn.core l.fn.l2) (system l.core l.l2);
      few : l.cycles ≤ most_access * l.place;
      within : l.place ≤ l.shared;
      starts : l.place < l.shared → l.place % lines_in_frame (layout_model l.layout) ≡ 0;
    }

abbrev pub decreases-loop-place : goal.decreases-loop-place
decreases-loop-place g l = l.shared - l.place
