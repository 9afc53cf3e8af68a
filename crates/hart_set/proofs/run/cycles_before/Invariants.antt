use Rattle.std.proofs.Common.{◌≡◌, ◌≤◌, ◌*◌}
use Rattle.image_check.specs.Image.{image_from}
use Rattle.hart_orders.specs.Order.{cycles_before}
use Rattle.hart_set.proofs.run.cycles_before.Given as goal

abbrev pub invariant-loop-schedule : goal.invariant-loop-schedule
invariant-loop-schedule l = record {
  cycles : l.cycles ≡ cycles_before (image_from l.image) l.slot l.schedule-index;
  few : l.cycles ≤ 200000000000 * l.schedule-index;
}
