use Rattle.std.proofs.Common.{◌≡◌, All, length}
use Rattle.hardware_check.specs.Models.{hardware_model}
use Rattle.hart_orders.specs.Cold.{IsColdHart}
use Rattle.hart_orders.specs.Off.{levels_by}
use Rattle.hart_orders.proofs.cold.cold_harts.Given as goal

abbrev pub invariant-loop : goal.invariant-loop
invariant-loop l = record {
  counted : length l.harts.items ≡ l.counter;
  room : l.harts.cap ≡ l.initial.harts.cap;
  cold : All (IsColdHart (levels_by l.off (hardware_model l.hardware)) l.l2) l.harts.items;
}
