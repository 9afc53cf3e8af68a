use Rattle.std.proofs.Common.{◌≡◌, ◌≤◌, ℕ, List, length}
use Rattle.std.specs.Prelude.{take}
use Rattle.tp_base.specs.Table.{Table}
use Rattle.event_orders.specs.Orders.{passing, is_owed_or_left}
use Rattle.hart_machine.specs.HartMachine.{machine_of}
use Rattle.hart_set.specs.Models.{image_of, StandsAfter}
use Rattle.hart_set.specs.Choosers.{counted_after, Owes}
use Rattle.hart_set.proofs.choice.left.Given as goal

abbrev pub invariant-loop-h : goal.invariant-loop-h
invariant-loop-h l = record {
  names : (order : List ℕ) (table : Table ℕ) → StandsAfter l.harts order → Owes (image_of l.harts) l.owed table
      → take l.many l.numbers
      ≡ passing (is_owed_or_left (machine_of (image_of l.harts)) l.slots (counted_after l.harts order table)) l.h;
  few : l.many ≤ l.h;
  four : length l.numbers ≡ 4;
}
