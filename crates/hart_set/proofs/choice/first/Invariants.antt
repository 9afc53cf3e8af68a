use Rattle.std.proofs.Common.{◌≡◌, ◌<◌, ℕ, List, IfSome}
use Rattle.event_orders.specs.Orders as orders
use Rattle.hart_machine.specs.HartMachine.{machine_of}
use Rattle.hart_set.specs.Models.{image_of, harts_after, StandsAfter}
use Rattle.hart_set.specs.Standing.{AtHart}
use Rattle.hart_set.proofs.choice.first.Given as goal

abbrev pub invariant-loop-h : goal.invariant-loop-h
invariant-loop-h l = record {
  first : (order : List ℕ) → StandsAfter l.harts order
      → l.first ≡ orders.first (machine_of (image_of l.harts)) l.slots (harts_after l.harts order) l.h;
  below : IfSome l.first (λ g. g < l.h);
  left : IfSome l.first (λ g. AtHart l.harts.1 g (λ x. x.slots < 65536));
}
