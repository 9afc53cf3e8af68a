use Rattle.std.proofs.Common.{◌≡◌, ◌-◌, None}
use Rattle.hart_set.proofs.BySlots.{OnTheWay}
use Rattle.hart_set.proofs.run.run_by_slots.Given as goal

abbrev pub invariant-loop : goal.invariant-loop
invariant-loop l = record {
  image : l.harts.0 ≡ l.fn.harts.0;
  all : l.harts.1.off ≡ None;
  way : OnTheWay l.harts l.fn.slots (l.most - l.counter);
}
