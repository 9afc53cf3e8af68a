use Rattle.std.proofs.Common.{◌≡◌}
use Rattle.tp_machine.proofs.ablated.Ablated.after.Given as goal

abbrev pub invariant-loop-slot : goal.invariant-loop-slot
invariant-loop-slot l = record {
  slots : l.machine.slots ≡ l.slot;
  image : l.machine.record_of ≡ l.fn.image;
  off : l.machine.off ≡ l.fn.off;
}
