-- No slot so far names the page.
use Rattle.std.proofs.Common.{◌≡◌, ◌≤◌, length}
use Rattle.cap_table.proofs.OwnerLemmas.{NoneTo}
use Rattle.cap_table.proofs.table.other_of.Given as goal

abbrev pub invariant-loop-i : goal.invariant-loop-i
invariant-loop-i l = (l.i ≤ length l.slots) × (l.i-end ≡ length l.slots) × NoneTo l.slots l.slot l.frame l.i
