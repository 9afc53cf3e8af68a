-- The slots so far are as they will be, counted and written.
use Rattle.std.proofs.Common.{◌≡◌, ◌≤◌}
use Rattle.cap_table.specs.Slots.{cap_at}
use Rattle.cap_table.proofs.RevokeLemmas.{RevokedTo, CountedTo}
use Rattle.cap_table.proofs.table.CapTable.revoke.Given as goal

abbrev pub invariant-loop-i : goal.invariant-loop-i
invariant-loop-i l = (l.i ≤ 64) × (l.cap ≡ cap_at l.fn.self l.slot) × RevokedTo l.fn.self l.slot l.i l.self
    × CountedTo l.fn.self l.slot l.i l.revoked.count l.revoked.written l.revoked.entries
