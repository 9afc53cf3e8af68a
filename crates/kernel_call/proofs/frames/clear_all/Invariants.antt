use Rattle.std.proofs.Common.{◌≡◌, ◌≤◌, take, length, None}
use Rattle.phys_mem.specs.Mem.{Mem}
use Rattle.phys_mem.specs.Holds.{Holds}
use Rattle.kernel_call.proofs.DropsAll.{Clearing, CanClearLeft}
use Rattle.kernel_call.proofs.frames.clear_all.Given as goal

abbrev pub invariant-loop-i : goal.invariant-loop-i
invariant-loop-i l =
    (l.i ≤ l.revoked.written)
    × (l.map ≡ l.fn.map)
    × (l.memory.frames ≡ l.fn.memory.frames)
    × (l.work.op ≡ 8)
    × (l.work.zeroed ≡ None)
    × (length l.work.entries ≡ 64)
    × CanClearLeft l.fn.map (take l.revoked.written l.revoked.entries) l.i l.memory
    × ((m : Mem) → Holds l.fn.memory m
    → Clearing l.fn.map (take l.revoked.written l.revoked.entries) l.i m l.memory l.work.entries)
