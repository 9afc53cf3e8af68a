-- The dirty lines of the first places are written back, and as many are left as the others have.
use Rattle.std.proofs.Common.{◌≡◌, ◌≤◌, ◌*◌, length, drop}
use Rattle.set_cache.specs.Cache.{dirty_numbers}
use Rattle.set_cache.specs.Lines.{places_kept}
use Rattle.mem_system.proofs.WriteBacks.{Front}
use Rattle.mem_system.proofs.on_core.OnCore.write_all_back.Given as goal

abbrev pub invariant-loop-place : goal.invariant-loop-place
invariant-loop-place g l =
    record {
      front : Front g.P.Policy.rule g.P.Policy.stands_for l.self l.place l.fn.l2 l.l2;
      left : l.left ≡ length (dirty_numbers (drop l.place (places_kept l.self.l1d.table)));
      within : l.place ≤ l.place-end;
      ends : l.place-end ≡ length (places_kept l.self.l1d.table);
      table : l.place-end ≡ length l.self.l1d.table * l.self.l1d.ways;
    }
