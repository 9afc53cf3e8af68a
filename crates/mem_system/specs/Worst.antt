-- What touches cost at worst, whatever the caches hold.
use Rattle.std.specs.Prelude.{◌≡◌, ℕ, ◌+◌, ◌*◌, ◌<◌, ◌≤◌, if◌then◌else◌, List, [], ◌∷◌, length}
use Rattle.set_cache.specs.Cache.{set_at}
use Rattle.cycle_cost.specs.Costs.{most_added}
use Rattle.pad_bound.specs.Bound.{MachineShape, most_written, worst_fetch, worst_access, worst_read}
use Rattle.mem_system.specs.Hierarchy.{Hierarchy}
use Rattle.mem_system.specs.Cost.{Touch, Fetch, Load, Store, WalkRead, Look, Branch, Jump, EmptyTlb, Flush, Charge, Caches, Touched}

-- what a miss of the second level costs again at worst: where lines are written back into it, its victim may have a mark
abbrev pub again : Hierarchy → ℕ
again h = if h.back then h.costs.wb else 0

-- what of a hierarchy the bound depends on, with a shared region of so many bytes, where the domain that leaves may
-- make these calls
abbrev pub machine_shape : Hierarchy → ℕ → ℕ → MachineShape
machine_shape h shared calls = record {
  costs = h.costs;
  line = h.line_size;
  shared = shared;
  sets = h.l1d.count;
  ways = h.l1d.ways;
  written = most_written calls h.line_size;
  again = again h;
  product = most_added h.products;
}

-- every line misses both levels, the victims are dirty, and the guess is wrong; a flush finds every line dirty
abbrev pub worst_touch : Hierarchy → Touch → ℕ
worst_touch h (Fetch line) = worst_fetch h.costs (again h)
worst_touch h (Load line) = worst_access h.costs (again h)
worst_touch h (Store line) = worst_access h.costs (again h)
worst_touch h (WalkRead line) = worst_read h.costs (again h)
worst_touch h (Look page reads found) = h.costs.tlb + length reads * worst_read h.costs (again h)
worst_touch h (Branch pc taken target) = h.costs.mispredict
worst_touch h (Jump pc target) = h.costs.mispredict
worst_touch h EmptyTlb = 0
worst_touch h Flush = h.costs.flush + h.costs.wb * (h.l1d.count * h.l1d.ways)
worst_touch h (Charge cycles) = cycles

unfoldable pub worst_touches : Hierarchy → List Touch → ℕ
worst_touches h [] = 0
worst_touches h (t ∷ ts) = worst_touch h t + worst_touches h ts

-- each set of the first-level data cache has its number of ways
abbrev pub HasWays : Hierarchy → Caches → Type 0
HasWays h c = (s : ℕ) → s < h.l1d.count → length (set_at h.l1d.ways c.core.l1d s).places ≡ h.l1d.ways

-- it cost so much at most, and the sets have kept their ways
pub record IsWithin (h : Hierarchy) (most : ℕ) (r : Touched) : Type 0 where
  pub cost : r.cost ≤ most
  pub ways : HasWays h r.caches
