-- What the laws of touches speak of: where a touch may come, and what it may cost.
use Rattle.std.specs.Prelude.{◌≡◌, ℕ, ◌+◌, ◌*◌, ◌≤◌, Bool, true, false, List, [], ◌∷◌, length, is_some, ◌⊎◌}
use Rattle.set_cache.specs.Cache.{Shape, Sets, place_of, dirty_of}
use Rattle.mem_system.specs.Hierarchy.{Hierarchy}
use Rattle.mem_system.specs.Cost.{Touch, Fetch, Load, Store, WalkRead, Look, Branch, Jump, EmptyTlb, Flush, Charge, Core}

-- ---- where it may come

abbrev pub lines_in_l1i : Touch → List ℕ
lines_in_l1i (Fetch line) = line ∷ []
lines_in_l1i _ = []

abbrev pub lines_in_l1d : Touch → List ℕ
lines_in_l1d (Load line) = line ∷ []
lines_in_l1d (Store line) = line ∷ []
lines_in_l1d _ = []

abbrev pub lines_in_l2 : Touch → List ℕ
lines_in_l2 (Fetch line) = line ∷ []
lines_in_l2 (Load line) = line ∷ []
lines_in_l2 (Store line) = line ∷ []
lines_in_l2 (WalkRead line) = line ∷ []
lines_in_l2 (Look page reads found) = reads
lines_in_l2 _ = []

abbrev pub pages_in_tlb : Touch → List ℕ
pages_in_tlb (Look page reads found) = page ∷ []
pages_in_tlb _ = []

-- the pcs of branches
abbrev pub branches_in : Touch → List ℕ
branches_in (Branch pc taken target) = pc ∷ []
branches_in _ = []

-- the pcs of jumps, and of branches that are taken
abbrev pub jumps_in : Touch → List ℕ
jumps_in (Branch pc true target) = pc ∷ []
jumps_in (Jump pc target) = pc ∷ []
jumps_in _ = []

abbrev pub is_flush : Touch → Bool
is_flush Flush = true
is_flush _ = false

abbrev pub empties_tlb : Touch → Bool
empties_tlb EmptyTlb = true
empties_tlb Flush = true
empties_tlb _ = false

abbrev pub holds : Shape → Sets → ℕ → Bool
holds shape sets number = is_some (place_of shape sets number)

-- ---- what it may cost

-- what a line costs at the second level, after so much: where it isn't there, memory's cost, and that of one more
-- write-back, if lines are written back into it
abbrev pub IsCostBelow : Hierarchy → ℕ → ℕ → Type 0
IsCostBelow h first cost =
    (cost ≡ first + h.costs.l2) ⊎ ((cost ≡ first + (h.costs.l2 + h.costs.mem))
    ⊎ ((h.back ≡ true) × (cost ≡ first + (h.costs.l2 + (h.costs.mem + h.costs.wb)))))

-- what a load or store costs
abbrev pub IsCostOfData : Hierarchy → ℕ → Type 0
IsCostOfData h cost =
    (cost ≡ h.costs.l1) ⊎ (IsCostBelow h h.costs.l1 cost ⊎ IsCostBelow h (h.costs.l1 + h.costs.wb) cost)

-- what a look-up that makes reads costs: each is an access to the second level, some of them miss it, and some of these
-- write a line back, if lines are written back into it
pub record IsCostOfWalk (h : Hierarchy) (reads cost : ℕ) : Type 0 where
  pub misses : ℕ
  pub written : ℕ
  pub few : misses ≤ reads
  pub fewer : written ≤ misses
  pub none : h.back ≡ false → written ≡ 0
  pub sum : cost ≡ h.costs.tlb + (reads * h.costs.l2 + misses * h.costs.mem + written * h.costs.wb)

-- the costs of each touch, by the table
abbrev pub IsCost : Hierarchy → Core → Touch → ℕ → Type 0
IsCost h core (Fetch line) cost = (cost ≡ h.costs.l1) ⊎ IsCostBelow h h.costs.l1 cost
IsCost h core (Load line) cost = IsCostOfData h cost
IsCost h core (Store line) cost = IsCostOfData h cost
IsCost h core (WalkRead line) cost = IsCostBelow h 0 cost
IsCost h core (Look page reads found) cost = (cost ≡ h.costs.tlb) ⊎ IsCostOfWalk h (length reads) cost
IsCost h core (Branch pc taken target) cost = (cost ≡ 0) ⊎ (cost ≡ h.costs.mispredict)
IsCost h core (Jump pc target) cost = (cost ≡ 0) ⊎ (cost ≡ h.costs.mispredict)
IsCost h core EmptyTlb cost = cost ≡ 0
IsCost h core Flush cost = cost ≡ h.costs.flush + h.costs.wb * dirty_of h.l1d core.l1d
IsCost h core (Charge cycles) cost = cost ≡ cycles
