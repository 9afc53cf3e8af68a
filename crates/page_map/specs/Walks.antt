-- Walks after a change of page tables: where each is a page fault, and where they are as before. Two addresses lie in
-- one page where they agree divided by 4,096, and in the region of one table where they agree divided by 4,194,304.
use Rattle.std.specs.Prelude.{◌≡◌, ◌≢◌, ℕ, ◌/◌, ◌^◌, ◌<◌, Err}
use Rattle.phys_mem.specs.Mem.{Mem}
use Rattle.sv32_walk.specs.declared.access.Access.{Access}
use Rattle.sv32_walk.specs.declared.access.WalkFault.TheVariants as fault
use Rattle.sv32_walk.specs.Walk.{walk}

-- each walk in the part of so many bytes that an address lies in is a page fault
pub record FaultsIn (size va : ℕ) (mem : Mem) (frames root : ℕ) : Type 0 where
  pub each : (at : ℕ) (access : Access) → at / size ≡ va / size
      → (walk mem frames root at access).result ≡ Err fault.Page

-- each walk elsewhere ends as before and reads what it read
pub record SameElsewhere (size va : ℕ) (old new : Mem) (frames root : ℕ) : Type 0 where
  pub each : (at : ℕ) (access : Access) → at < 2 ^ 32 → va < 2 ^ 32 → at / size ≢ va / size
      → walk new frames root at access ≡ walk old frames root at access
