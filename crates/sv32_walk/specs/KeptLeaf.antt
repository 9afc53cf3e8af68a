-- A leaf word that a walk found, kept: how it answers a later access to its page.
use Rattle.std.specs.Prelude.{◌≡◌, ℕ, ◌/◌, ◌^◌, ◌<◌, if◌then◌else◌, Result, Ok, Err}
use Rattle.phys_mem.specs.Mem.{Mem}
use Rattle.sv32_walk.specs.declared.access.Access.{Access}
use Rattle.sv32_walk.specs.declared.access.WalkFault.{WalkFault}
use Rattle.sv32_walk.specs.declared.access.WalkFault.TheVariants as fault
use Rattle.sv32_walk.specs.PageTableEntry.{permits}
use Rattle.sv32_walk.specs.Walk.{walk}

-- the end of an access to a page whose leaf is known
abbrev pub end_at : Access → ℕ → Result ℕ WalkFault
end_at access leaf = if permits access leaf then Ok leaf else Err fault.Page

-- some walk to an address of the page, its number being `page`, ended with this leaf
pub record IsLeafOf (mem : Mem) (frames root page leaf : ℕ) : Type 0 where
  pub at : ℕ
  pub access : Access
  pub small : at < 2 ^ 32
  pub in_page : at / 4096 ≡ page
  pub walked : (walk mem frames root at access).result ≡ Ok leaf
