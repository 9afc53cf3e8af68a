-- No leaf's rights are wider than those of the capability through which its page is mapped.
use Rattle.std.specs.Prelude.{◌≡◌, ℕ, Bool, true, Some, None, Ok, slice_index_or}
use Rattle.tp_base.specs.Rights.{are_good}
use Rattle.phys_mem.specs.Mem.{Mem, written}
use Rattle.sv32_walk.specs.declared.access.Access.{Access}
use Rattle.sv32_walk.specs.PageTableEntry.{ppn, vpn_0, vpn_1, rights_permit, leaf_word}
use Rattle.sv32_walk.specs.Translation.{second_entry}
use Rattle.page_map.specs.Tables.{has_table}
use Rattle.cap_table.specs.declared.Cap.TheVariants as cap
use Rattle.cap_table.specs.Slots.{cap_at, mapped_at}
use Rattle.call_table.specs.Domain.{Dom}
use Rattle.call_table.specs.Claims.{Claim, Estate, IsEstate}
use Rattle.call_table.specs.Calls.{is_within}
use Rattle.call_table.specs.Laws.{Kept, IsPageFrame, found_at}
use Rattle.call_table.specs.ThreadLaws.{after_call}
use Rattle.call_table.specs.Meanings.{memory_after}

-- the leaf at an address is of this frame, with rights that are good and among these
pub record IsWithin (e : Estate) (m : Mem) (frame rights va : ℕ) : Type 0 where
  pub table : has_table m e.root va ≡ true
  pub given : ℕ
  pub good : are_good given ≡ true
  pub within : is_within given rights ≡ true
  pub leaf : second_entry m e.root va ≡ leaf_word frame given

-- each capability that is mapped has a leaf within its rights
pub record AreWithin (e : Estate) (d : Dom) (m : Mem) : Type 0 where
  pub each : (i frame rights va : ℕ) → cap_at d.caps i ≡ Some (cap.Frame frame rights (Some va))
      → IsWithin e m frame rights va

-- it is so where nothing is mapped through a capability
abbrev pub NothingMappedLaw : Type 0
NothingMappedLaw =
    (e : Estate) (d : Dom) (m : Mem) → ((i : ℕ) → mapped_at (cap_at d.caps i) ≡ None) → AreWithin e d m

-- each call, refused or not, keeps it
abbrev pub CallsWithinLaw : Type 0
CallsWithinLaw = (e : Estate) (d : Dom) (m : Mem) → IsEstate e → Kept e d m → AreWithin e d m
    → AreWithin e (after_call e d m) (memory_after e d m)

-- and so does a store into a page
abbrev pub StoresWithinLaw : Type 0
StoresWithinLaw =
    (e : Estate) (d : Dom) (m : Mem) (f i v : ℕ) → Kept e d m → AreWithin e d m → IsPageFrame e d m f
    → AreWithin e d (written m f i v)

-- why an access reaches a frame at an address: a capability of the frame is mapped in this page, and its rights permit the
-- access; or the page is one that stays for good, which no capability names
pub data MayReach (e : Estate) (d : Dom) (va frame : ℕ) (access : Access) : Type 0 where
  by_cap : (i rights at : ℕ) → cap_at d.caps i ≡ Some (cap.Frame frame rights (Some at))
      → vpn_1 at ≡ vpn_1 va → vpn_0 at ≡ vpn_0 va → rights_permit rights access ≡ true
      → MayReach e d va frame access
  for_good : (n : ℕ) (shared : Bool)
      → slice_index_or e.fixed n Claim.Nothing ≡ Claim.Leaf shared frame (Some (vpn_1 va, vpn_0 va))
      → MayReach e d va frame access

abbrev pub WalksWithinLaw : Type 0
WalksWithinLaw =
    (e : Estate) (d : Dom) (m : Mem) (va leaf : ℕ) (access : Access) → Kept e d m → AreWithin e d m
    → found_at e m va access ≡ Ok leaf → MayReach e d va (ppn leaf) access
