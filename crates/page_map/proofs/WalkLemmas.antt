-- What a walk of a root's tables comes to.
use Rattle.std.proofs.Common.{arith, ◌≡◌, ◌≢◌, ◌∙◌, ap, sym, refl, inl, inr, [], ◌∷◌, ℕ, ◌/◌, ◌^◌, ◌<◌, Bool, true, false, not, ◌&&◌, ◌||◌, lt-ltb}
use Rattle.std.proofs.lemmas.Bool.{cases_Bool}
use Rattle.std.specs.Prelude.{Option, Some, None, Result, Err}
use Rattle.phys_mem.specs.Mem.{Mem, word}
use Rattle.sv32_walk.specs.declared.access.Access.{Access}
use Rattle.sv32_walk.specs.declared.access.WalkFault.{WalkFault}
use Rattle.sv32_walk.specs.declared.access.WalkFault.TheVariants as fault
use Rattle.sv32_walk.specs.PageTableEntry.{valid, readable, writable, ppn, vpn_0, vpn_1, is_reserved, is_leaf, permits}
use Rattle.sv32_walk.specs.Walk.{leaf, first_level, last_level, from_table, from_entry, entry_address, Walk, walk}
use Rattle.sv32_walk.specs.Translation.{Points, first_entry, second_entry}
use Rattle.sv32_walk.proofs.EntryLemmas.{pointer-reserved, pointer-leaf, pointer-clean}
use Rattle.page_map.specs.Reached.{SameTables}

-- ---- an entry

reserved-invalid : (v r w : Bool) → v ≡ false → not v || (not r && w) ≡ true
reserved-invalid false r w e = refl
reserved-invalid true r w e = absurd (cc)

invalid : (entry : ℕ) → valid entry ≡ false → is_reserved entry ≡ true
invalid entry e = reserved-invalid (valid entry) (readable entry) (writable entry) e

pub last_invalid : (frames : ℕ) (access : Access) (entry : ℕ) → valid entry ≡ false
    → last_level frames access entry ≡ Err fault.Page
unfolding last_level
last_invalid frames access entry e = rw (invalid entry e)

pub last_refused : (frames : ℕ) (access : Access) (entry : ℕ) → permits access entry ≡ false
    → last_level frames access entry ≡ Err fault.Page
unfolding last_level leaf
last_refused frames access entry e = elim (cases_Bool (is_reserved entry)) [
  | inl bad ↦ rw (bad)
  | inr kept ↦ elim (cases_Bool (is_leaf entry)) [
    | inl a_leaf ↦ rw (kept, a_leaf, e)
    | inr no_leaf ↦ rw (kept, no_leaf)
  ]
]

-- ---- a walk

module _ (mem : Mem) (frames root va : ℕ) (access : Access) where
  pub by_table : root < frames → Points (first_entry mem root va) → ppn (first_entry mem root va) < frames
      → (walk mem frames root va access).result ≡ last_level frames access (second_entry mem root va)
  unfolding walk from_entry from_table first_level
  by_table in_root p in_table =
      rw (
        lt-ltb root frames in_root,
        pointer-reserved _ p,
        pointer-leaf _ p,
        pointer-clean _ p,
        lt-ltb
            (ppn (first_entry mem root va)) frames in_table,
      )

  -- a walk at an entry of the root that isn't valid
  pub no_entry : root < frames → valid (first_entry mem root va) ≡ false
      → walk mem frames root va access ≡ record { result = Err fault.Page; reads = entry_address root (vpn_1 va) ∷ [] }
  unfolding walk from_entry first_level
  no_entry in_root e = rw (lt-ltb root frames in_root, invalid (first_entry mem root va) e)

-- from equal entries on
table_same : (m n : Mem) (frames va : ℕ) (access : Access) (at table : ℕ)
    → word n table (vpn_0 va) ≡ word m table (vpn_0 va)
    → from_table n frames va access at table ≡ from_table m frames va access at table
unfolding from_table
table_same m n frames va access at table same = rw (same)

from_same : (m n : Mem) (frames va : ℕ) (access : Access) (at entry : ℕ) (end : Option (Result ℕ WalkFault))
    → word n (ppn entry) (vpn_0 va) ≡ word m (ppn entry) (vpn_0 va)
    → from_entry n frames va access at entry end ≡ from_entry m frames va access at entry end
unfolding from_entry
from_same m n frames va access at entry (Some result) same = refl
from_same m n frames va access at entry None same = table_same m n frames va access at (ppn entry) same

-- the walk from the root's entry on
abbrev from_root : (mem : Mem) (frames root va : ℕ) (access : Access) → ℕ → Walk
from_root mem frames root va access entry =
    from_entry mem frames va access (entry_address root (vpn_1 va)) entry (first_level frames va access entry)

walk_is : (mem : Mem) (frames root va : ℕ) (access : Access) → root < frames
    → walk mem frames root va access ≡ from_root mem frames root va access (first_entry mem root va)
unfolding walk
walk_is mem frames root va access in_root = rw (lt-ltb root frames in_root)

-- a walk sees two words of memory
pub walk_same : (m n : Mem) (frames root va : ℕ) (access : Access) → root < frames
    → first_entry n root va ≡ first_entry m root va
    → word n (ppn (first_entry m root va)) (vpn_0 va) ≡ word m (ppn (first_entry m root va)) (vpn_0 va)
    → walk n frames root va access ≡ walk m frames root va access
walk_same m n frames root va access in_root first second =
    walk_is n frames root va access in_root
    ∙ ap (from_root n frames root va access) first
    ∙ from_same m n frames va access (entry_address root (vpn_1 va)) (first_entry m root va)
    (first_level frames va access (first_entry m root va)) second
    ∙ sym (walk_is m frames root va access in_root)

-- ---- addresses

pub vpn_1-below : (va : ℕ) → vpn_1 va < 1024
unfolding vpn_1
vpn_1-below va = omega arith

pub vpn_0-below : (va : ℕ) → vpn_0 va < 1024
unfolding vpn_0
vpn_0-below va = omega arith

pub other_place : (at va : ℕ) → at < 2 ^ 32 → va < 2 ^ 32 → at / 4096 ≢ va / 4096 → vpn_1 at ≡ vpn_1 va
    → vpn_0 at ≢ vpn_0 va
unfolding vpn_0 vpn_1
other_place at va at_fits fits apart region place = apart (omega arith)

-- ---- page tables as they were

pub walk_by_tables : (old new : Mem) (frames root va : ℕ) (access : Access) → root < frames
    → SameTables old new root
    → walk new frames root va access ≡ walk old frames root va access
walk_by_tables old new frames root va access in_root same =
    let first : first_entry new root va ≡ first_entry old root va = same.in_root (vpn_1 va) (vpn_1-below va) in
    elim (cases_Bool (valid (first_entry old root va))) [
      | inl table ↦
          walk_same old new frames root va access in_root first
          (ap (λ (e : ℕ). word new (ppn e) (vpn_0 va)) (sym first)
          ∙ same.in_tables (vpn_1 va) (vpn_0 va) (vpn_1-below va) (vpn_0-below va) table)
      | inr none ↦
          no_entry new frames root va access in_root (ap valid first ∙ none)
          ∙ sym (no_entry old frames root va access in_root none)
    ]
