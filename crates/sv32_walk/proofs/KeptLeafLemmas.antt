-- A leaf that one walk found answers every access to its page as the walk does.
use Rattle.std.proofs.Common.{arith, ◌≡◌, ◌∙◌, sym, refl, ap, ℕ, ◌<◌, ◌/◌, ◌%◌, ◌^◌, lt-ltb}
use Rattle.std.specs.Prelude.{Option, Some, None, Result, nat_eq}
use Rattle.phys_mem.specs.Mem.{Mem, word}
use Rattle.sv32_walk.specs.declared.access.Access.{Access}
use Rattle.sv32_walk.specs.declared.access.Access.TheVariants.{Fetch, Load, Store}
use Rattle.sv32_walk.specs.declared.access.WalkFault.{WalkFault}
use Rattle.sv32_walk.specs.PageTableEntry.{bit, ppn, with_ppn, permits, vpn_0, vpn_1}
use Rattle.sv32_walk.specs.Walk.{Walk, leaf, superpage, first_level, from_table, from_entry, entry_address, walk}
use Rattle.sv32_walk.specs.Translation.{first_entry, second_entry, big_frame, HasLeaf, big, small}
use Rattle.sv32_walk.specs.KeptLeaf.{end_at, IsLeafOf}
use Rattle.sv32_walk.proofs.EntryLemmas.{with_ppn-own}
use Rattle.sv32_walk.proofs.WalkLemmas.{big_end, page_end, leaf_in_words}

-- ---- an entry with another frame permits what it did

-- its bits below the frame's
same_bit : (entry frame place : ℕ) → with_ppn entry frame / 2 ^ place % 2 ≡ entry / 2 ^ place % 2
    → bit (with_ppn entry frame) place ≡ bit entry place
unfolding bit
same_bit entry frame place e = ap (λ (n : ℕ). nat_eq n 1) e

module _ (entry frame : ℕ) where
  readable_kept : bit (with_ppn entry frame) 1 ≡ bit entry 1
  unfolding with_ppn
  readable_kept = same_bit entry frame 1 (omega arith)

  writable_kept : bit (with_ppn entry frame) 2 ≡ bit entry 2
  unfolding with_ppn
  writable_kept = same_bit entry frame 2 (omega arith)

  executable_kept : bit (with_ppn entry frame) 3 ≡ bit entry 3
  unfolding with_ppn
  executable_kept = same_bit entry frame 3 (omega arith)

  user_kept : bit (with_ppn entry frame) 4 ≡ bit entry 4
  unfolding with_ppn
  user_kept = same_bit entry frame 4 (omega arith)

  accessed_kept : bit (with_ppn entry frame) 6 ≡ bit entry 6
  unfolding with_ppn
  accessed_kept = same_bit entry frame 6 (omega arith)

  dirty_kept : bit (with_ppn entry frame) 7 ≡ bit entry 7
  unfolding with_ppn
  dirty_kept = same_bit entry frame 7 (omega arith)

  permits_kept : (access : Access) → permits access (with_ppn entry frame) ≡ permits access entry
  permits_kept Fetch = rw (user_kept, executable_kept, accessed_kept) refl
  permits_kept Load = rw (user_kept, readable_kept, accessed_kept) refl
  permits_kept Store = rw (user_kept, writable_kept, accessed_kept, dirty_kept) refl

-- the end at a leaf whose page lies in memory
end_again : (frames : ℕ) (access : Access) (entry frame : ℕ) → frame < frames
    → leaf frames access entry frame ≡ end_at access (with_ppn entry frame)
unfolding leaf
end_again frames access entry frame within = rw (lt-ltb frame frames within, permits_kept entry frame access) refl

-- ---- an address's indices are its page's

pub same_region : (at va : ℕ) → at / 4096 ≡ va / 4096 → vpn_1 at ≡ vpn_1 va
unfolding vpn_1
same_region at va e = omega arith

pub same_place : (at va : ℕ) → at / 4096 ≡ va / 4096 → vpn_0 at ≡ vpn_0 va
unfolding vpn_0
same_place at va e = omega arith

-- ---- the walk of another access at the same address

module _ (mem : Mem) (frames root va : ℕ) (access other : Access) where
  again : (l : ℕ) → HasLeaf mem frames root va access l
      → (walk mem frames root va other).result ≡ end_at other l
  again l (big b within is) =
      big_end mem frames root va access other b
      ∙ end_again frames other (first_entry mem root va) (big_frame mem root va) within
      ∙ ap (end_at other) (sym is)
  again l (small p within is) =
      page_end mem frames root va access other p ∙ end_again frames other (second_entry mem root va) (ppn (second_entry mem root va)) within
      ∙ ap (end_at other) (with_ppn-own (second_entry mem root va) ∙ sym is)

same_first : (frames a b : ℕ) (access : Access) (entry : ℕ) → vpn_0 a ≡ vpn_0 b
    → first_level frames a access entry ≡ first_level frames b access entry
unfolding first_level superpage
same_first frames a b access entry e = rw e refl

same_rest : (mem : Mem) (frames a b : ℕ) (access : Access) (read entry : ℕ)
    (end : Option (Result ℕ WalkFault)) → vpn_0 a ≡ vpn_0 b
    → from_entry mem frames a access read entry end ≡ from_entry mem frames b access read entry end
unfolding from_entry from_table
same_rest mem frames a b access read entry (Some result) e = refl
same_rest mem frames a b access read entry None e = rw e refl

-- all addresses of a page have one walk
pub same_walk : (mem : Mem) (frames root a b : ℕ) (access : Access) → a / 4096 ≡ b / 4096
    → walk mem frames root a access ≡ walk mem frames root b access
unfolding walk
same_walk mem frames root a b access e =
    rw (
      same_region a b e,
      same_first frames a b access (word mem root (vpn_1 b)) (same_place a b e),
      same_rest mem frames a b access (entry_address root (vpn_1 b)) (word mem root (vpn_1 b))
          (first_level frames b access (word mem root (vpn_1 b))) (same_place a b e),
    ) refl

-- the walk of any access to the page
pub walk_again : (mem : Mem) (frames root page l va : ℕ) (access : Access) → IsLeafOf mem frames root page l
    → va / 4096 ≡ page
    → (walk mem frames root va access).result ≡ end_at access l
walk_again mem frames root page l va access is in_page =
    ap (λ (w : Walk). w.result) (same_walk mem frames root va is.at access (in_page ∙ sym is.in_page))
    ∙ again mem frames root is.at is.access access l ((leaf_in_words mem frames root is.at is.access l).0 is.walked)

frame_within : (mem : Mem) (frames root va : ℕ) (access : Access) (l : ℕ)
    → HasLeaf mem frames root va access l → ppn l < frames
unfolding ppn with_ppn
frame_within mem frames root va access l (big b within is) = omega (arith, within, is)
frame_within mem frames root va access l (small p within is) = omega (arith, within, is)

-- the page lies in memory
pub leaf_within : (mem : Mem) (frames root page l : ℕ) → IsLeafOf mem frames root page l → ppn l < frames
leaf_within mem frames root page l is =
    frame_within mem frames root is.at is.access l ((leaf_in_words mem frames root is.at is.access l).0 is.walked)
