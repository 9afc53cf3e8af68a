-- What a domain's frames are used as: who holds which frame, and for which entry of the page tables it accounts.
use Rattle.std.specs.Prelude.{◌≡◌, ◌≢◌, ℕ, Bool, true, false, not, ◌&&◌, nat_lt, List, [], ◌∷◌, ◌++◌, map, filter, slice_get, slice_index_or, Option, Some, None}
use Rattle.tp_base.specs.Rights.{are_good}
use Rattle.phys_mem.specs.Mem.{Mem, word}
use Rattle.sv32_walk.specs.PageTableEntry.{valid, table_word, leaf_word, vpn_0, vpn_1}
use Rattle.frame_colours.specs.Colours.{Share, has, has_colour, pool}
use Rattle.cap_table.specs.declared.Cap.{Cap}
use Rattle.cap_table.specs.declared.Cap.TheVariants as cap
use Rattle.cap_table.specs.Slots.{Slots}

-- a frame that stays as it is; a page, whether capabilities share it, and at which place of the root and of a table it is
-- mapped; a table, and at which place of the root it is installed
pub data Claim : Type 0 where
  Nothing : Claim
  Fixed : ℕ → Claim
  Leaf : Bool → ℕ → Option (ℕ × ℕ) → Claim
  Directory : ℕ → Option ℕ → Claim

unfoldable pub frame_of : Claim → Option ℕ
frame_of Claim.Nothing = None
frame_of (Claim.Fixed f) = Some f
frame_of (Claim.Leaf b f w) = Some f
frame_of (Claim.Directory f w) = Some f

-- whether other claims may name the same frame
unfoldable pub is_shared : Claim → Bool
is_shared (Claim.Leaf b f w) = b
is_shared _ = false

unfoldable pub leaf_at : Claim → Option (ℕ × ℕ)
leaf_at (Claim.Leaf b f w) = w
leaf_at _ = None

-- ---- what capabilities claim

-- the places of the entries of an address, in the root and in its table
unfoldable pub entry_places : Option ℕ → Option (ℕ × ℕ)
entry_places None = None
entry_places (Some va) = Some (vpn_1 va, vpn_0 va)

unfoldable pub region_of : Option ℕ → Option ℕ
region_of None = None
region_of (Some va) = Some (vpn_1 va)

unfoldable pub claim_of : Option Cap → Claim
claim_of (Some (cap.Frame f rights mapped)) = Claim.Leaf true f (entry_places mapped)
claim_of (Some (cap.Table f installed)) = Claim.Directory f (region_of installed)
claim_of _ = Claim.Nothing

-- ---- what a domain has for good: its share of memory, its root, what is claimed for good (the frames of its kernel clone,
-- the root, the tables that it began with, and the pages that no capability names), which calls it may make, and its number
pub record Estate : Type 0 where
  pub share : Share
  pub root : ℕ
  pub fixed : List Claim
  pub calls : ℕ  -- a bit each
  pub number : ℕ

-- whether a frame of memory is the domain's own
abbrev pub is_mine : Estate → ℕ → Bool
is_mine e f = nat_lt f e.share.frames && has_colour e.share f

-- all claims: those of its capabilities by slot, then those for good
unfoldable pub all_claims : Estate → Slots → List Claim
all_claims e caps = map claim_of caps ++ e.fixed

abbrev pub Claims : Type 0
Claims = ℕ → Claim

unfoldable pub claims : Estate → Slots → Claims
claims e caps i = slice_index_or (all_claims e caps) i Claim.Nothing

-- ---- what is free, computed anew at each use

abbrev pub push_frame : Option ℕ → List ℕ → List ℕ
push_frame None fs = fs
push_frame (Some f) fs = f ∷ fs

unfoldable pub frames_in : List Claim → List ℕ
frames_in [] = []
frames_in (k ∷ ks) = push_frame (frame_of k) (frames_in ks)

-- whether some claim names a frame
unfoldable pub is_named : Estate → Slots → ℕ → Bool
is_named e caps f = has (frames_in (all_claims e caps)) f

-- the domain's frames that no claim names, ascending
unfoldable pub free_frames : Estate → Slots → List ℕ
free_frames e caps = filter (λ f. not (is_named e caps f)) (pool e.share)

unfoldable pub least_free : Estate → Slots → Option ℕ
least_free e caps = slice_get (free_frames e caps) 0

-- ---- the facts of frames and page tables

-- an entry of the root points to the table that a claim says is installed there
pub record IsTable (k : Claims) (entry r : ℕ) : Type 0 where
  pub slot : ℕ
  pub frame : ℕ
  pub claim : k slot ≡ Claim.Directory frame (Some r)
  pub entry_is : entry ≡ table_word frame

-- an entry of a table is the leaf of the page that a claim says is mapped there
pub record IsLeaf (k : Claims) (entry r t : ℕ) : Type 0 where
  pub slot : ℕ
  pub by_cap : Bool
  pub frame : ℕ
  pub rights : ℕ
  pub claim : k slot ≡ Claim.Leaf by_cap frame (Some (r, t))
  pub good : are_good rights ≡ true
  pub entry_is : entry ≡ leaf_word frame rights

-- where a page is mapped there is a table, and its entry is the page's leaf
pub record IsMapped (k : Claims) (m : Mem) (g r t : ℕ) : Type 0 where
  pub slot : ℕ
  pub frame : ℕ
  pub rights : ℕ
  pub claim : k slot ≡ Claim.Directory frame (Some r)
  pub good : are_good rights ≡ true
  pub entry_is : word m frame t ≡ leaf_word g rights

-- each frame has one claim alone, or is a page that capabilities share; valid entries of the page tables are those that
-- claims account for, and the other way round; and a table that is not installed reads zero
pub record Facts (root : ℕ) (own : ℕ → Bool) (k : Claims) (m : Mem) : Type 0 where
  pub root_slot : ℕ
  pub root_is : k root_slot ≡ Claim.Fixed root
  pub owned : (i f : ℕ) → frame_of (k i) ≡ Some f → own f ≡ true
  pub apart : (i j f : ℕ) → i ≢ j → frame_of (k i) ≡ Some f → frame_of (k j) ≡ Some f
      → (is_shared (k i) ≡ true) × (is_shared (k j) ≡ true)
  pub once : (i j r t : ℕ) → i ≢ j → leaf_at (k i) ≡ Some (r, t) → leaf_at (k j) ≡ Some (r, t) → ⊥
  pub tables : (r : ℕ) → valid (word m root r) ≡ true → IsTable k (word m root r) r
  pub leaves : (i f r t : ℕ) → k i ≡ Claim.Directory f (Some r) → valid (word m f t) ≡ true
      → IsLeaf k (word m f t) r t
  pub installed : (i f r : ℕ) → k i ≡ Claim.Directory f (Some r) → word m root r ≡ table_word f
  pub mapped : (i : ℕ) (b : Bool) (g r t : ℕ) → k i ≡ Claim.Leaf b g (Some (r, t)) → IsMapped k m g r t
  pub blank : (i f : ℕ) → k i ≡ Claim.Directory f None → (t : ℕ) → word m f t ≡ 0

-- what is claimed for good: no other claim may name those frames, and each page that stays lies in the region of a table
-- that stays
pub record IsEstate (e : Estate) : Type 0 where
  pub alone : (n : ℕ) → is_shared (slice_index_or e.fixed n Claim.Nothing) ≡ false
  pub stays : (n : ℕ) (b : Bool) (g r t : ℕ)
      → slice_index_or e.fixed n Claim.Nothing ≡ Claim.Leaf b g (Some (r, t))
      → (j : ℕ) × (f : ℕ) × (slice_index_or e.fixed j Claim.Nothing ≡ Claim.Directory f (Some r))
