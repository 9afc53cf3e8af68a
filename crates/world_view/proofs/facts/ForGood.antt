-- What is claimed for good stays the domain's own: no capability names it, and it is never free.
use Rattle.std.proofs.Common.{◌≡◌, ℕ, ◌+◌, ◌<◌, ◌≤◌, false, true≢false, not, Option, Some, None, ◌∷◌, ◌++◌, map, length, get_or, All, refl, ap, sym, ◌∙◌, inl, inr, arith}
use Rattle.std.proofs.lemmas.Bool.{cases_lt}
use Rattle.std.proofs.lemmas.List.{get_or_past}
use Rattle.std.proofs.lemmas.List.Elements.{All-cons, All-append, All-map, All-weaker, All-from_get_or}
use Rattle.std.proofs.lemmas.Option.{none-some}
use Rattle.phys_mem.specs.Mem.{Mem}
use Rattle.frame_colours.specs.Colours.{has, pool}
use Rattle.cap_table.specs.declared.Cap.{Cap}
use Rattle.cap_table.specs.declared.Cap.TheVariants as cap
use Rattle.cap_table.specs.Slots.{cap_at, page_of, table_of}
use Rattle.call_table.specs.Domain.{Dom}
use Rattle.call_table.specs.Claims.{Claim, Estate, frame_of, is_shared, claim_of, claims, is_named, free_frames, IsEstate}
use Rattle.call_table.specs.Laws.{Kept}
use Rattle.call_table.proofs.ClaimLawsSlots.{claims_at, claims_fixed, names}
use Rattle.hardware_check.specs.Hardware.{Hardware}
use Rattle.image_check.specs.Own.{Own}
use Rattle.image_check.specs.Image.{Image, own_of}
use Rattle.image_check.specs.Pages.{frames_in}
use Rattle.world_view.specs.Frames as frames
use Rattle.world_view.specs.Frames.{root_of, table_frame, page_frame}
use Rattle.world_view.specs.Kernel.{estate, layout, first_regions, kept_pages, fixed_claims, frames_for_good}
use Rattle.world_view.specs.Event.{Storage}
use Rattle.world_view.specs.Relations.{IsDomain, HasFacts, IsForGood}
use Rattle.world_view.proofs.opening.Separate.{Separated}
use Rattle.world_view.proofs.actions.TableLaws.{mine_own}
use Rattle.world_view.proofs.opening.OpeningClaims.{fix_frame, fix_table, fix_page, has_filter}
use Rattle.world_view.proofs.opening.OpeningFacts.{kernel_of}

-- ---- what a claim for good means

-- a capability that names a frame claims it
page_claimed : (c : Option Cap) (f : ℕ) → page_of c ≡ Some f → frame_of (claim_of c) ≡ Some f
unfolding frame_of claim_of
page_claimed None f is = absurd (none-some f is)
page_claimed (Some (cap.Frame g rights mapped)) f is = is
page_claimed (Some (cap.Table g installed)) f is = absurd (none-some f is)
page_claimed (Some (cap.Irq line)) f is = absurd (none-some f is)

table_claimed : (c : Option Cap) (f : ℕ) → table_of c ≡ Some f → frame_of (claim_of c) ≡ Some f
unfolding frame_of claim_of
table_claimed None f is = absurd (none-some f is)
table_claimed (Some (cap.Frame g rights mapped)) f is = absurd (none-some f is)
table_claimed (Some (cap.Table g installed)) f is = is
table_claimed (Some (cap.Irq line)) f is = absurd (none-some f is)

-- some claim for good names the frame
abbrev pub IsClaimed : Estate → ℕ → Type 0
IsClaimed e f = (n : ℕ) × (frame_of (get_or e.fixed n Claim.Nothing) ≡ Some f)

module _ (e : Estate) (sound : IsEstate e) (d : Dom) (m : Mem) (kept : Kept e d m) (f : ℕ) (claimed : IsClaimed e f) where
  slot : ℕ
  slot = 64 + claimed.0

  claim : claims e d.caps slot ≡ get_or e.fixed claimed.0 Claim.Nothing
  unfolding slot
  claim = claims_fixed e d.caps kept.slots claimed.0

  named : frame_of (claims e d.caps slot) ≡ Some f
  named = ap frame_of claim ∙ claimed.1

  -- then no slot claims it
  none : (i : ℕ) → frame_of (claim_of (cap_at d.caps i)) ≡ Some f → ⊥
  unfolding slot frame_of claim_of
  none i is = elim (cases_lt i 64) [
    | inl below ↦
        let there = ap frame_of (claims_at e d.caps kept.slots i below) ∙ is in
        let shared = (kept.facts.apart i slot f (omega (arith, below)) there named).1 in
        true≢false (sym shared ∙ ap is_shared claim ∙ sound.alone claimed.0)
    | inr past ↦
        let slots = kept.slots in
        none-some f (sym (ap (λ (c : Option Cap). frame_of (claim_of c)) (get_or_past d.caps i None (omega (arith, past, slots)))) ∙ is)
  ]

  -- nor is it free
  taken : has (free_frames e d.caps) f ≡ false
  unfolding free_frames
  taken = has_filter (λ g. not (is_named e d.caps g)) (pool e.share) f ∙ rw (names e d.caps f slot named) refl

module _ (p : Hardware) (o : Own) where
  pub good : IsEstate (estate p o) → (d : Dom) (s : Storage) → HasFacts p o d s → (f : ℕ)
      → IsClaimed (estate p o) f → IsForGood p o d f
  good sound d s facts f claimed = record {
    own =
        mine_own p o f
        (facts.facts.owned (slot (estate p o) sound d s.mem facts f claimed) f
        (named (estate p o) sound d s.mem facts f claimed));
    unnamed = record {
      no_page = λ i is. none (estate p o) sound d s.mem facts f claimed i (page_claimed (cap_at d.caps i) f is);
      no_table = λ i is. none (estate p o) sound d s.mem facts f claimed i (table_claimed (cap_at d.caps i) f is);
    };
    taken = taken (estate p o) sound d s.mem facts f claimed;
  }

  -- ---- what is claimed for good

  module _ (enough : frames_in o.segments ≤ length (frames.pool p o)) where
    abbrev Claimed : ℕ → Type 0
    Claimed f = (n : ℕ) × (frame_of (get_or (fixed_claims p o) n Claim.Nothing) ≡ Some f)

    at_place : (n : ℕ) → n < 5 → Claimed (frames.pool_frame p o n)
    unfolding frame_of
    at_place n below = (n, ap frame_of (fix_frame p o enough n below))

    tables_claimed : All Claimed (map (table_frame p o) (first_regions o))
    unfolding frame_of
    tables_claimed =
        All-map Claimed (table_frame p o) (first_regions o)
        (All-from_get_or (λ r. Claimed (table_frame p o r)) (first_regions o) 0
        (λ j below. (5 + j, ap frame_of (fix_table p o enough j below))))

    pages_claimed : All Claimed (map (page_frame p o) (kept_pages o))
    unfolding frame_of
    pages_claimed =
        All-map Claimed (page_frame p o) (kept_pages o)
        (All-from_get_or (λ n. Claimed (page_frame p o n)) (kept_pages o) 0
        (λ j below. (5 + length (first_regions o) + j, ap frame_of (fix_page p o enough j below))))

    pub all_claimed : All (IsClaimed (estate p o)) (frames_for_good p o)
    unfolding estate layout
    all_claimed =
        let tables = map (table_frame p o) (first_regions o) in
        let pages = map (page_frame p o) (kept_pages o) in
        let rest = tables ++ pages in
        let from_root = root_of p o ∷ rest in
        let from_data = frames.pool_frame p o 3 ∷ from_root in
        let from_stack = frames.pool_frame p o 2 ∷ from_data in
        let from_more = frames.pool_frame p o 1 ∷ from_stack in
        All-cons Claimed (frames.pool_frame p o 0) from_more (at_place 0 (omega arith))
        (All-cons Claimed (frames.pool_frame p o 1) from_stack (at_place 1 (omega arith))
        (All-cons Claimed (frames.pool_frame p o 2) from_data (at_place 2 (omega arith))
        (All-cons Claimed (frames.pool_frame p o 3) from_root (at_place 3 (omega arith))
        (All-cons Claimed (root_of p o) rest (at_place 4 (omega arith)) (All-append Claimed tables pages tables_claimed pages_claimed)))))

-- of every domain of which the facts hold
module _ (i : Image) (r : Separated i) (d : ℕ) (is : IsDomain i d) where
  pub kept_for_good : (x : Dom) (s : Storage) → HasFacts i.all.hardware (own_of i d) x s
      → All (IsForGood i.all.hardware (own_of i d) x) (frames_for_good i.all.hardware (own_of i d))
  kept_for_good x s facts =
      let p = i.all.hardware in
      let o = own_of i d in
      let sound = (kernel_of i r d is).has_estate in
      All-weaker (IsClaimed (estate p o)) (IsForGood p o x) (good p o sound x s facts) (frames_for_good p o) (all_claimed p o (r.enough d is))
