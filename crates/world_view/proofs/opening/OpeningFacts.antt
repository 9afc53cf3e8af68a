-- What the kernel has of a domain, and that its facts hold of the memory that the machine opens with.
use Rattle.std.proofs.Common.{◌≡◌, ℕ, suc, ◌+◌, ◌*◌, ◌/◌, ◌%◌, ◌^◌, ◌<◌, ◌≤◌, Bool, true, false, true≢false, ◌≢◌, List, [], ◌∷◌, length, get_or, Option, Some, None, inl, inr, refl, ap, sym, subst, ◌∙◌, arith}
use Rattle.std.specs.Prelude.{nat_le, nat_lt}
use Rattle.std.proofs.lemmas.Bool.{cases_Bool, cases_lt, ltb-true, and_parts}
use Rattle.std.proofs.lemmas.Option.{none-some, same_Some}
use Rattle.tp_base.specs.Table.{empty, at}
use Rattle.phys_mem.specs.Mem.{Mem, Frame, word}
use Rattle.sv32_walk.specs.PageTableEntry.{valid, table_word, leaf_word, vpn_0, vpn_1}
use Rattle.sv32_walk.proofs.WordLemmas.{valid-zero}
use Rattle.kernel_clone.specs.Footprints.{IsLayout}
use Rattle.call_table.specs.Claims.{Claim, Claims, frame_of, is_shared, leaf_at, entry_places, claims, IsTable, IsLeaf, IsMapped, Facts, IsEstate}
use Rattle.call_table.specs.Domain as domain
use Rattle.call_table.specs.Laws.{Kept}
use Rattle.hardware_check.specs.Hardware.{Hardware, IsHardware}
use Rattle.image_check.specs.Own.{Segment, Own, no_segment}
use Rattle.image_check.specs.Laws.{IsSegment, IsOwn}
use Rattle.image_check.specs.Image.{Image, own_of}
use Rattle.image_check.specs.Pages.{has_page, has_region, frames_in}
use Rattle.world_view.specs.Frames.{pool, pool_frame, root_of, table_frame, page_frame, own_frame}
use Rattle.world_view.specs.Opening.{root_entry, rights_in, leaf_with, leaf_entry, placed}
use Rattle.world_view.specs.Kernel.{first_regions, kept_pages, table_claim, fixed_claims, first_slots, estate, layout, opening_dom}
use Rattle.world_view.specs.Cost.{own_colour}
use Rattle.world_view.specs.Machine.{opening, alone_opening}
use Rattle.world_view.specs.Relations.{IsDomain, IsKernel, AreParties, HasFacts}
use Rattle.world_view.proofs.opening.Counts.{is_page, rights_there, rights_region, rights_are_good}
use Rattle.world_view.proofs.opening.PoolLaws.{pool_own, pool_inside}
use Rattle.world_view.proofs.opening.Separate.{Separated}
use Rattle.world_view.proofs.touches.Hierarchies.{clone_is, sharing_is}
use Rattle.world_view.proofs.facts.FactsSame.{facts_same}
use Rattle.world_view.proofs.opening.OpeningLaws.{at-tabled_past, root_whole, table_whole, root_words, table_words, root_some, root_is, opening_frames}
use Rattle.world_view.proofs.opening.OpeningClaims.{Fix, fix, fix_table, region_at, region_place, kept_at, Holds, holds_once, Case, case, place, stands, slots_long, frames_once, root_slot, table_slot, page_slot}

-- ---- pages

-- a page of a segment is below the last of the address space, and has rights
pub page_small : (ss : List Segment) (n : ℕ) → ((k : ℕ) → IsSegment (get_or ss k no_segment))
    → is_page ss n ≡ true → n < 2 ^ 20
unfolding is_page
page_small [] n each there = absurd (true≢false (sym there))
page_small (s ∷ ss) n each there =
    elim (cases_Bool (has_page s n)) [
      | inl here ↦
          let high = ltb-true n (s.page + s.pages) (and_parts (nat_le s.page n) (nat_lt n (s.page + s.pages)) here).1 in
          let most = (each 0).page in
          omega (arith, high, most)
      | inr elsewhere ↦ page_small ss n (λ k. each (suc k)) (rw elsewhere at there)
    ]

pub page_rights : (ss : List Segment) (n : ℕ) → is_page ss n ≡ true → (r : ℕ) × (rights_in ss n ≡ Some r)
unfolding is_page rights_in
page_rights [] n there = absurd (true≢false (sym there))
page_rights (s ∷ ss) n there =
    elim (cases_Bool (has_page s n)) [
      | inl here ↦ (s.rights, rw here refl)
      | inr elsewhere ↦ let rest = page_rights ss n (rw elsewhere at there) in (rest.0, rw elsewhere rest.1)
    ]

-- the places of a page in the root and in its table
page_at : (n : ℕ) → n < 2 ^ 20 → entry_places (Some (n * 4096)) ≡ Some (n / 1024, n % 1024)
unfolding entry_places vpn_1 vpn_0
page_at n small =
    let first : n * 4096 / 2 ^ 22 % 2 ^ 10 ≡ n / 1024 = omega (arith, small) in
    let second : n * 4096 / 2 ^ 12 % 2 ^ 10 ≡ n % 1024 = omega (arith, small) in
    rw (first, second) refl

leaf_is : (p : Hardware) (o : Own) (n : ℕ) (r : ℕ) → rights_in o.segments n ≡ Some r
    → leaf_entry p o n ≡ leaf_word (page_frame p o n) r
unfolding leaf_entry leaf_with
leaf_is p o n r e = rw e refl

-- a valid entry for a page is that of one that is there
leaf_there : (p : Hardware) (o : Own) (n : ℕ) (v : Option ℕ) → rights_in o.segments n ≡ v
    → valid (leaf_with p o n v) ≡ true → (r : ℕ) × (rights_in o.segments n ≡ Some r)
unfolding leaf_with
leaf_there p o n None e is_valid = absurd (true≢false (sym is_valid ∙ valid-zero))
leaf_there p o n (Some r) e is_valid = (r, e)

-- ---- the estate and the clone

module _ (p : Hardware) (o : Own) (enough : frames_in o.segments ≤ length (pool p o)) (sound : IsOwn o) where
  fix_alone : (n : ℕ) (c : Claim) → Fix p o n c → is_shared c ≡ false
  unfolding is_shared
  fix_alone n c (Fix.nothing e) = ap is_shared e
  fix_alone n c (Fix.fixed low e) = ap is_shared e
  fix_alone n c (Fix.table j a b e) = ap is_shared e
  fix_alone n c (Fix.page j a b e) = ap is_shared e

  -- a page lies in the region of a table
  pub page_region : (n : ℕ) → is_page o.segments n ≡ true → has_region o.segments (n / 1024) ≡ true
  page_region n there = let has = page_rights o.segments n there in rights_region o.segments n has.0 has.1

  pub region_low : (n : ℕ) → is_page o.segments n ≡ true → n / 1024 < 1024
  region_low n there = let small = page_small o.segments n sound.segments there in omega (arith, small)

  fix_stays : (n : ℕ) (c : Claim) (b : Bool) (g r t : ℕ) → Fix p o n c → c ≡ Claim.Leaf b g (Some (r, t))
      → (j : ℕ) × (f : ℕ) × (get_or (fixed_claims p o) j Claim.Nothing ≡ Claim.Directory f (Some r))
  unfolding leaf_at
  fix_stays n c b g r t (Fix.nothing e) is = absurd (none-some _ (sym (ap leaf_at e) ∙ ap leaf_at is))
  fix_stays n c b g r t (Fix.fixed low e) is = absurd (none-some _ (sym (ap leaf_at e) ∙ ap leaf_at is))
  fix_stays n c b g r t (Fix.table j a below e) is = absurd (none-some _ (sym (ap leaf_at e) ∙ ap leaf_at is))
  fix_stays n c b g r t (Fix.page j a below e) is =
      let m = get_or (kept_pages o) j 0 in
      let there = (kept_at o j below).1 in
      let same = same_Some _ _ (sym (page_at m (page_small o.segments m sound.segments there)) ∙ sym (ap leaf_at e) ∙ ap leaf_at is) in
      let region : m / 1024 ≡ r = ap (λ (w : ℕ × ℕ). w.0) same in
      let at = region_place o (m / 1024) (page_region m there) (region_low m there) in (
        5 + at.0,
        table_frame p o (m / 1024),
        fix_table p o enough at.0 at.1 ∙ ap (table_claim p o) at.2
            ∙ ap (λ (q : ℕ). Claim.Directory (table_frame p o (m / 1024)) (Some q)) region,
      )

  is_estate : IsEstate (estate p o)
  unfolding estate
  is_estate = record {
    alone = λ n. fix_alone n _ (fix p o enough n);
    stays = λ n b g r t e. fix_stays n _ b g r t (fix p o enough n) e;
  }

  module _ (h : IsHardware p) where
    frame_no : (n : ℕ) → n < length (pool p o) → pool_frame p o n < 2 ^ 15
    frame_no n within = let inside = pool_inside p o n within in let most = h.most_frames in omega (arith, inside, most)

    is_layout : IsLayout (layout p o)
    unfolding layout
    is_layout =
        clone_is p h (pool_frame p o 0) (pool_frame p o 1) (pool_frame p o 2) (pool_frame p o 3)
        (frame_no 0 (omega (arith, enough))) (frame_no 1 (omega (arith, enough)))
        (frame_no 2 (omega (arith, enough))) (frame_no 3 (omega (arith, enough)))

    pub kernel_is : own_colour o 0 ≡ false → IsKernel p o
    unfolding layout
    kernel_is not_kernel = record {
      has_estate = is_estate;
      has_layout = is_layout;
      text = pool_own p o 0 (omega (arith, enough));
      more_text = pool_own p o 1 (omega (arith, enough));
      stack = pool_own p o 2 (omega (arith, enough));
      data_frame = pool_own p o 3 (omega (arith, enough));
      shares = sharing_is p h o not_kernel;
    }

  -- ---- the facts of the memory in which the domain's tables and pages are placed

  abbrev k : Claims
  k = claims (estate p o) (first_slots p o)

  pub record IsTableOf (f : ℕ) (w : Option ℕ) : Type 0 where
    pub region : ℕ
    pub some : has_region o.segments region ≡ true
    pub low : region < 1024
    pub frame : table_frame p o region ≡ f
    pub installed : Some region ≡ w

  table_of : (i f : ℕ) (c : Claim) (w : Option ℕ) → Case p o i c → c ≡ Claim.Directory f w → IsTableOf f w
  table_of i f c w (Case.nothing e) is = let no : Claim.Nothing ≡ Claim.Directory f w = sym e ∙ is in absurd (cc no)
  table_of i f c w (Case.fixed n a b e) is = let no : Claim.Fixed (pool_frame p o n) ≡ Claim.Directory f w = sym e ∙ is in absurd (cc no)
  table_of i f c w (Case.table j a b e) is =
      let at = region_at o j b in
      let same : table_claim p o (get_or (first_regions o) j 0) ≡ Claim.Directory f w = sym e ∙ is in
      record { region = get_or (first_regions o) j 0; some = at.0; low = at.1; frame = cc same; installed = cc same }
  table_of i f c w (Case.page n b h there e) is =
      let no : Claim.Leaf b (page_frame p o n) (entry_places (Some (n * 4096))) ≡ Claim.Directory f w = sym e ∙ is in absurd (cc no)

  pub record IsPageOf (i r t : ℕ) (c : Claim) : Type 0 where
    pub number : ℕ
    pub there : is_page o.segments number ≡ true
    pub held : Holds o i number
    pub region : number / 1024 ≡ r
    pub index : number % 1024 ≡ t
    pub frame : frame_of c ≡ Some (page_frame p o number)

  page_of : (i r t : ℕ) (c : Claim) → Case p o i c → leaf_at c ≡ Some (r, t) → IsPageOf i r t c
  unfolding leaf_at frame_of
  page_of i r t c (Case.nothing e) is = absurd (none-some _ (sym (ap leaf_at e) ∙ is))
  page_of i r t c (Case.fixed n a b e) is = absurd (none-some _ (sym (ap leaf_at e) ∙ is))
  page_of i r t c (Case.table j a b e) is = absurd (none-some _ (sym (ap leaf_at e) ∙ is))
  page_of i r t c (Case.page n b h there e) is =
      let same : (n / 1024, n % 1024) ≡ (r, t) =
      same_Some _ _
      (sym (page_at n (page_small o.segments n sound.segments there)) ∙ sym (ap leaf_at e) ∙ is) in
      record {
        number = n;
        there = there;
        held = h;
        region = ap (λ (w : ℕ × ℕ). w.0) same;
        index = ap (λ (w : ℕ × ℕ). w.1) same;
        frame = ap frame_of e;
      }

  module _ (m : Mem) where
    pub root_entry_is : (r : ℕ) → has_region o.segments r ≡ true → r < 1024
        → word (placed p o m) (root_of p o) r ≡ table_word (table_frame p o r)
    root_entry_is r some low = root_words p o enough m r low ∙ root_is p o enough r some

    no_entry : (w : ℕ) → w ≡ 0 → valid w ≡ true → ⊥
    no_entry w e is_valid = true≢false (sym is_valid ∙ ap valid e ∙ valid-zero)

    in_root : (r : ℕ) → valid (word (placed p o m) (root_of p o) r) ≡ true
        → IsTable k (word (placed p o m) (root_of p o) r) r
    unfolding word
    in_root r is_valid =
        elim (cases_lt r 1024) [
          | inl low ↦
              let some = root_some p o enough r (ap valid (sym (root_words p o enough m r low)) ∙ is_valid) in
              let slot = table_slot p o enough sound r some low in
              record { slot = slot.0; frame = table_frame p o r; claim = slot.1; entry_is = root_entry_is r some low }
          | inr past ↦ absurd
              (no_entry _
              (ap (λ (x : Frame). at 0 x r) (root_whole p o enough m)
              ∙ at-tabled_past (root_entry p o) 1024 r past) is_valid)
        ]

    -- the entry of a page in the table of its region
    pub page_entry : (n : ℕ) (r : ℕ) → rights_in o.segments n ≡ Some r
        → word (placed p o m) (table_frame p o (n / 1024)) (n % 1024) ≡ leaf_word (page_frame p o n) r
    page_entry n r e =
        let there = rights_there o.segments n r e in
        table_words p o enough m (n / 1024) (n % 1024) (region_low n there) (omega arith) (page_region n there)
        ∙ ap (leaf_entry p o) (let whole : 1024 * (n / 1024) + n % 1024 ≡ n = omega arith in whole) ∙ leaf_is p o n r e

    page_mapped : (n : ℕ) → is_page o.segments n ≡ true
        → IsMapped k (placed p o m) (page_frame p o n) (n / 1024) (n % 1024)
    page_mapped n there =
        let has = page_rights o.segments n there in
        let slot = table_slot p o enough sound (n / 1024) (page_region n there) (region_low n there) in
        record {
          slot = slot.0;
          frame = table_frame p o (n / 1024);
          rights = has.0;
          claim = slot.1;
          good = rights_are_good o n has.0 sound has.1;
          entry_is = page_entry n has.0 has.1;
        }

    leaf_at_page : (n r t : ℕ) → n / 1024 ≡ r → n % 1024 ≡ t → (w : ℕ) → w ≡ leaf_entry p o n → valid w ≡ true
        → IsLeaf k w r t
    unfolding leaf_entry
    leaf_at_page n r t region index w e is_valid =
        let has = leaf_there p o n (rights_in o.segments n) refl (ap valid (sym e) ∙ is_valid) in
        let there = rights_there o.segments n has.0 has.1 in
        let slot = page_slot p o enough sound n there in
        let place : entry_places (Some (n * 4096)) ≡ Some (r, t) =
        page_at n (page_small o.segments n sound.segments there) ∙ rw (region, index) refl in
        record {
          slot = slot.0;
          by_cap = slot.1;
          frame = page_frame p o n;
          rights = has.0;
          claim = slot.2 ∙ ap (Claim.Leaf slot.1 (page_frame p o n)) place;
          good = rights_are_good o n has.0 sound has.1;
          entry_is = e ∙ leaf_is p o n has.0 has.1;
        }

    in_table : (r t : ℕ) → has_region o.segments r ≡ true → r < 1024
        → valid (word (placed p o m) (table_frame p o r) t) ≡ true
        → IsLeaf k (word (placed p o m) (table_frame p o r) t) r t
    unfolding word
    in_table r t some low is_valid =
        elim (cases_lt t 1024) [
          | inl below ↦
              leaf_at_page (1024 * r + t) r t (omega (arith, below)) (omega (arith, below)) _
              (table_words p o enough m r t low below some) is_valid
          | inr past ↦
              absurd (no_entry _
              (ap (λ (x : Frame). at 0 x t) (table_whole p o enough m r low some)
              ∙ at-tabled_past (λ i. leaf_entry p o (1024 * r + i)) 1024 t past) is_valid)
        ]

    own_claim : (i f : ℕ) → frame_of (k i) ≡ Some f → own_frame p o f ≡ true
    own_claim i f e =
        let at = stands p o enough sound i (k i) f (case p o enough sound i) e in
        subst (λ (g : ℕ). own_frame p o g ≡ true) at.1 (pool_own p o (place (case p o enough sound i)) at.0)

    one_page : (i j r t : ℕ) → i ≢ j → leaf_at (k i) ≡ Some (r, t) → leaf_at (k j) ≡ Some (r, t) → ⊥
    one_page i j r t other e f =
        let x = page_of i r t (k i) (case p o enough sound i) e in
        let y = page_of j r t (k j) (case p o enough sound j) f in
        let same : x.number ≡ y.number = omega (arith, x.region, y.region, x.index, y.index) in
        other (holds_once o sound i j x.number x.held (subst (Holds o j) (sym same) y.held))

    root_facts : Facts (root_of p o) (own_frame p o) k (placed p o m)
    unfolding leaf_at frame_of
    root_facts = record {
      root_slot = 64 + 4;
      root_is = root_slot p o enough sound;
      owned = own_claim;
      apart = λ i j f other e g. absurd (other (frames_once p o enough sound i j f e g));
      once = one_page;
      tables = in_root;
      leaves = λ i f r t e.
          let x = table_of i f (k i) (Some r) (case p o enough sound i) e in
          let region = same_Some x.region r x.installed in
          subst (λ (g : ℕ). valid (word (placed p o m) g t) ≡ true → IsLeaf k (word (placed p o m) g t) r t) x.frame
          (subst (λ (q : ℕ). valid (word (placed p o m) (table_frame p o x.region) t) ≡ true
          → IsLeaf k (word (placed p o m) (table_frame p o x.region) t) q t) region
          (in_table x.region t x.some x.low));
      installed = λ i f r e.
          let x = table_of i f (k i) (Some r) (case p o enough sound i) e in
          ap (word (placed p o m) (root_of p o)) (sym (same_Some x.region r x.installed))
          ∙ root_entry_is x.region x.some x.low ∙ ap table_word x.frame;
      mapped = λ i b g r t e.
          let x = page_of i r t (k i) (case p o enough sound i) (ap leaf_at e) in
          let frame : page_frame p o x.number ≡ g = same_Some _ _ (sym x.frame ∙ ap frame_of e) in
          subst (λ (f : ℕ). IsMapped k (placed p o m) f r t) frame
          (subst (λ (q : ℕ). IsMapped k (placed p o m) (page_frame p o x.number) q t) x.region
          (subst (λ (u : ℕ). IsMapped k (placed p o m) (page_frame p o x.number) (x.number / 1024) u)
          x.index (page_mapped x.number x.there)));
      blank = λ i f e t. let x = table_of i f (k i) None (case p o enough sound i) e in absurd (none-some x.region (sym x.installed));
    }

    pub placed_facts : Kept (estate p o) (opening_dom p o) (placed p o m)
    unfolding estate opening_dom domain.dom_at_entry
    placed_facts = record { slots = slots_long p o enough sound; facts = root_facts }

-- ---- all domains

module _ (i : Image) (r : Separated i) where
  pub opening_facts : (d : ℕ) → IsDomain i d
      → HasFacts i.all.hardware (own_of i d) (opening_dom i.all.hardware (own_of i d)) (opening i).storage
  unfolding estate alone_opening
  opening_facts d is =
      let p = i.all.hardware in
      let o = own_of i d in
      let kept = placed_facts p o (r.enough d is) (r.sound d) empty in
      record {
        slots = kept.slots;
        facts =
            facts_same (root_of p o) (own_frame p o) (claims (estate p o) (opening_dom p o).caps)
            (placed p o empty) (opening i).storage.mem kept.facts (opening_frames i r d is);
      }

pub kernel_of : (i : Image) → Separated i → (d : ℕ) → IsDomain i d → IsKernel i.all.hardware (own_of i d)
kernel_of i r d is = kernel_is i.all.hardware (own_of i d) (r.enough d is) (r.sound d) r.hardware (r.not_kernel d is)

-- any two domains are parties
pub parties_of : (i : Image) → Separated i → (d e : ℕ) → IsDomain i d → IsDomain i e → d ≢ e
    → AreParties i.all.hardware (own_of i d) (own_of i e)
parties_of i r d e is ie other =
    record {
      kernel = kernel_of i r d is;
      others_kernel = kernel_of i r e ie;
      apart = r.apart d e is ie other;
      numbers = λ same. other (sym (r.numbered d is) ∙ same ∙ r.numbered e ie);
    }
