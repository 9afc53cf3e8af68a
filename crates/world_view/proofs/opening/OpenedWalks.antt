-- Walks of a domain's page tables in the memory that the machine opens with.
use Rattle.std.proofs.Common.{◌≡◌, ◌∙◌, ap, sym, subst, refl, inl, inr, ℕ, ◌+◌, ◌*◌, ◌/◌, ◌^◌, ◌<◌, ◌≤◌, true, false, arith, length}
use Rattle.std.specs.Prelude.{Some, None, Result, Ok, Err}
use Rattle.std.proofs.lemmas.Bool.{cases_Bool}
use Rattle.tp_base.specs.Table.{empty}
use Rattle.phys_mem.specs.Mem.{Mem, word}
use Rattle.sv32_walk.specs.declared.access.Access.{Access}
use Rattle.sv32_walk.specs.declared.access.WalkFault.TheVariants as fault
use Rattle.sv32_walk.specs.declared.access.WalkFault.{WalkFault}
use Rattle.sv32_walk.specs.PageTableEntry.{valid, ppn, vpn_0, vpn_1}
use Rattle.sv32_walk.specs.Walk.{Walk, walk, last_level}
use Rattle.sv32_walk.specs.Translation.{first_entry, second_entry, Allows, Points, InPage, small}
use Rattle.sv32_walk.proofs.WalkLemmas.{leaf_in_words}
use Rattle.sv32_walk.specs.PageTableEntry.{rights_permit, table_word, leaf_word}
use Rattle.sv32_walk.proofs.WordLemmas.{valid-zero, ppn-table, points-table, ppn-leaf, allows-leaf, refuses-leaf}
use Rattle.page_map.proofs.WalkLemmas.{last_invalid, last_refused, by_table, no_entry, vpn_0-below, vpn_1-below}
use Rattle.hardware_check.specs.Hardware.{Hardware}
use Rattle.image_check.specs.Own.{Own}
use Rattle.image_check.specs.Laws.{IsOwn}
use Rattle.image_check.specs.Image.{Image, own_of}
use Rattle.image_check.specs.Pages.{has_region, frames_in}
use Rattle.world_view.specs.Frames.{pool, root_of, table_frame, page_frame}
use Rattle.world_view.specs.Opening.{root_entry, rights_in, leaf_with, leaf_entry, placed}
use Rattle.world_view.specs.Kernel.{opening_dom, estate}
use Rattle.world_view.specs.Machine.{opening, alone_opening, whole_by}
use Rattle.world_view.specs.Relations.{IsDomain}
use Rattle.world_view.proofs.opening.Counts.{rights_there, rights_region, rights_are_good}
use Rattle.world_view.proofs.opening.PoolLaws.{own_inside}
use Rattle.world_view.proofs.opening.Separate.{Separated}
use Rattle.world_view.proofs.actions.TableLaws.{IsPage, walkable, walk_alike}
use Rattle.world_view.proofs.opening.OpeningFacts.{placed_facts}
use Rattle.world_view.proofs.opening.OpeningLaws.{own_root, own_table, own_page, pages_once, root_words, table_words, root_is, opening_frames}

-- the indices of an address are those of its page
page_place : (va : ℕ) → va < 2 ^ 32 → 1024 * vpn_1 va + vpn_0 va ≡ va / 4096
unfolding vpn_0 vpn_1
page_place va fits = omega (arith, fits)

page_region : (va : ℕ) → va < 2 ^ 32 → va / 4096 / 1024 ≡ vpn_1 va
unfolding vpn_1
page_region va fits = omega (arith, fits)

leaf_some : (p : Hardware) (o : Own) (n : ℕ) (r : ℕ) → rights_in o.segments n ≡ Some r
    → leaf_entry p o n ≡ leaf_word (page_frame p o n) r
unfolding leaf_entry leaf_with
leaf_some p o n r e = rw e refl

leaf_none : (p : Hardware) (o : Own) (n : ℕ) → rights_in o.segments n ≡ None → leaf_entry p o n ≡ 0
unfolding leaf_entry leaf_with
leaf_none p o n e = rw e refl

root_none : (p : Hardware) (o : Own) (r : ℕ) → has_region o.segments r ≡ false → root_entry p o r ≡ 0
unfolding root_entry
root_none p o r e = rw e refl

module _ (p : Hardware) (o : Own) (m : Mem) (sound : IsOwn o)
    (enough : frames_in o.segments ≤ length (pool p o)) (va : ℕ) (fits : va < 2 ^ 32) (a : Access) where
  first_is : has_region o.segments (vpn_1 va) ≡ true
      → first_entry (placed p o m) (root_of p o) va ≡ table_word (table_frame p o (vpn_1 va))
  first_is some = root_words p o enough m (vpn_1 va) (vpn_1-below va) ∙ root_is p o enough (vpn_1 va) some

  second_is : has_region o.segments (vpn_1 va) ≡ true
      → second_entry (placed p o m) (root_of p o) va ≡ leaf_entry p o (va / 4096)
  second_is some =
      ap (λ (e : ℕ). word (placed p o m) (ppn e) (vpn_0 va)) (first_is some)
      ∙ ap (λ (f : ℕ). word (placed p o m) f (vpn_0 va)) (ppn-table (table_frame p o (vpn_1 va)))
      ∙ table_words p o enough m (vpn_1 va) (vpn_0 va) (vpn_1-below va) (vpn_0-below va) some
      ∙ ap (leaf_entry p o) (page_place va fits)

  points : has_region o.segments (vpn_1 va) ≡ true → Points (first_entry (placed p o m) (root_of p o) va)
  points some = subst Points (sym (first_is some)) (points-table (table_frame p o (vpn_1 va)))

  in_table : has_region o.segments (vpn_1 va) ≡ true
      → ppn (first_entry (placed p o m) (root_of p o) va) < p.frames
  in_table some =
      let table = ap ppn (first_is some) ∙ ppn-table (table_frame p o (vpn_1 va)) in
      subst (λ (f : ℕ). f < p.frames) (sym table) (own_inside p o _ (own_table p o enough (vpn_1 va) (vpn_1-below va) some))

  in_root : root_of p o < p.frames
  in_root = own_inside p o (root_of p o) (own_root p o enough)

  ends : has_region o.segments (vpn_1 va) ≡ true
      → (walk (placed p o m) p.frames (root_of p o) va a).result
      ≡ last_level p.frames a (leaf_entry p o (va / 4096))
  ends some =
      by_table (placed p o m) p.frames (root_of p o) va a in_root (points some) (in_table some)
      ∙ ap (last_level p.frames a) (second_is some)

  -- a page is in a region that has one
  region_of : (r : ℕ) → rights_in o.segments (va / 4096) ≡ Some r → has_region o.segments (vpn_1 va) ≡ true
  region_of r e = ap (has_region o.segments) (sym (page_region va fits)) ∙ rights_region o.segments (va / 4096) r e

  placed_page : (r : ℕ) → rights_in o.segments (va / 4096) ≡ Some r → rights_permit r a ≡ true
      → (walk (placed p o m) p.frames (root_of p o) va a).result ≡ Ok (leaf_word (page_frame p o (va / 4096)) r)
  placed_page r e given =
      let n = va / 4096 in
      let some = region_of r e in
      let are_good = rights_are_good o n r sound e in
      let leaf = leaf_word (page_frame p o n) r in
      let second : second_entry (placed p o m) (root_of p o) va ≡ leaf = second_is some ∙ leaf_some p o n r e in
      let own = own_inside p o _ (own_page p o enough n (rights_there o.segments n r e)) in
      let named = ap ppn second ∙ ppn-leaf (page_frame p o n) r are_good in
      let in_page : InPage (placed p o m) p.frames (root_of p o) va a = record {
        in_root = in_root;
        pointer = points some;
        in_table = in_table some;
        allowed = subst (Allows a) (sym second) (allows-leaf (page_frame p o n) r a are_good given);
      } in
      (leaf_in_words (placed p o m) p.frames (root_of p o) va a leaf).1
      (small in_page (subst (λ (f : ℕ). f < p.frames) (sym named) own) (sym second))

  placed_refused : (r : ℕ) → rights_in o.segments (va / 4096) ≡ Some r → rights_permit r a ≡ false
      → (walk (placed p o m) p.frames (root_of p o) va a).result ≡ Err fault.Page
  placed_refused r e refused =
      let n = va / 4096 in
      ends (region_of r e) ∙ ap (last_level p.frames a) (leaf_some p o n r e)
      ∙ last_refused p.frames a (leaf_word (page_frame p o n) r)
      (refuses-leaf (page_frame p o n) r a (rights_are_good o n r sound e) refused)

  placed_nowhere : rights_in o.segments (va / 4096) ≡ None
      → (walk (placed p o m) p.frames (root_of p o) va a).result ≡ Err fault.Page
  placed_nowhere e =
      elim (cases_Bool (has_region o.segments (vpn_1 va))) [
        | inl some ↦ ends some ∙ last_invalid p.frames a (leaf_entry p o (va / 4096)) (ap valid (leaf_none p o (va / 4096) e) ∙ valid-zero)
        | inr none ↦
            ap (λ (w : Walk). w.result) (no_entry (placed p o m) p.frames (root_of p o) va a in_root
            (ap valid (root_words p o enough m (vpn_1 va) (vpn_1-below va) ∙ root_none p o (vpn_1 va) none) ∙ valid-zero))
      ]

-- ---- the machine's memory

module _ (i : Image) (r : Separated i) (d : ℕ) (is : IsDomain i d) (va : ℕ) (a : Access) where
  abbrev hardware : Hardware
  hardware = i.all.hardware

  abbrev own : Own
  own = own_of i d

  -- in the memory that the machine opens with
  abbrev pub opened_walk : Result ℕ WalkFault
  opened_walk = (walk (opening i).storage.mem hardware.frames (root_of hardware own) va a).result

  own_walk : opened_walk
      ≡ (walk (placed hardware own empty) hardware.frames (root_of hardware own) va a).result
  unfolding whole_by alone_opening estate
  own_walk =
      let dom = opening_dom hardware own in
      let m = placed hardware own empty in
      ap (λ (w : Walk). w.result) (walk_alike hardware own (estate hardware own).root
      (IsPage hardware own dom m) m
      (walkable hardware own dom m (placed_facts hardware own (r.enough d is) (r.sound d) empty)) va a
      (opening i).storage.mem (λ f mine. sym (opening_frames i r d is f mine)))

  pub opened_page : (q : ℕ) → va < 2 ^ 32 → rights_in own.segments (va / 4096) ≡ Some q
      → rights_permit q a ≡ true
      → opened_walk ≡ Ok (leaf_word (page_frame hardware own (va / 4096)) q)
  opened_page q fits e given = own_walk ∙ placed_page hardware own empty (r.sound d) (r.enough d is) va fits a q e given

  pub opened_refused : (q : ℕ) → va < 2 ^ 32 → rights_in own.segments (va / 4096) ≡ Some q
      → rights_permit q a ≡ false → opened_walk ≡ Err fault.Page
  opened_refused q fits e refused = own_walk ∙ placed_refused hardware own empty (r.sound d) (r.enough d is) va fits a q e refused

  pub opened_nowhere : va < 2 ^ 32 → rights_in own.segments (va / 4096) ≡ None
      → opened_walk ≡ Err fault.Page
  opened_nowhere fits e = own_walk ∙ placed_nowhere hardware own empty (r.sound d) (r.enough d is) va fits a e

-- each page has a frame of its own
pub pages_apart : (i : Image) (d n m : ℕ) (r q : ℕ) → Separated i → IsDomain i d
    → rights_in (own_of i d).segments n ≡ Some r → rights_in (own_of i d).segments m ≡ Some q
    → page_frame i.all.hardware (own_of i d) n ≡ page_frame i.all.hardware (own_of i d) m → n ≡ m
pages_apart i d n m r q sep is here there same =
    let o = own_of i d in
    pages_once i.all.hardware o (sep.enough d is) n m (rights_there o.segments n r here) (rights_there o.segments m q there) same
