-- In the memory that the machine opens with, each page that a capability names is mapped with exactly its rights.
use Rattle.std.proofs.Common.{◌≡◌, ℕ, ◌*◌, ◌/◌, ◌%◌, ◌^◌, ◌<◌, ◌≤◌, true, length, Option, Some, None, inl, inr, refl, ap, sym, subst, ◌∙◌, arith, le_refl}
use Rattle.std.proofs.lemmas.Bool.{cases_lt, le-leb}
use Rattle.std.proofs.lemmas.List.{get_or_past}
use Rattle.tp_base.specs.Table.{empty}
use Rattle.phys_mem.specs.Mem.{Mem, word}
use Rattle.sv32_walk.specs.PageTableEntry.{valid, ppn, vpn_0, vpn_1, table_word}
use Rattle.sv32_walk.specs.Translation.{first_entry}
use Rattle.sv32_walk.proofs.WordLemmas.{ppn-table, points-table}
use Rattle.cap_table.specs.declared.Cap.{Cap}
use Rattle.cap_table.specs.declared.Cap.TheVariants as cap
use Rattle.call_table.specs.Calls.{is_within}
use Rattle.call_table.specs.Domain as domain
use Rattle.call_table.specs.Rights.{IsWithin, AreWithin}
use Rattle.hardware_check.specs.Hardware.{Hardware}
use Rattle.domain_check.specs.declared.capabilities.InitialCap.{InitialCap}
use Rattle.domain_check.specs.declared.capabilities.InitialCap.TheVariants as initial
use Rattle.image_check.specs.Own.{Own, cap_at}
use Rattle.image_check.specs.Laws.{IsOwn}
use Rattle.image_check.specs.Image.{Image, own_of}
use Rattle.image_check.specs.Pages.{frames_in}
use Rattle.world_view.specs.Frames.{pool, root_of, table_frame, page_frame}
use Rattle.world_view.specs.Opening.{rights_in, placed}
use Rattle.world_view.specs.Kernel.{rights_or_none, first_cap, first_slots, estate, opening_dom}
use Rattle.world_view.specs.Machine.{opening, alone_opening}
use Rattle.world_view.specs.Relations.{IsDomain}
use Rattle.world_view.proofs.opening.Counts.{is_page, rights_are_good}
use Rattle.world_view.proofs.opening.Separate.{Separated}
use Rattle.world_view.proofs.opening.OpeningLaws.{opening_frames}
use Rattle.world_view.proofs.opening.OpeningClaims.{page_same, slot_is, slots_long}
use Rattle.world_view.proofs.opening.OpeningFacts.{page_small, page_rights, page_region, region_low, root_entry_is, page_entry, placed_facts, opening_facts}
use Rattle.world_view.proofs.facts.RightsLaws.{HasBoth, rights_same}

-- rights are within themselves
itself : (r : ℕ) → is_within r r ≡ true
itself r =
    rw (
      le-leb (r % 2) (r % 2) (le_refl (r % 2)),
      le-leb (r / 2 % 2) (r / 2 % 2) (le_refl (r / 2 % 2)),
      le-leb
          (r / 4 % 2) (r / 4 % 2) (le_refl (r / 4 % 2)),
    ) refl

-- the indices of a page's address
first_index : (n : ℕ) → n < 2 ^ 20 → vpn_1 (n * 4096) ≡ n / 1024
unfolding vpn_1
first_index n small = omega (arith, small)

second_index : (n : ℕ) → n < 2 ^ 20 → vpn_0 (n * 4096) ≡ n % 1024
unfolding vpn_0
second_index n small = omega (arith, small)

module _ (p : Hardware) (o : Own) (enough : frames_in o.segments ≤ length (pool p o)) (sound : IsOwn o) (m : Mem) where
  page_within : (n : ℕ) → is_page o.segments n ≡ true
      → IsWithin (estate p o) (placed p o m) (page_frame p o n) (rights_or_none (rights_in o.segments n)) (n * 4096)
  unfolding estate
  page_within n there =
      let has = page_rights o.segments n there in
      let rights = has.0 in
      let small = page_small o.segments n sound.segments there in
      let memory = placed p o m in
      let table = table_frame p o (n / 1024) in
      let entry : first_entry memory (root_of p o) (n * 4096) ≡ table_word table =
      ap (word memory (root_of p o)) (first_index n small)
      ∙ root_entry_is p o enough sound m (n / 1024) (page_region p o enough sound n there) (region_low p o enough sound n there) in
      record {
        table = ap valid entry ∙ (points-table table).is_valid;
        given = rights;
        good = rights_are_good o n has.0 sound has.1;
        within = subst (λ (v : Option ℕ). is_within rights (rights_or_none v) ≡ true) (sym has.1) (itself rights);
        leaf =
            ap (λ (e : ℕ). word memory (ppn e) (vpn_0 (n * 4096))) entry
            ∙ ap (λ (f : ℕ). word memory f (vpn_0 (n * 4096))) (ppn-table table)
            ∙ ap (word memory table) (second_index n small) ∙ page_entry p o enough sound m n has.0 has.1;
      }

  cap_within : (i : ℕ) (v : InitialCap) → cap_at o i ≡ v → (f r va : ℕ)
      → first_cap p o v ≡ Some (cap.Frame f r (Some va))
      → IsWithin (estate p o) (placed p o m) f r va
  unfolding first_cap
  cap_within i initial.None e f r va is = absurd (cc is)
  cap_within i (initial.Irq line) e f r va is = absurd (cc is)
  cap_within i (initial.Page n) e f r va is =
      let frame : page_frame p o n ≡ f = cc is in
      let rights : rights_or_none (rights_in o.segments n) ≡ r = cc is in
      let at : n * 4096 ≡ va = cc is in
      subst (λ (x : ℕ). IsWithin (estate p o) (placed p o m) f r x) at
      (subst (λ (x : ℕ). IsWithin (estate p o) (placed p o m) f x (n * 4096)) rights
      (subst (λ (x : ℕ). IsWithin (estate p o) (placed p o m) x (rights_or_none (rights_in o.segments n)) (n * 4096)) frame
      (page_within n (page_same o.segments n ∙ sound.pages i n e))))

  placed_rights : AreWithin (estate p o) (opening_dom p o) (placed p o m)
  unfolding opening_dom domain.dom_at_entry
  placed_rights = record {
    each = λ i f r va is. elim (cases_lt i 64) [
      | inl low ↦ cap_within i (cap_at o i) refl f r va (sym (slot_is p o enough sound i low) ∙ is)
      | inr past ↦
          let long = slots_long p o enough sound in
          let no : ◌≡◌ {A = Option Cap} None (Some (cap.Frame f r (Some va))) =
          sym (get_or_past (first_slots p o) i None (omega (arith, past, long))) ∙ is in
          absurd (cc no)
    ];
  }

pub opening_both : (i : Image) (r : Separated i) (d : ℕ) → IsDomain i d
    → HasBoth i.all.hardware (own_of i d) (opening_dom i.all.hardware (own_of i d)) (opening i).storage
unfolding alone_opening
opening_both i r d is =
    let p = i.all.hardware in
    let o = own_of i d in
    let enough = r.enough d is in
    let sound = r.sound d in
    record {
      facts = opening_facts i r d is;
      rights =
          rights_same p o (opening_dom p o) (alone_opening i.all o).storage (opening i).storage (opening_frames i r d is)
          (record { facts = placed_facts p o enough sound empty; rights = placed_rights p o enough sound empty });
    }
