-- How MAP, TABLE and UNMAP run, to each of their ends.
use Rattle.std.proofs.Common.{◌≡◌, ℕ, ◌<◌, ◌%◌, Bool, true, false, not, List, [], ◌∷◌, Option, Some, None, inl, inr, refl, ap, sym, ◌∙◌, ap₂, length, Ok, Err}
use Rattle.std.specs.Option.{ok_or}
use Rattle.std.specs.Prelude.{is_some, nat_eq, if◌then◌else◌}
use Rattle.tp_base.specs.Act as act
use Rattle.tp_base.specs.Act.{give}
use Rattle.phys_mem.specs.Mem.{Mem}
use Rattle.page_map.specs.declared.refusal.MapRefusal.{MapRefusal}
use Rattle.page_map.specs.Tables.{map_refusal, install_refusal}
use Rattle.page_map.specs.Changes.{table_entry, page_entry, mapped, unmapped, installed}
use Rattle.cap_table.specs.declared.Cap.{Cap}
use Rattle.cap_table.specs.declared.Cap.TheVariants as cap
use Rattle.cap_table.specs.Slots.{Slots, cap_at, with_cap}
use Rattle.kernel_clone.specs.Footprints.{WorkDone, bad_call_op}
use Rattle.kernel_clone.specs.Permissions.{is_call}
use Rattle.call_table.specs.Domain.{Dom, done, refused}
use Rattle.call_table.specs.Claims.{Estate, frame_of, claim_of, free_frames}
use Rattle.call_table.specs.Calls.{Note, filled, page_in, table_in, may_give, error_of, map_page, install, unmap, map_at, unmap_at, install_at, empty_buffer, with_slot, op_of, work_of, zeroed_in, entries_in}
use Rattle.kernel_call.specs.Facts.{reads}
use Rattle.kernel_call.proofs.Ties.{free_noted}
use Rattle.kernel_call.proofs.Paths.{goes_on, ends_there, runs, runs_to, filled_then, some_then, some_ends, check_then, check_ends, page_refusal_passes, table_refusal_passes, allowed_passes, allowed_stops, then_goes, then_ends}

-- an action that is done, with these notes
abbrev pub does : List Note → Mem → Dom → act.Done Mem Note Dom Dom
does notes m d = record { notes = notes; state = m; value = inr d }

-- a capability of another kind
pub not_page : (c : Cap) → ((f rights : ℕ) (w : Option ℕ) → c ≡ cap.Frame f rights w → ⊥) → page_in c ≡ None
not_page (cap.Frame f rights w) other = absurd (other f rights w refl)
not_page (cap.Table f w) other = refl
not_page (cap.Irq line) other = refl

pub not_table : (c : Cap) → ((f : ℕ) (w : Option ℕ) → c ≡ cap.Table f w → ⊥) → table_in c ≡ None
not_table (cap.Frame f rights w) other = refl
not_table (cap.Table f w) other = absurd (other f w refl)
not_table (cap.Irq line) other = refl

-- an option that is a value or an error
pub none_or : {A E : Type 0} (w : Option A) (x y : E) → ok_or w x ≡ Err y → (w ≡ None) × (x ≡ y)
none_or None x y e = (refl, cc e)
none_or (Some a) x y e = absurd (cc e)

pub some_or_other : {A E : Type 0} (w : Option A) (x : E) (a : A) → ok_or w x ≡ Ok a → w ≡ Some a
some_or_other None x a e = absurd (cc e)
some_or_other (Some b) x a e = ap Some (cc e)

-- ---- what is told of their work

op_kept : (number : ℕ) → is_call number ≡ true → op_of number ≡ number
op_kept number call = ap (λ (b : Bool). if b then number else bad_call_op) call

pub tells_nothing : (number : ℕ) (w : WorkDone) → is_call number ≡ true
    → w ≡ record { op = number; zeroed = None; entries = [] }
    → w ≡ work_of number []
unfolding work_of zeroed_in entries_in
tells_nothing number w call is =
    is ∙ ap (λ (op : ℕ). record { op = op; zeroed = None; entries = [] }) (sym (op_kept number call))

pub tells_entry : (number entry at : ℕ) (w : WorkDone) → is_call number ≡ true
    → w ≡ record { op = number; zeroed = None; entries = entry ∷ [] }
    → entry ≡ at → w ≡ work_of number (Note.Entry at ∷ [])
unfolding work_of zeroed_in entries_in
tells_entry number entry at w call is same =
    is ∙ ap₂ (λ (op at : ℕ). record { op = op; zeroed = None; entries = at ∷ [] }) (sym (op_kept number call)) same

pub tells_entry_emptied : (number entry at : ℕ) (w : WorkDone) → is_call number ≡ true
    → w ≡ record { op = number; zeroed = None; entries = entry ∷ [] } → entry ≡ at → w ≡ work_of number (Note.Entry at ∷ Note.Emptied ∷ [])
unfolding work_of zeroed_in entries_in
tells_entry_emptied number entry at w call is same =
    is ∙ ap₂ (λ (op at : ℕ). record { op = op; zeroed = None; entries = at ∷ [] }) (sym (op_kept number call)) same

-- ---- noting an address changes no frame's claim

pub free_page : (e : Estate) (caps : Slots) (a f rights : ℕ) (w v : Option ℕ) → length caps ≡ 64 → a < 64
    → cap_at caps a ≡ Some (cap.Frame f rights w) → free_frames e (with_cap caps a (Some (cap.Frame f rights v))) ≡ free_frames e caps
unfolding frame_of claim_of
free_page e caps a f rights w v long below there =
    free_noted e caps long a (Some (cap.Frame f rights v)) below (ap (λ (c : Option Cap). frame_of (claim_of c)) (sym there))

pub free_table : (e : Estate) (caps : Slots) (a f : ℕ) (w v : Option ℕ) → length caps ≡ 64 → a < 64
    → cap_at caps a ≡ Some (cap.Table f w) → free_frames e (with_cap caps a (Some (cap.Table f v))) ≡ free_frames e caps
unfolding frame_of claim_of
free_table e caps a f w v long below there =
    free_noted e caps long a (Some (cap.Table f v)) below (ap (λ (c : Option Cap). frame_of (claim_of c)) (sym there))

-- ---- MAP

module _ (e : Estate) (d : Dom) (m : Mem) (a b c : ℕ) where
  -- the slot is not good
  pub map_unfilled : (x : Dom) → filled d a m ≡ reads m (inl x) → map_page e d a b c m ≡ reads m (inl x)
  unfolding map_page
  map_unfilled x is = ends_there (filled d a) _ m x is

  pub map_no_page : (x : Cap) → a < 64 → cap_at d.caps a ≡ Some x → page_in x ≡ None
      → map_page e d a b c m ≡ reads m (inl (refused 5 d))
  unfolding map_page
  map_no_page x below there none = filled_then d a _ x m below there ∙ some_ends (refused 5 d) (page_in x) _ m none

  module _ (f rights : ℕ) (w : Option ℕ) (below : a < 64) (there : cap_at d.caps a ≡ Some (cap.Frame f rights w)) where
    pub map_no_rights : may_give rights c ≡ false → map_page e d a b c m ≡ reads m (inl (refused 6 d))
    unfolding map_page
    map_no_rights bad =
        filled_then d a _ (cap.Frame f rights w) m below there
        ∙ some_then (refused 5 d) (page_in (cap.Frame f rights w)) _ (record { frame = f; rights = rights; mapped = w }) m refl
        ∙ check_ends (refused 6 d) (may_give rights c) _ m bad

    pub map_unaligned : may_give rights c ≡ true → nat_eq (b % 4096) 0 ≡ false
        → map_page e d a b c m ≡ reads m (inl (refused 7 d))
    unfolding map_page
    map_unaligned may bad =
        filled_then d a _ (cap.Frame f rights w) m below there
        ∙ some_then (refused 5 d) (page_in (cap.Frame f rights w)) _ (record { frame = f; rights = rights; mapped = w }) m refl
        ∙ check_then (refused 6 d) (may_give rights c) _ m may
        ∙ check_ends (refused 7 d) (nat_eq (b % 4096) 0) _ m bad

    pub map_mapped : may_give rights c ≡ true → nat_eq (b % 4096) 0 ≡ true → is_some w ≡ true
        → map_page e d a b c m ≡ reads m (inl (refused 8 d))
    unfolding map_page
    map_mapped may aligned some =
        filled_then d a _ (cap.Frame f rights w) m below there
        ∙ some_then (refused 5 d) (page_in (cap.Frame f rights w)) _ (record { frame = f; rights = rights; mapped = w }) m refl
        ∙ check_then (refused 6 d) (may_give rights c) _ m may
        ∙ check_then (refused 7 d) (nat_eq (b % 4096) 0) _ m aligned
        ∙ check_ends (refused 8 d) (not (is_some w)) _ m (ap not some)

    pub map_refused : (r : MapRefusal) → may_give rights c ≡ true → nat_eq (b % 4096) 0 ≡ true
        → is_some w ≡ false → map_refusal m e.root b ≡ Some r
        → map_page e d a b c m ≡ reads m (inl (refused (error_of r) d))
    unfolding map_page
    map_refused r may aligned none is =
        filled_then d a _ (cap.Frame f rights w) m below there
        ∙ some_then (refused 5 d) (page_in (cap.Frame f rights w)) _ (record { frame = f; rights = rights; mapped = w }) m refl
        ∙ check_then (refused 6 d) (may_give rights c) _ m may
        ∙ check_then (refused 7 d) (nat_eq (b % 4096) 0) _ m aligned
        ∙ check_then (refused 8 d) (not (is_some w)) _ m (ap not none)
        ∙ goes_on _ _ m (map_refusal m e.root b) (page_refusal_passes e.root b m)
        ∙ then_ends _ _ m (refused (error_of r) d) (allowed_stops d (map_refusal m e.root b) r m is)

    pub map_done : may_give rights c ≡ true → nat_eq (b % 4096) 0 ≡ true → is_some w ≡ false
        → map_refusal m e.root b ≡ None
        → map_page e d a b c m ≡ does (Note.Entry (page_entry m e.root b) ∷ []) (mapped m e.root b f c)
        (done 0 (with_slot d a (Some (cap.Frame f rights (Some b)))))
    unfolding map_page map_at give
    map_done may aligned none is =
        filled_then d a _ (cap.Frame f rights w) m below there
        ∙ some_then (refused 5 d) (page_in (cap.Frame f rights w)) _ (record { frame = f; rights = rights; mapped = w }) m refl
        ∙ check_then (refused 6 d) (may_give rights c) _ m may
        ∙ check_then (refused 7 d) (nat_eq (b % 4096) 0) _ m aligned
        ∙ check_then (refused 8 d) (not (is_some w)) _ m (ap not none)
        ∙ goes_on _ _ m (map_refusal m e.root b) (page_refusal_passes e.root b m)
        ∙ then_goes _ _ m tt (allowed_passes d (map_refusal m e.root b) m is)
        ∙ runs (map_at e.root b f c) _ m (mapped m e.root b f c) (Note.Entry (page_entry m e.root b) ∷ []) tt refl

-- ---- TABLE

module _ (e : Estate) (d : Dom) (m : Mem) (a b : ℕ) where
  pub install_unfilled : (x : Dom) → filled d a m ≡ reads m (inl x) → install e d a b m ≡ reads m (inl x)
  unfolding install
  install_unfilled x is = ends_there (filled d a) _ m x is

  pub install_no_table : (x : Cap) → a < 64 → cap_at d.caps a ≡ Some x → table_in x ≡ None
      → install e d a b m ≡ reads m (inl (refused 5 d))
  unfolding install
  install_no_table x below there none = filled_then d a _ x m below there ∙ some_ends (refused 5 d) (table_in x) _ m none

  module _ (f : ℕ) (w : Option ℕ) (below : a < 64) (there : cap_at d.caps a ≡ Some (cap.Table f w)) where
    pub install_unaligned : nat_eq (b % 4194304) 0 ≡ false → install e d a b m ≡ reads m (inl (refused 7 d))
    unfolding install
    install_unaligned bad =
        filled_then d a _ (cap.Table f w) m below there
        ∙ some_then (refused 5 d) (table_in (cap.Table f w)) _ (record { frame = f; installed = w }) m refl
        ∙ check_ends (refused 7 d) (nat_eq (b % 4194304) 0) _ m bad

    pub install_twice : nat_eq (b % 4194304) 0 ≡ true → is_some w ≡ true
        → install e d a b m ≡ reads m (inl (refused 8 d))
    unfolding install
    install_twice aligned some =
        filled_then d a _ (cap.Table f w) m below there
        ∙ some_then (refused 5 d) (table_in (cap.Table f w)) _ (record { frame = f; installed = w }) m refl
        ∙ check_then (refused 7 d) (nat_eq (b % 4194304) 0) _ m aligned
        ∙ check_ends (refused 8 d) (not (is_some w)) _ m (ap not some)

    pub install_refused : (r : MapRefusal) → nat_eq (b % 4194304) 0 ≡ true → is_some w ≡ false
        → install_refusal m e.root b ≡ Some r
        → install e d a b m ≡ reads m (inl (refused (error_of r) d))
    unfolding install
    install_refused r aligned none is =
        filled_then d a _ (cap.Table f w) m below there
        ∙ some_then (refused 5 d) (table_in (cap.Table f w)) _ (record { frame = f; installed = w }) m refl
        ∙ check_then (refused 7 d) (nat_eq (b % 4194304) 0) _ m aligned
        ∙ check_then (refused 8 d) (not (is_some w)) _ m (ap not none)
        ∙ goes_on _ _ m (install_refusal m e.root b) (table_refusal_passes e.root b m)
        ∙ then_ends _ _ m (refused (error_of r) d) (allowed_stops d (install_refusal m e.root b) r m is)

    pub install_done : nat_eq (b % 4194304) 0 ≡ true → is_some w ≡ false → install_refusal m e.root b ≡ None
        → install e d a b m ≡ does (Note.Entry (table_entry e.root b) ∷ []) (installed m e.root b f)
        (done 0 (with_slot d a (Some (cap.Table f (Some b)))))
    unfolding install install_at give
    install_done aligned none is =
        filled_then d a _ (cap.Table f w) m below there
        ∙ some_then (refused 5 d) (table_in (cap.Table f w)) _ (record { frame = f; installed = w }) m refl
        ∙ check_then (refused 7 d) (nat_eq (b % 4194304) 0) _ m aligned
        ∙ check_then (refused 8 d) (not (is_some w)) _ m (ap not none)
        ∙ goes_on _ _ m (install_refusal m e.root b) (table_refusal_passes e.root b m)
        ∙ then_goes _ _ m tt (allowed_passes d (install_refusal m e.root b) m is)
        ∙ runs (install_at e.root b f) _ m (installed m e.root b f) (Note.Entry (table_entry e.root b) ∷ []) tt refl

-- ---- UNMAP

module _ (e : Estate) (d : Dom) (m : Mem) (a : ℕ) where
  pub unmap_unfilled : (x : Dom) → filled d a m ≡ reads m (inl x) → unmap e d a m ≡ reads m (inl x)
  unfolding unmap
  unmap_unfilled x is = ends_there (filled d a) _ m x is

  pub unmap_no_page : (x : Cap) → a < 64 → cap_at d.caps a ≡ Some x → page_in x ≡ None
      → unmap e d a m ≡ reads m (inl (refused 5 d))
  unfolding unmap
  unmap_no_page x below there none = filled_then d a _ x m below there ∙ some_ends (refused 5 d) (page_in x) _ m none

  module _ (f rights : ℕ) (w : Option ℕ) (below : a < 64) (there : cap_at d.caps a ≡ Some (cap.Frame f rights w)) where
    pub unmap_nowhere : w ≡ None → unmap e d a m ≡ reads m (inl (refused 7 d))
    unfolding unmap
    unmap_nowhere none =
        filled_then d a _ (cap.Frame f rights w) m below there
        ∙ some_then (refused 5 d) (page_in (cap.Frame f rights w)) _ (record { frame = f; rights = rights; mapped = w }) m refl
        ∙ some_ends (refused 7 d) w _ m none

    pub unmap_done : (va : ℕ) → w ≡ Some va
        → unmap e d a m ≡ does (Note.Entry (page_entry m e.root va) ∷ Note.Emptied ∷ []) (unmapped m e.root va)
        (done 0 (with_slot d a (Some (cap.Frame f rights None))))
    unfolding unmap unmap_at empty_buffer give
    unmap_done va is =
        filled_then d a _ (cap.Frame f rights w) m below there
        ∙ some_then (refused 5 d) (page_in (cap.Frame f rights w)) _ (record { frame = f; rights = rights; mapped = w }) m refl
        ∙ some_then (refused 7 d) w _ va m is
        ∙ runs_to (unmap_at e.root va) _ m (unmapped m e.root va) (Note.Entry (page_entry m e.root va) ∷ []) tt
        (does (Note.Emptied ∷ []) (unmapped m e.root va) (done 0 (with_slot d a (Some (cap.Frame f rights None))))) refl
        (runs empty_buffer _ (unmapped m e.root va) (unmapped m e.root va) (Note.Emptied ∷ []) tt refl)
