-- When a table is in use.
use Rattle.std.proofs.Common.{◌≡◌, ℕ, Bool, true, false, [], ◌∷◌, length, Option, Some, None, inl, inr, refl, ap, sym, ◌∙◌, suc}
use Rattle.std.specs.List.{list_any}
use Rattle.std.proofs.lemmas.Bool.{cases_lt, eq-eqb, eqb-true}
use Rattle.std.proofs.lemmas.List.{get_or_past}
use Rattle.std.proofs.lemmas.List.Folds.{list_any_at}
use Rattle.cap_table.specs.declared.Cap.{Cap}
use Rattle.cap_table.specs.declared.Cap.TheVariants as cap
use Rattle.cap_table.specs.Slots.{Slots, cap_at, mapped_at, installed_at, region_of, is_in_region, maps_in, in_use, in_use_at}
use Rattle.cap_table.specs.Words.{IsInUse}

-- some page is mapped in a region
record MapsAt (slots : Slots) (region : ℕ) : Type 0 where
  other : ℕ
  page : ℕ
  rights : ℕ
  mapped : ℕ
  through : cap_at slots other ≡ Some (cap.Frame page rights (Some mapped))
  same : region_of mapped ≡ region

next : (c : Option Cap) (slots : Slots) (region : ℕ) → MapsAt slots region → MapsAt (c ∷ slots) region
next c slots region m = record {
  other = suc m.other;
  page = m.page;
  rights = m.rights;
  mapped = m.mapped;
  through = m.through;
  same = m.same;
}

maps_only : (slots : Slots) (region : ℕ) → list_any (λ c. is_in_region region (mapped_at c)) slots ≡ true
    → MapsAt slots region
maps_only [] region x = absurd (cc x)
maps_only (None ∷ slots) region x = next None slots region (maps_only slots region x)
maps_only (Some (cap.Table f m) ∷ slots) region x = next (Some (cap.Table f m)) slots region (maps_only slots region x)
maps_only (Some (cap.Irq l) ∷ slots) region x = next (Some (cap.Irq l)) slots region (maps_only slots region x)
maps_only (Some (cap.Frame f r None) ∷ slots) region x = next (Some (cap.Frame f r None)) slots region (maps_only slots region x)
maps_only (Some (cap.Frame f r (Some va)) ∷ slots) region x = by_test (is_in_region region (Some va)) refl (maps_only slots region) x
  where
    by_test : (b : Bool) → is_in_region region (Some va) ≡ b
        → (list_any (λ c. is_in_region region (mapped_at c)) slots ≡ true → MapsAt slots region)
        → list_any (λ c. is_in_region region (mapped_at c)) (Some (cap.Frame f r (Some va)) ∷ slots) ≡ true
        → MapsAt (Some (cap.Frame f r (Some va)) ∷ slots) region
    by_test true e rest y = record { other = 0; page = f; rights = r; mapped = va; through = refl; same = eqb-true (region_of va) region e }
    by_test false e rest y = next (Some (cap.Frame f r (Some va))) slots region (rest (rw e at y))

maps_each : (slots : Slots) (region : ℕ) → MapsAt slots region
    → list_any (λ c. is_in_region region (mapped_at c)) slots ≡ true
maps_each slots region m = elim (cases_lt m.other (length slots)) [
  | inl lt ↦ list_any_at (λ c. is_in_region region (mapped_at c)) slots m.other None lt
      (ap (λ c. is_in_region region (mapped_at c)) m.through ∙ eq-eqb (region_of m.mapped) region m.same)
  | inr ge ↦
      let p : None ≡ Some (cap.Frame m.page m.rights (Some m.mapped)) =
      sym (get_or_past slots m.other None ge) ∙ m.through in
      absurd (cc p)
]

pub use_only : (slots : Slots) (slot : ℕ) → in_use slots slot ≡ true → IsInUse slots slot
unfolding in_use maps_in
use_only slots slot x = by_cap (cap_at slots slot) refl x
  where
    by_cap : (c : Option Cap) → cap_at slots slot ≡ c → in_use_at slots (installed_at c) ≡ true
        → IsInUse slots slot
    by_cap None e y = absurd (cc y)
    by_cap (Some (cap.Frame f r m)) e y = absurd (cc y)
    by_cap (Some (cap.Irq l)) e y = absurd (cc y)
    by_cap (Some (cap.Table t None)) e y = absurd (cc y)
    by_cap (Some (cap.Table t (Some va))) e y =
        let m : MapsAt slots (region_of va) = maps_only slots (region_of va) y in
        record {
          table = t;
          installed = va;
          there = e;
          other = m.other;
          page = m.page;
          rights = m.rights;
          mapped = m.mapped;
          through = m.through;
          same = m.same;
        }

pub use_each : (slots : Slots) (slot : ℕ) → IsInUse slots slot → in_use slots slot ≡ true
unfolding in_use maps_in
use_each slots slot u = ap (λ c. in_use_at slots (installed_at c)) u.there
    ∙ maps_each slots (region_of u.installed) (record {
      other = u.other;
      page = u.page;
      rights = u.rights;
      mapped = u.mapped;
      through = u.through;
      same = u.same;
    })
