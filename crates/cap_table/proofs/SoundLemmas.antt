-- What is true of every table stays true after each change.
use Rattle.std.proofs.Common.{◌≡◌, ◌≢◌, ℕ, ◌<◌, List, length, slice_index_or, slice_set, Option, Some, None, inl, inr, refl, ap, sym, subst, ◌∙◌, arith}
use Rattle.std.specs.Prelude.{replicate}
use Rattle.std.proofs.lemmas.Bool.{cases_lt}
use Rattle.std.proofs.lemmas.List.{length-set, get_or-replicate, get_or_past, length-replicate}
use Rattle.cap_table.specs.declared.Cap.{Cap}
use Rattle.cap_table.specs.declared.Cap.TheVariants as cap
use Rattle.cap_table.specs.Slots.{Slots, cap_at, page_of, table_of, line_of, empty_slots, copied, noted}
use Rattle.cap_table.specs.Owning.{owner_at, IsOwned, IsSingle, HasLines, IsSound, IsUnnamed, Back}
use Rattle.cap_table.proofs.OwnerLemmas.{set_by, put_owned, shared_owned, same_owned, left_owned}

-- ---- what copies and notes name

pub page_copied : (c : Option Cap) (rights : ℕ) → page_of (copied c rights) ≡ page_of c
page_copied None rights = refl
page_copied (Some (cap.Frame f r m)) rights = refl
page_copied (Some (cap.Table f m)) rights = refl
page_copied (Some (cap.Irq l)) rights = refl

pub table_copied : (c : Option Cap) (rights : ℕ) → table_of (copied c rights) ≡ table_of c
table_copied None rights = refl
table_copied (Some (cap.Frame f r m)) rights = refl
table_copied (Some (cap.Table f m)) rights = refl
table_copied (Some (cap.Irq l)) rights = refl

pub line_copied : (c : Option Cap) (rights : ℕ) → line_of (copied c rights) ≡ line_of c
line_copied None rights = refl
line_copied (Some (cap.Frame f r m)) rights = refl
line_copied (Some (cap.Table f m)) rights = refl
line_copied (Some (cap.Irq l)) rights = refl

page_noted : (c : Option Cap) (at : Option ℕ) → page_of (noted c at) ≡ page_of c
page_noted None at = refl
page_noted (Some (cap.Frame f r m)) at = refl
page_noted (Some (cap.Table f m)) at = refl
page_noted (Some (cap.Irq l)) at = refl

table_noted : (c : Option Cap) (at : Option ℕ) → table_of (noted c at) ≡ table_of c
table_noted None at = refl
table_noted (Some (cap.Frame f r m)) at = refl
table_noted (Some (cap.Table f m)) at = refl
table_noted (Some (cap.Irq l)) at = refl

line_noted : (c : Option Cap) (at : Option ℕ) → line_of (noted c at) ≡ line_of c
line_noted None at = refl
line_noted (Some (cap.Frame f r m)) at = refl
line_noted (Some (cap.Table f m)) at = refl
line_noted (Some (cap.Irq l)) at = refl

-- ---- a table's frame has one slot, which owns it

pub table_is : (slots : Slots) (tables : List (Option ℕ)) → IsOwned table_of slots tables → IsSingle slots
    → (s : ℕ) → owner_at tables s ≡ table_of (cap_at slots s)
table_is slots tables h single s = sides (owner_at tables s) (table_of (cap_at slots s)) refl refl
  where
    sides : (o t : Option ℕ) → owner_at tables s ≡ o → table_of (cap_at slots s) ≡ t → o ≡ t
    sides None None x e = refl
    sides (Some f) t x e = sym (h.named s f x) ∙ e
    sides None (Some f) x e =
        let own : (j : ℕ) × (owner_at tables j ≡ Some f) = h.owner s f e in
        let here : owner_at tables s ≡ Some f =
        subst (λ (j : ℕ). owner_at tables j ≡ Some f) (single.once own.0 s f (h.named own.0 f own.1) e)
        own.1 in
        sym x ∙ here

module _ (slots : Slots) (pages tables : List (Option ℕ)) (h : IsSound slots pages tables) (s : ℕ) (below : s < 64) where
  below_slots : s < length slots
  below_slots = omega (arith, h.places, below)

  single_set : (c : Option Cap)
      → ((f i : ℕ) → table_of c ≡ Some f → i ≢ s → table_of (cap_at slots i) ≢ Some f)
      → IsSingle (slice_set slots s c)
  single_set c only = record {
    once =
        λ i j f. set_by slots s c None
        (λ i x. table_of x ≡ Some f → table_of (cap_at (slice_set slots s c) j) ≡ Some f → i ≡ j)
        below_slots
        (λ x. set_by slots s c None (λ j y. table_of y ≡ Some f → s ≡ j) below_slots (λ _. refl) (λ j n y. absurd (only f j x n y)) j)
        (λ i n x. set_by slots s c None (λ j y. table_of y ≡ Some f → i ≡ j) below_slots
        (λ y. absurd (only f i y n x)) (λ j _ y. h.single.once i j f x y) j) i;
  }

  lines_set : (c : Option Cap) → ((l : ℕ) → line_of c ≡ Some l → l < 32) → HasLines (slice_set slots s c)
  lines_set c few = record {
    few = λ i l. set_by slots s c None (λ i x. line_of x ≡ Some l → l < 32) below_slots (few l) (λ i _ x. h.lines.few i l x) i;
  }

  blank : (names : Option Cap → Option ℕ) → names None ≡ None → cap_at slots s ≡ None
      → names (cap_at slots s) ≡ None
  blank names none empty = ap names empty ∙ none

  pub put_page : (f r : ℕ) → cap_at slots s ≡ None → IsUnnamed slots f
      → IsSound (slice_set slots s (Some (cap.Frame f r None))) (slice_set pages s (Some f)) tables
  put_page f r empty new = record {
    places = length-set slots s (Some (cap.Frame f r None)) ∙ h.places;
    pages_owned =
        put_owned page_of slots pages h.places h.pages_owned s below (Some (cap.Frame f r None)) f refl
        (blank page_of refl empty) new.no_page;
    tables_owned =
        shared_owned table_of slots tables h.places h.tables_owned s below (Some (cap.Frame f r None))
        (blank table_of refl empty) (λ g x. absurd (cc x));
    single = single_set (Some (cap.Frame f r None)) (λ g i x. absurd (cc x));
    lines = lines_set (Some (cap.Frame f r None)) (λ l x. absurd (cc x));
  }

  pub put_table : (f : ℕ) → cap_at slots s ≡ None → IsUnnamed slots f
      → IsSound (slice_set slots s (Some (cap.Table f None))) pages (slice_set tables s (Some f))
  put_table f empty new = record {
    places = length-set slots s (Some (cap.Table f None)) ∙ h.places;
    pages_owned =
        shared_owned page_of slots pages h.places h.pages_owned s below (Some (cap.Table f None))
        (blank page_of refl empty) (λ g x. absurd (cc x));
    tables_owned =
        put_owned table_of slots tables h.places h.tables_owned s below (Some (cap.Table f None)) f refl
        (blank table_of refl empty) new.no_table;
    single = single_set (Some (cap.Table f None)) (λ g i x _ y. new.no_table i (y ∙ sym x));
    lines = lines_set (Some (cap.Table f None)) (λ l x. absurd (cc x));
  }

  pub put_line : (l : ℕ) → cap_at slots s ≡ None → l < 32
      → IsSound (slice_set slots s (Some (cap.Irq l))) pages tables
  put_line l empty few = record {
    places = length-set slots s (Some (cap.Irq l)) ∙ h.places;
    pages_owned =
        shared_owned page_of slots pages h.places h.pages_owned s below (Some (cap.Irq l))
        (blank page_of refl empty) (λ g x. absurd (cc x));
    tables_owned =
        shared_owned table_of slots tables h.places h.tables_owned s below (Some (cap.Irq l))
        (blank table_of refl empty) (λ g x. absurd (cc x));
    single = single_set (Some (cap.Irq l)) (λ g i x. absurd (cc x));
    lines = lines_set (Some (cap.Irq l)) (λ k x. let e : l ≡ k = cc x in subst (λ n. n < 32) e few);
  }

  pub copy_sound : (from rights : ℕ) → cap_at slots s ≡ None → table_of (cap_at slots from) ≡ None
      → IsSound (slice_set slots s (copied (cap_at slots from) rights)) pages tables
  copy_sound from rights empty no_table =
      let c : Option Cap = copied (cap_at slots from) rights in
      let none : table_of c ≡ None = table_copied (cap_at slots from) rights ∙ no_table in
      record {
        places = length-set slots s c ∙ h.places;
        pages_owned = shared_owned page_of slots pages h.places h.pages_owned s below c (blank page_of refl empty)
            (λ f x. h.pages_owned.owner from f (sym (page_copied (cap_at slots from) rights) ∙ x));
        tables_owned = shared_owned table_of slots tables h.places h.tables_owned s below c (blank table_of refl empty)
            (λ f x. let p : None ≡ Some f = sym none ∙ x in absurd (cc p));
        single = single_set c (λ f i x. let p : None ≡ Some f = sym none ∙ x in absurd (cc p));
        lines = lines_set c (λ l x. h.lines.few from l (sym (line_copied (cap_at slots from) rights) ∙ x));
      }

  pub note_sound : (at : Option ℕ) → IsSound (slice_set slots s (noted (cap_at slots s) at)) pages tables
  note_sound at =
      let c : Option Cap = noted (cap_at slots s) at in
      record {
        places = length-set slots s c ∙ h.places;
        pages_owned = same_owned page_of slots pages h.places h.pages_owned s below c (page_noted (cap_at slots s) at);
        tables_owned = same_owned table_of slots tables h.places h.tables_owned s below c (table_noted (cap_at slots s) at);
        single = single_set c (λ f i x n y. n (h.single.once i s f y (sym (table_noted (cap_at slots s) at) ∙ x)));
        lines = lines_set c (λ l x. h.lines.few s l (sym (line_noted (cap_at slots s) at) ∙ x));
      }

  pub delete_sound : (after : List (Option ℕ)) → IsOwned page_of (slice_set slots s None) after
      → IsSound (slice_set slots s None) after (slice_set tables s None)
  delete_sound after owned = record {
    places = length-set slots s None ∙ h.places;
    pages_owned = owned;
    tables_owned = left_owned table_of slots tables h.places h.tables_owned s below refl
        (λ f x i n y. n (h.single.once i s f y (h.tables_owned.named s f x)));
    single = single_set None (λ f i x. absurd (cc x));
    lines = lines_set None (λ l x. absurd (cc x));
  }

-- ---- at first

at_empty : {A : Type 0} (i : ℕ) → slice_index_or {A = Option A} (replicate 64 None) i None ≡ None
at_empty {A} i = elim (cases_lt i 64) [
  | inl lt ↦ get_or-replicate 64 i None None lt
  | inr ge ↦ get_or_past (replicate 64 None) i None (omega (arith, ge, length-replicate {A = Option A} 64 None))
]

no_owners : (names : Option Cap → Option ℕ) → names None ≡ None
    → IsOwned names (replicate 64 None) (replicate 64 None)
no_owners names blank = record {
  places = length-replicate {A = Option ℕ} 64 None;
  named = λ i f x. let p : None ≡ Some f = sym (at_empty i) ∙ x in absurd (cc p);
  owner = λ i f x. let p : None ≡ Some f = sym (ap names (at_empty i) ∙ blank) ∙ x in absurd (cc p);
  once = λ i j f x. let p : None ≡ Some f = sym (at_empty i) ∙ x in absurd (cc p);
}

pub empty_sound : IsSound (replicate 64 None) (replicate 64 None) (replicate 64 None)
empty_sound = record {
  places = length-replicate {A = Option Cap} 64 None;
  pages_owned = no_owners page_of refl;
  tables_owned = no_owners table_of refl;
  single = record { once = λ i j f x. let p : None ≡ Some f = sym (ap table_of (at_empty i)) ∙ x in absurd (cc p) };
  lines = record { few = λ i l x. let p : None ≡ Some l = sym (ap line_of (at_empty i)) ∙ x in absurd (cc p) };
}

-- ---- frames that no slot names

pub empty_at : (i : ℕ) → cap_at empty_slots i ≡ None
unfolding empty_slots
empty_at i = at_empty i

pub empty_unnamed : (frame : ℕ) → IsUnnamed empty_slots frame
empty_unnamed frame = record {
  no_page = λ i x. let p : None ≡ Some frame = sym (ap page_of (empty_at i)) ∙ x in absurd (cc p);
  no_table = λ i x. let p : None ≡ Some frame = sym (ap table_of (empty_at i)) ∙ x in absurd (cc p);
}

pub still_unnamed : (slots : Slots) (slot frame : ℕ) (c : Option Cap) → slot < length slots
    → IsUnnamed slots frame → page_of c ≢ Some frame → table_of c ≢ Some frame → IsUnnamed (slice_set slots slot c) frame
still_unnamed slots slot frame c below h no_page no_table = record {
  no_page = set_by slots slot c None (λ i d. page_of d ≢ Some frame) below no_page (λ i _. h.no_page i);
  no_table = set_by slots slot c None (λ i d. table_of d ≢ Some frame) below no_table (λ i _. h.no_table i);
}

-- what came back from an emptied slot, no slot names

pub page_unnamed : (slots : Slots) (slot : ℕ) → slot < length slots → (back : Option ℕ) → Back slots slot back
    → (f i : ℕ) → back ≡ Some f → page_of (cap_at (slice_set slots slot None) i) ≢ Some f
page_unnamed slots slot below None back f i x = absurd (cc x)
page_unnamed slots slot below (Some g) back f i x = set_by slots slot None None (λ i d. page_of d ≢ Some f) below (λ y. absurd (cc y))
    (λ i n y. back.1.none i n (y ∙ sym x)) i

pub table_unnamed : (slots : Slots) → IsSingle slots → (slot : ℕ) → slot < length slots
    → (f i : ℕ) → table_of (cap_at slots slot) ≡ Some f → table_of (cap_at (slice_set slots slot None) i) ≢ Some f
table_unnamed slots single slot below f i x = set_by slots slot None None (λ i d. table_of d ≢ Some f) below (λ y. absurd (cc y))
    (λ i n y. n (single.once i slot f y x)) i
