-- Owned frames after a slot is written.
use Rattle.std.proofs.Common.{rules, ◌≡◌, ◌≢◌, ℕ, ◌<◌, List, length, slice_index_or, slice_set, Option, Some, None, ◌⊎◌, inl, inr, refl, ap, sym, subst, ◌∙◌, arith, get_or-set_same, get_or-set_other}
use Rattle.std.proofs.lemmas.Bool.{cases_eq}
use Rattle.std.proofs.lemmas.List.{length-set}
use Rattle.cap_table.specs.declared.Cap.{Cap}
use Rattle.cap_table.specs.Slots.{Slots, cap_at, page_of}
use Rattle.cap_table.specs.Owning.{owner_at, IsOwned, NoOther, Back, IsOther}

-- ---- a list after a write

pub set_same : {A : Type 0} (xs : List A) (s : ℕ) (v d : A) → s < length xs
    → slice_index_or (slice_set xs s v) s d ≡ v
set_same xs s v d h = search (rules, get_or-set_same)

pub set_other : {A : Type 0} (xs : List A) (s : ℕ) (v d : A) (i : ℕ) → i ≢ s
    → slice_index_or (slice_set xs s v) i d ≡ slice_index_or xs i d
set_other xs s v d i h = search (rules, get_or-set_other)

-- what is true of the value written and of each other place
pub set_by : {A : Type 0} (xs : List A) (s : ℕ) (v d : A) (P : ℕ → A → Type 0) → s < length xs → P s v
    → ((i : ℕ) → i ≢ s → P i (slice_index_or xs i d)) → (i : ℕ) → P i (slice_index_or (slice_set xs s v) i d)
set_by xs s v d P below h g i = elim (cases_eq i s) [
  | inl e ↦ subst (λ (j : ℕ). P j (slice_index_or (slice_set xs s v) j d)) (sym e) (subst (P s) (sym (set_same xs s v d below)) h)
  | inr n ↦ subst (P i) (sym (set_other xs s v d i n)) (g i n)
]

-- ---- owners after a write

module _ (names : Option Cap → Option ℕ) (slots : Slots) (owners : List (Option ℕ))
    (places : length slots ≡ 64) (h : IsOwned names slots owners) (s : ℕ) (below : s < 64) where
  below_slots : s < length slots
  below_slots = omega (arith, places, below)

  below_owners : s < length owners
  below_owners = omega (arith, h.places, below)

  -- a slot that names no frame owns none
  owns_none : names (cap_at slots s) ≡ None → (f : ℕ) → owner_at owners s ≡ Some f → ⊥
  owns_none e f x = let p : None ≡ Some f = sym e ∙ h.named s f x in absurd (cc p)

  -- a slot that named none names and owns a frame that none named
  pub put_owned : (c : Option Cap) (f : ℕ) → names c ≡ Some f → names (cap_at slots s) ≡ None
      → ((i : ℕ) → names (cap_at slots i) ≢ Some f)
      → IsOwned names (slice_set slots s c) (slice_set owners s (Some f))
  put_owned c f is e new = record {
    places = length-set owners s (Some f) ∙ h.places;
    named = λ i g. set_by owners s (Some f) None (λ i x. x ≡ Some g → names (cap_at (slice_set slots s c) i) ≡ Some g) below_owners
        (λ x. ap names (set_same slots s c None below_slots) ∙ (is ∙ x))
        (λ i n x. ap names (set_other slots s c None i n) ∙ h.named i g x) i;
    owner =
        λ i g. set_by slots s c None
        (λ i d. names d ≡ Some g → (j : ℕ) × (owner_at (slice_set owners s (Some f)) j ≡ Some g))
        below_slots
        (λ x. (s, set_same owners s (Some f) None below_owners ∙ (sym is ∙ x)))
        (λ i n x.
        let o : (j : ℕ) × (owner_at owners j ≡ Some g) = h.owner i g x in
        (o.0, set_other owners s (Some f) None o.0 (λ q. owns_none e g (subst (λ (j : ℕ). owner_at owners j ≡ Some g) q o.1)) ∙ o.1)) i;
    once =
        λ i j g. set_by owners s (Some f) None
        (λ i x. x ≡ Some g → owner_at (slice_set owners s (Some f)) j ≡ Some g → i ≡ j) below_owners
        (λ x. set_by owners s (Some f) None (λ j y. y ≡ Some g → s ≡ j) below_owners (λ _. refl)
        (λ j n y. absurd (new j (h.named j g y ∙ sym x))) j)
        (λ i n x. set_by owners s (Some f) None (λ j y. y ≡ Some g → i ≡ j) below_owners
        (λ y. absurd (new i (h.named i g x ∙ sym y))) (λ j _ y. h.once i j g x y) j) i;
  }

  -- a slot that named none names a frame that is owned, or none
  pub shared_owned : (c : Option Cap) → names (cap_at slots s) ≡ None
      → ((f : ℕ) → names c ≡ Some f → (j : ℕ) × (owner_at owners j ≡ Some f))
      → IsOwned names (slice_set slots s c) owners
  shared_owned c e owned = record {
    places = h.places;
    named =
        λ i g x. ap names (set_other slots s c None i
        (λ q. owns_none e g (subst (λ (j : ℕ). owner_at owners j ≡ Some g) q x))) ∙ h.named i g x;
    owner = λ i g. set_by slots s c None (λ i d. names d ≡ Some g → (j : ℕ) × (owner_at owners j ≡ Some g)) below_slots
        (λ x. owned g x) (λ i _ x. h.owner i g x) i;
    once = h.once;
  }

  -- a slot names what it named
  pub same_owned : (c : Option Cap) → names c ≡ names (cap_at slots s)
      → IsOwned names (slice_set slots s c) owners
  same_owned c same =
      let each : (i : ℕ) → names (cap_at (slice_set slots s c) i) ≡ names (cap_at slots i) =
      set_by slots s c None (λ i d. names d ≡ names (cap_at slots i)) below_slots same (λ i _. refl) in
      record {
        places = h.places;
        named = λ i g x. each i ∙ h.named i g x;
        owner = λ i g x. h.owner i g (sym (each i) ∙ x);
        once = h.once;
      }

  -- a slot is emptied, and what it owned comes back: no other slot named it
  pub left_owned : names None ≡ None
      → ((f : ℕ) → owner_at owners s ≡ Some f → (i : ℕ) → i ≢ s → names (cap_at slots i) ≢ Some f)
      → IsOwned names (slice_set slots s None) (slice_set owners s None)
  left_owned blank only = record {
    places = length-set owners s None ∙ h.places;
    named = λ i g. set_by owners s None None (λ i x. x ≡ Some g → names (cap_at (slice_set slots s None) i) ≡ Some g) below_owners
        (λ x. absurd (cc x))
        (λ i n x. ap names (set_other slots s None None i n) ∙ h.named i g x) i;
    owner =
        λ i g. set_by slots s None None
        (λ i d. names d ≡ Some g → (j : ℕ) × (owner_at (slice_set owners s None) j ≡ Some g)) below_slots
        (λ x. let p : None ≡ Some g = sym blank ∙ x in absurd (cc p))
        (λ i n x.
        let o : (j : ℕ) × (owner_at owners j ≡ Some g) = h.owner i g x in
        (o.0, set_other owners s None None o.0 (λ q. only g (subst (λ (j : ℕ). owner_at owners j ≡ Some g) q o.1) i n x) ∙ o.1)) i;
    once = λ i j g. set_by owners s None None (λ i x. x ≡ Some g → owner_at (slice_set owners s None) j ≡ Some g → i ≡ j) below_owners
        (λ x. absurd (cc x))
        (λ i n x. set_by owners s None None (λ j y. y ≡ Some g → i ≡ j) below_owners (λ y. absurd (cc y)) (λ j _ y. h.once i j g x y) j) i;
  }

  -- the frame goes from an emptied slot to another that names it
  pub moved_owned : names None ≡ None → (f t : ℕ) → owner_at owners s ≡ Some f → t < 64 → t ≢ s
      → names (cap_at slots t) ≡ Some f
      → IsOwned names (slice_set slots s None) (slice_set (slice_set owners s None) t (Some f))
  moved_owned blank f t x lt n p =
      let inner : (i : ℕ) → i ≢ t → i ≢ s → owner_at (slice_set (slice_set owners s None) t (Some f)) i ≡ owner_at owners i =
      λ i a b. set_other (slice_set owners s None) t (Some f) None i a ∙ set_other owners s None None i b in
      let lt' : t < length (slice_set owners s None) = omega (arith, length-set owners s None, h.places, lt) in
      let at_t : owner_at (slice_set (slice_set owners s None) t (Some f)) t ≡ Some f =
      set_same (slice_set owners s None) t (Some f) None lt' in
      let back : (i g : ℕ) → owner_at (slice_set (slice_set owners s None) t (Some f)) i ≡ Some g
      → ((i ≡ t) × (f ≡ g)) ⊎ ((i ≢ t) × (i ≢ s) × (owner_at owners i ≡ Some g)) =
      λ i g. set_by (slice_set owners s None) t (Some f) None
      (λ i x. x ≡ Some g → ((i ≡ t) × (f ≡ g)) ⊎ ((i ≢ t) × (i ≢ s) × (owner_at owners i ≡ Some g))) lt'
      (λ x. inl (refl, cc x))
      (λ i a. set_by owners s None None
      (λ i x. i ≢ t → x ≡ Some g → ((i ≡ t) × (f ≡ g)) ⊎ ((i ≢ t) × (i ≢ s) × (owner_at owners i ≡ Some g)))
      below_owners
      (λ _ x. absurd (cc x)) (λ i b a x. inr (a, b, x)) i a) i in
      record {
        places = length-set (slice_set owners s None) t (Some f) ∙ (length-set owners s None ∙ h.places);
        named = λ i g y. elim (back i g y) [
          | inl q ↦ ap names (set_other slots s None None i (λ z. n (sym q.0 ∙ z)))
              ∙ (subst (λ (j : ℕ). names (cap_at slots j) ≡ Some f) (sym q.0) p ∙ ap Some q.1)
          | inr q ↦ ap names (set_other slots s None None i q.1) ∙ h.named i g q.2
        ];
        owner =
            λ i g. set_by slots s None None
            (λ i d. names d ≡ Some g
            → (j : ℕ) × (owner_at (slice_set (slice_set owners s None) t (Some f)) j ≡ Some g))
            below_slots
            (λ y. let z : None ≡ Some g = sym blank ∙ y in absurd (cc z))
            (λ i _ y.
            let o : (j : ℕ) × (owner_at owners j ≡ Some g) = h.owner i g y in
            elim (cases_eq o.0 s) [
              | inl q ↦ (t, at_t ∙ (sym x ∙ (ap (owner_at owners) (sym q) ∙ o.1)))
              | inr q ↦ elim (cases_eq o.0 t) [
                | inl z ↦ (t, at_t ∙ (sym p ∙ (sym (ap (λ j. names (cap_at slots j)) z) ∙ h.named o.0 g o.1)))
                | inr z ↦ (o.0, inner o.0 z q ∙ o.1)
              ]
            ]) i;
        once = λ i j g y z. elim (back i g y) [
          | inl q ↦ elim (back j g z) [
            | inl w ↦ q.0 ∙ sym w.0
            | inr w ↦ absurd (w.1 (h.once j s g w.2 (x ∙ ap Some q.1)))
          ]
          | inr q ↦ elim (back j g z) [
            | inl w ↦ absurd (q.1 (h.once i s g q.2 (x ∙ ap Some w.1)))
            | inr w ↦ h.once i j g q.2 w.2
          ]
        ];
      }

-- ---- the page of a slot that is emptied

-- no slot below a number but one names a page
pub record NoneTo (slots : Slots) (slot frame to : ℕ) : Type 0 where
  pub none : (i : ℕ) → i < to → i ≢ slot → page_of (cap_at slots i) ≢ Some frame

module _ (slots : Slots) (held : List (Option ℕ)) (places : length slots ≡ 64)
    (h : IsOwned page_of slots held) (s : ℕ) (below : s < 64) where
  -- a slot that owns none names none, or what another slot owns
  pub back_none : owner_at held s ≡ None → Back slots s None
  back_none x = λ f names.
      let o : (j : ℕ) × (owner_at held j ≡ Some f) = h.owner s f names in
      (o.0, (λ q. let p : None ≡ Some f = sym x ∙ subst (λ (j : ℕ). owner_at held j ≡ Some f) q o.1 in absurd (cc p)), h.named o.0 f o.1)

  pub owned_none : owner_at held s ≡ None → IsOwned page_of (slice_set slots s None) (slice_set held s None)
  owned_none x = left_owned page_of slots held places h s below refl (λ f y. let p : None ≡ Some f = sym x ∙ y in absurd (cc p))

  pub back_last : (f : ℕ) → owner_at held s ≡ Some f → NoOther slots s f → Back slots s (Some f)
  back_last f x other = (h.named s f x, other)

  pub owned_last : (f : ℕ) → owner_at held s ≡ Some f → NoOther slots s f
      → IsOwned page_of (slice_set slots s None) (slice_set held s None)
  owned_last f x other = left_owned page_of slots held places h s below refl
      (λ g y i n names. other.none i n (names ∙ (sym y ∙ x)))

  pub back_moved : (f t : ℕ) → owner_at held s ≡ Some f → IsOther slots s f (Some t) → Back slots s None
  back_moved f t x o = λ g names. (t, o.0, o.2 ∙ (sym (h.named s f x) ∙ names))

  pub owned_moved : (f t : ℕ) → owner_at held s ≡ Some f → IsOther slots s f (Some t)
      → IsOwned page_of (slice_set slots s None) (slice_set (slice_set held s None) t (Some f))
  owned_moved f t x o = moved_owned page_of slots held places h s below refl f t x (omega (arith, o.1, places)) o.0 o.2
