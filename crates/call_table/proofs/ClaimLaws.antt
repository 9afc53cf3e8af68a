-- Changes of one claim and one word, or of memory alone, that keep the facts.
use Rattle.std.proofs.Common.{◌≡◌, ◌≢◌, ℕ, Bool, true, false, cond, eqb, Option, Some, None, inl, inr, refl, ap, sym, subst, ◌∙◌, ne_eqb, eq-eqb}
use Rattle.std.proofs.lemmas.Bool.{cases_eq}
use Rattle.tp_base.specs.Rights.{are_good}
use Rattle.phys_mem.specs.Mem.{Mem, word, written, word-written_same, word-written_place, word-written_frame}
use Rattle.sv32_walk.specs.PageTableEntry.{valid, ppn, table_word, leaf_word}
use Rattle.sv32_walk.proofs.WordLemmas.{ppn-table, points-table, valid-zero}
use Rattle.call_table.specs.Claims.{Claim, Claims, frame_of, is_shared, leaf_at, IsTable, IsLeaf, IsMapped, Facts}
use Rattle.call_table.specs.Claims.Claim.{Nothing, Fixed, Leaf, Directory}

-- ---- words

pub zero_invalid : valid 0 ≡ true → ⊥
zero_invalid e = let w : true ≡ false = sym e ∙ valid-zero in absurd (cc w)

pub table_same : (f g : ℕ) → table_word f ≡ table_word g → f ≡ g
table_same f g e = sym (ppn-table f) ∙ ap ppn e ∙ ppn-table g

pub table_valid : (f : ℕ) → valid (table_word f) ≡ true
table_valid f = (points-table f).is_valid

-- ---- one claim is changed

unfoldable pub with_claim : Claims → ℕ → Claim → Claims
with_claim k s y i = cond (eqb i s) y (k i)

pub claim_same : (k : Claims) (s : ℕ) (y : Claim) → with_claim k s y s ≡ y
unfolding with_claim
claim_same k s y = rw (eq-eqb s s refl) refl

pub claim_other : (k : Claims) (s : ℕ) (y : Claim) (i : ℕ) → i ≢ s → with_claim k s y i ≡ k i
unfolding with_claim
claim_other k s y i h = rw (ne_eqb _ _ h) refl

-- a claim is the new one at its slot, or an old one elsewhere
pub claim_by : (k : Claims) (s : ℕ) (y : Claim) (P : ℕ → Claim → Type 0) → P s y
    → ((i : ℕ) → i ≢ s → P i (k i))
    → (i : ℕ) → P i (with_claim k s y i)
claim_by k s y P h g i = elim (cases_eq i s) [
  | inl e ↦ subst (λ (j : ℕ). P j (with_claim k s y j)) (sym e) (subst (P s) (sym (claim_same k s y)) h)
  | inr n ↦ subst (P i) (sym (claim_other k s y i n)) (g i n)
]

-- the new claim
pub at_slot : (k : Claims) (s : ℕ) (y : Claim) (i : ℕ) (c : Claim) → i ≡ s → with_claim k s y i ≡ c → y ≡ c
at_slot k s y i c e z = sym (claim_same k s y) ∙ ap (with_claim k s y) (sym e) ∙ z

-- an old claim stays
pub still : (k : Claims) (s : ℕ) (y : Claim) (j : ℕ) (c : Claim) → k j ≡ c → (k s ≡ c → ⊥)
    → with_claim k s y j ≡ c
still k s y j c e n = claim_other k s y j (λ q. n (subst (λ (i : ℕ). k i ≡ c) q e)) ∙ e

-- a claim comes from before
pub older : (k : Claims) (s : ℕ) (y : Claim) (i : ℕ) (c : Claim) → with_claim k s y i ≡ c → (y ≡ c → ⊥)
    → (i ≢ s) × (k i ≡ c)
older k s y i c e n = elim (cases_eq i s) [
  | inl q ↦ absurd (n (at_slot k s y i c q e))
  | inr q ↦ (q, sym (claim_other k s y i q) ∙ e)
]

place_in : Claim → ℕ
place_in Nothing = 0
place_in (Fixed f) = 0
place_in (Leaf b f w) = 0
place_in (Directory f None) = 0
place_in (Directory f (Some r)) = r

is_placed : Claim → Bool
is_placed (Directory f (Some r)) = true
is_placed (Directory f None) = false
is_placed Nothing = false
is_placed (Fixed f) = false
is_placed (Leaf b f w) = false

none_some_place : {g f r : ℕ} → Directory g None ≡ Directory f (Some r) → ⊥
unfolding is_placed
none_some_place e = let p : false ≡ true = ap is_placed e in absurd (cc p)

module _ (root : ℕ) (own : ℕ → Bool) where
  -- ---- what facts say of a table's claim

  -- a table's slot is the only one that names its frame
  pub one_slot : (k : Claims) (m : Mem) → Facts root own k m → (i j f : ℕ) (a b : Option ℕ)
      → k i ≡ Directory f a → k j ≡ Directory f b → i ≡ j
  unfolding frame_of is_shared
  one_slot k m h i j f a b x y = elim (cases_eq i j) [
    | inl e ↦ e
    | inr n ↦
        let both : (is_shared (k i) ≡ true) × (is_shared (k j) ≡ true) = h.apart i j f n (rw x refl) (rw y refl) in
        let no : false ≡ true = rw (← both.0, x) refl in
        absurd (cc no)
  ]

  pub not_root : (k : Claims) (m : Mem) → Facts root own k m → (i f : ℕ) (a : Option ℕ) → k i ≡ Directory f a
      → f ≢ root
  unfolding frame_of is_shared
  not_root k m h i f a x e = elim (cases_eq i h.root_slot) [
    | inl s ↦ let z : Directory f a ≡ Fixed root = sym x ∙ ap k s ∙ h.root_is in cc
    | inr n ↦
        let both : (is_shared (k i) ≡ true) × (is_shared (k h.root_slot) ≡ true) =
        h.apart i h.root_slot root n (rw x (ap Some e)) (rw h.root_is refl) in
        let no : is_shared (Directory f a) ≡ true = subst (λ (c : Claim). is_shared c ≡ true) x both.0 in
        cc
  ]

  pub same_place : (k : Claims) (m : Mem) → Facts root own k m → (i j f r q : ℕ)
      → k i ≡ Directory f (Some r) → k j ≡ Directory f (Some q) → r ≡ q
  unfolding place_in
  same_place k m h i j f r q x y = ap place_in (sym x ∙ ap k (one_slot k m h i j f (Some r) (Some q) x y) ∙ y)

  pub same_frame : (k : Claims) (m : Mem) → Facts root own k m → (i j f g r : ℕ)
      → k i ≡ Directory f (Some r) → k j ≡ Directory g (Some r) → f ≡ g
  same_frame k m h i j f g r x y = table_same f g (sym (h.installed i f r x) ∙ h.installed j g r y)

  -- ---- what a new claim must meet for the facts that name claims alone
  pub record Joins (k : Claims) (s : ℕ) (y : Claim) : Type 0 where
    pub owned : (f : ℕ) → frame_of y ≡ Some f → own f ≡ true
    pub apart : (j f : ℕ) → j ≢ s → frame_of y ≡ Some f → frame_of (k j) ≡ Some f
        → (is_shared y ≡ true) × (is_shared (k j) ≡ true)
    pub once : (j r t : ℕ) → j ≢ s → leaf_at y ≡ Some (r, t) → leaf_at (k j) ≡ Some (r, t) → ⊥

  -- two claims of one frame are both shared
  abbrev AreShared : ℕ → Claim → Claim → Type 0
  AreShared f c d = frame_of c ≡ Some f → frame_of d ≡ Some f → (is_shared c ≡ true) × (is_shared d ≡ true)

  -- two claims are not of one place
  abbrev AreApart : Claim → Claim → Type 0
  AreApart c d = (r t : ℕ) → leaf_at c ≡ Some (r, t) → leaf_at d ≡ Some (r, t) → ⊥

  module _ (k : Claims) (m : Mem) (h : Facts root own k m) (s : ℕ) (y : Claim) (z : Joins k s y) where
    new_owned : (i f : ℕ) → frame_of (with_claim k s y i) ≡ Some f → own f ≡ true
    new_owned = claim_by k s y (λ i c. (f : ℕ) → frame_of c ≡ Some f → own f ≡ true) z.owned (λ i n. h.owned i)

    new_apart : (i j f : ℕ) → i ≢ j → AreShared f (with_claim k s y i) (with_claim k s y j)
    new_apart =
        claim_by k s y (λ i c. (j f : ℕ) → i ≢ j → AreShared f c (with_claim k s y j))
        (claim_by k s y (λ j d. (f : ℕ) → s ≢ j → AreShared f y d)
        (λ f n. absurd (n refl))
        (λ j n f _. z.apart j f n))
        (λ i n. claim_by k s y (λ j d. (f : ℕ) → i ≢ j → AreShared f (k i) d)
        (λ f _ a b. let p = z.apart i f n b a in (p.1, p.0))
        (λ j _ f e. h.apart i j f e))

    new_once : (i j r t : ℕ) → i ≢ j → leaf_at (with_claim k s y i) ≡ Some (r, t)
        → leaf_at (with_claim k s y j) ≡ Some (r, t) → ⊥
    new_once i j r t n = pairs i j n r t
      where
        pairs : (i j : ℕ) → i ≢ j → AreApart (with_claim k s y i) (with_claim k s y j)
        pairs =
            claim_by k s y (λ i c. (j : ℕ) → i ≢ j → AreApart c (with_claim k s y j))
            (claim_by k s y (λ j d. s ≢ j → AreApart y d)
            (λ n. absurd (n refl))
            (λ j n _ r t. z.once j r t n))
            (λ i n. claim_by k s y (λ j d. i ≢ j → AreApart (k i) d)
            (λ _ r t a b. z.once i r t n b a)
            (λ j _ e r t. h.once i j r t e))

  -- ---- a word of an installed table is written, while the claim of a page changes
  pub record Writes (k : Claims) (s : ℕ) (y : Claim) (r t v : ℕ) : Type 0 where
    pub new : valid v ≡ true → IsLeaf (with_claim k s y) v r t
    pub was : (b : Bool) (g q u : ℕ) → k s ≡ Leaf b g (Some (q, u)) → (q ≡ r) × (u ≡ t)
    pub will : (b : Bool) (g q u : ℕ) → y ≡ Leaf b g (Some (q, u))
        → (q ≡ r) × (u ≡ t) × ((c : ℕ) × (are_good c ≡ true) × (v ≡ leaf_word g c))
    pub free : (i : ℕ) (b : Bool) (g : ℕ) → i ≢ s → k i ≡ Leaf b g (Some (r, t)) → ⊥
    pub page : (f : ℕ) (a : Option ℕ) → k s ≡ Directory f a → ⊥
    pub stays : (f : ℕ) (a : Option ℕ) → y ≡ Directory f a → ⊥
    pub fixed : (f : ℕ) → k s ≡ Fixed f → ⊥

  module _ (k : Claims) (m : Mem) (h : Facts root own k m) (s : ℕ) (y : Claim) (d f r t v : ℕ)
      (dir : k d ≡ Directory f (Some r)) (w : Writes k s y r t v) where
    abbrev next : Claims
    next = with_claim k s y

    abbrev after : Mem
    after = written m f t v

    write_old_leaf : (i g q u x : ℕ) → k i ≡ Directory g (Some q) → x ≡ word m g u → (q ≡ r → u ≡ t → ⊥)
        → valid x ≡ true → IsLeaf next x q u
    write_old_leaf i g q u x z e n ok =
        let l : IsLeaf k (word m g u) q u = h.leaves i g q u z (subst (λ (n : ℕ). valid n ≡ true) e ok) in
        record {
          slot = l.slot;
          by_cap = l.by_cap;
          frame = l.frame;
          rights = l.rights;
          claim = still k s y l.slot (Leaf l.by_cap l.frame (Some (q, u))) l.claim
              (λ a. let p = w.was l.by_cap l.frame q u a in n p.0 p.1);
          good = l.good;
          entry_is = e ∙ l.entry_is;
        }

    abbrev LeafIf : ℕ → ℕ → ℕ → Type 0
    LeafIf x q u = valid x ≡ true → IsLeaf next x q u

    write_new_leaf : (q u : ℕ) → q ≡ r → u ≡ t → LeafIf (word after f u) q u
    write_new_leaf q u p a =
        subst (λ (u : ℕ). LeafIf (word after f u) q u) (sym a)
        (subst (λ (q : ℕ). LeafIf (word after f t) q t) (sym p)
        (subst (λ (x : ℕ). LeafIf x r t) (sym (word-written_same m f t v)) w.new))

    write_in_table : (i q u : ℕ) → k i ≡ Directory f (Some q) → LeafIf (word after f u) q u
    write_in_table i q u x = elim (cases_eq u t) [
      | inl a ↦ write_new_leaf q u (same_place k m h i d f q r x dir) a
      | inr a ↦ write_old_leaf i f q u (word after f u) x (word-written_place m f t v u a) (λ _ b. a b)
    ]

    write_leaves : (i g q u : ℕ) → next i ≡ Directory g (Some q) → LeafIf (word after g u) q u
    write_leaves i g q u z =
        let x : k i ≡ Directory g (Some q) = (older k s y i (Directory g (Some q)) z (w.stays g (Some q))).1 in
        elim (cases_eq g f) [
          | inl e ↦ subst (λ (g : ℕ). LeafIf (word after g u) q u) (sym e)
              (write_in_table i q u (subst (λ (g : ℕ). k i ≡ Directory g (Some q)) e x))
          | inr n ↦ write_old_leaf i g q u (word after g u) x (word-written_frame m f t v g u n)
              (λ a _. n (same_frame k m h i d g f r (subst (λ (q : ℕ). k i ≡ Directory g (Some q)) a x) dir))
        ]

    write_root : (q : ℕ) → word after root q ≡ word m root q
    write_root q = word-written_frame m f t v root q (λ e. not_root k m h d f (Some r) dir (sym e))

    write_tables : (q : ℕ) → valid (word after root q) ≡ true → IsTable next (word after root q) q
    write_tables q ok =
        let l : IsTable k (word m root q) q = h.tables q (subst (λ (n : ℕ). valid n ≡ true) (write_root q) ok) in
        record {
          slot = l.slot;
          frame = l.frame;
          claim = still k s y l.slot (Directory l.frame (Some q)) l.claim (w.page l.frame (Some q));
          entry_is = write_root q ∙ l.entry_is;
        }

    write_new_mapped : (b : Bool) (g q u : ℕ) → y ≡ Leaf b g (Some (q, u)) → IsMapped next after g q u
    write_new_mapped b g q u z =
        let p = w.will b g q u z in
        subst (λ (q : ℕ). IsMapped next after g q u) (sym p.0)
        (subst (λ (u : ℕ). IsMapped next after g r u) (sym p.1)
        (record {
          slot = d;
          frame = f;
          rights = p.2.0;
          claim = still k s y d (Directory f (Some r)) dir (w.page f (Some r));
          good = p.2.1;
          entry_is = word-written_same m f t v ∙ p.2.2;
        }))

    -- the leaf of another claim is not written
    write_other : (i : ℕ) (b : Bool) (g q u e x : ℕ) → i ≢ s → k i ≡ Leaf b g (Some (q, u))
        → k e ≡ Directory x (Some q)
        → word after x u ≡ word m x u
    write_other i b g q u e x n z y = elim (cases_eq x f) [
      | inr a ↦ word-written_frame m f t v x u a
      | inl a ↦ subst (λ (x : ℕ). word after x u ≡ word m x u) (sym a) (elim (cases_eq u t) [
        | inr c ↦ word-written_place m f t v u c
        | inl c ↦
            let p : q ≡ r = same_place k m h e d f q r (subst (λ (x : ℕ). k e ≡ Directory x (Some q)) a y) dir in
            absurd (w.free i b g n (subst (λ (q : ℕ). k i ≡ Leaf b g (Some (q, t))) p
            (subst (λ (u : ℕ). k i ≡ Leaf b g (Some (q, u))) c z)))
      ])
    ]

    write_mapped : (i : ℕ) (b : Bool) (g q u : ℕ) → next i ≡ Leaf b g (Some (q, u))
        → IsMapped next after g q u
    write_mapped i b g q u z = elim (cases_eq i s) [
      | inl e ↦ write_new_mapped b g q u (at_slot k s y i (Leaf b g (Some (q, u))) e z)
      | inr n ↦
          let x : k i ≡ Leaf b g (Some (q, u)) = sym (claim_other k s y i n) ∙ z in
          let l : IsMapped k m g q u = h.mapped i b g q u x in
          record {
            slot = l.slot;
            frame = l.frame;
            rights = l.rights;
            claim = still k s y l.slot (Directory l.frame (Some q)) l.claim (w.page l.frame (Some q));
            good = l.good;
            entry_is = write_other i b g q u l.slot l.frame n x l.claim ∙ l.entry_is;
          }
    ]

    write_blank : (i g : ℕ) → next i ≡ Directory g None → (u : ℕ) → word after g u ≡ 0
    write_blank i g z u =
        let x : k i ≡ Directory g None = (older k s y i (Directory g None) z (w.stays g None)).1 in
        let apart : g ≢ f = λ e. none_some_place (sym x
        ∙ ap k (one_slot k m h i d f None (Some r) (subst (λ (g : ℕ). k i ≡ Directory g None) e x) dir) ∙ dir) in
        word-written_frame m f t v g u apart ∙ h.blank i g x u

    pub table_write : Joins k s y → Facts root own (with_claim k s y) (written m f t v)
    table_write j = record {
      root_slot = h.root_slot;
      root_is = still k s y h.root_slot (Fixed root) h.root_is (w.fixed root);
      owned = new_owned k m h s y j;
      apart = new_apart k m h s y j;
      once = new_once k m h s y j;
      tables = write_tables;
      leaves = write_leaves;
      installed = λ i g q z.
          write_root q ∙ h.installed i g q (older k s y i (Directory g (Some q)) z (w.stays g (Some q))).1;
      mapped = write_mapped;
      blank = write_blank;
    }

  -- ---- an entry of the root is written, while the claim of a table changes
  pub record Roots (k : Claims) (m : Mem) (s : ℕ) (y : Claim) (r v : ℕ) : Type 0 where
    pub new : valid v ≡ true → IsTable (with_claim k s y) v r
    pub was : (f q : ℕ) → k s ≡ Directory f (Some q) → q ≡ r
    pub will : (f q : ℕ) → y ≡ Directory f (Some q)
        → (q ≡ r) × (v ≡ table_word f) × (f ≢ root) × ((u : ℕ) → word m f u ≡ 0)
    pub free : (i f : ℕ) → i ≢ s → k i ≡ Directory f (Some r) → ⊥
    pub unused : (i : ℕ) (b : Bool) (g q u f : ℕ) → k i ≡ Leaf b g (Some (q, u)) → k s ≡ Directory f (Some q)
        → ⊥
    pub table : (b : Bool) (f : ℕ) (a : Option (ℕ × ℕ)) → k s ≡ Leaf b f a → ⊥
    pub stays : (b : Bool) (f : ℕ) (a : Option (ℕ × ℕ)) → y ≡ Leaf b f a → ⊥
    pub named : (f : ℕ) → y ≡ Directory f None → ⊥
    pub fixed : (f : ℕ) → k s ≡ Fixed f → ⊥

  module _ (k : Claims) (m : Mem) (h : Facts root own k m) (s : ℕ) (y : Claim) (r v : ℕ) (w : Roots k m s y r v) where
    abbrev rooted : Claims
    rooted = with_claim k s y

    abbrev root_after : Mem
    root_after = written m root r v

    abbrev TableIf : ℕ → ℕ → Type 0
    TableIf x q = valid x ≡ true → IsTable rooted x q

    root_tables : (q : ℕ) → TableIf (word root_after root q) q
    root_tables q = elim (cases_eq q r) [
      | inl e ↦ subst (λ (q : ℕ). TableIf (word root_after root q) q) (sym e)
          (subst (λ (x : ℕ). TableIf x r) (sym (word-written_same m root r v)) w.new)
      | inr n ↦ λ ok.
          let same : word root_after root q ≡ word m root q = word-written_place m root r v q n in
          let l : IsTable k (word m root q) q = h.tables q (subst (λ (n : ℕ). valid n ≡ true) same ok) in
          record {
            slot = l.slot;
            frame = l.frame;
            claim = still k s y l.slot (Directory l.frame (Some q)) l.claim (λ a. n (w.was l.frame q a));
            entry_is = same ∙ l.entry_is;
          }
    ]

    root_leaves : (i f q u : ℕ) → rooted i ≡ Directory f (Some q) → valid (word root_after f u) ≡ true
        → IsLeaf rooted (word root_after f u) q u
    root_leaves i f q u z ok = elim (cases_eq i s) [
      | inl e ↦
          let p = w.will f q (at_slot k s y i (Directory f (Some q)) e z) in
          absurd (zero_invalid (subst (λ (x : ℕ). valid x ≡ true) (word-written_frame m root r v f u p.2 ∙ p.3 u) ok))
      | inr n ↦
          let x : k i ≡ Directory f (Some q) = sym (claim_other k s y i n) ∙ z in
          let same : word root_after f u ≡ word m f u = word-written_frame m root r v f u (not_root k m h i f (Some q) x) in
          let l : IsLeaf k (word m f u) q u = h.leaves i f q u x (subst (λ (n : ℕ). valid n ≡ true) same ok) in
          record {
            slot = l.slot;
            by_cap = l.by_cap;
            frame = l.frame;
            rights = l.rights;
            claim = still k s y l.slot (Leaf l.by_cap l.frame (Some (q, u))) l.claim (w.table l.by_cap l.frame (Some (q, u)));
            good = l.good;
            entry_is = same ∙ l.entry_is;
          }
    ]

    root_installed : (i f q : ℕ) → rooted i ≡ Directory f (Some q) → word root_after root q ≡ table_word f
    root_installed i f q z = elim (cases_eq i s) [
      | inl e ↦
          let p = w.will f q (at_slot k s y i (Directory f (Some q)) e z) in
          subst (λ (q : ℕ). word root_after root q ≡ table_word f) (sym p.0) (word-written_same m root r v ∙ p.1)
      | inr n ↦
          let x : k i ≡ Directory f (Some q) = sym (claim_other k s y i n) ∙ z in
          let other : q ≢ r = λ e. w.free i f n (subst (λ (q : ℕ). k i ≡ Directory f (Some q)) e x) in
          word-written_place m root r v q other ∙ h.installed i f q x
    ]

    root_mapped : (i : ℕ) (b : Bool) (g q u : ℕ) → rooted i ≡ Leaf b g (Some (q, u))
        → IsMapped rooted root_after g q u
    root_mapped i b g q u z =
        let x : k i ≡ Leaf b g (Some (q, u)) = (older k s y i (Leaf b g (Some (q, u))) z (w.stays b g (Some (q, u)))).1 in
        let l : IsMapped k m g q u = h.mapped i b g q u x in
        record {
          slot = l.slot;
          frame = l.frame;
          rights = l.rights;
          claim = still k s y l.slot (Directory l.frame (Some q)) l.claim (w.unused i b g q u l.frame x);
          good = l.good;
          entry_is = word-written_frame m root r v l.frame u (not_root k m h l.slot l.frame (Some q) l.claim) ∙ l.entry_is;
        }

    root_blank : (i f : ℕ) → rooted i ≡ Directory f None → (u : ℕ) → word root_after f u ≡ 0
    root_blank i f z u =
        let x : k i ≡ Directory f None = (older k s y i (Directory f None) z (w.named f)).1 in
        word-written_frame m root r v f u (not_root k m h i f None x) ∙ h.blank i f x u

    pub root_write : Joins k s y → Facts root own (with_claim k s y) (written m root r v)
    root_write j = record {
      root_slot = h.root_slot;
      root_is = still k s y h.root_slot (Fixed root) h.root_is (w.fixed root);
      owned = new_owned k m h s y j;
      apart = new_apart k m h s y j;
      once = new_once k m h s y j;
      tables = root_tables;
      leaves = root_leaves;
      installed = root_installed;
      mapped = root_mapped;
      blank = root_blank;
    }

  -- ---- a claim that stands for no entry changes to another such
  pub record Loose (k : Claims) (m : Mem) (s : ℕ) (y : Claim) : Type 0 where
    pub was_table : (f q : ℕ) → k s ≡ Directory f (Some q) → ⊥
    pub was_leaf : (b : Bool) (g q u : ℕ) → k s ≡ Leaf b g (Some (q, u)) → ⊥
    pub is_table : (f q : ℕ) → y ≡ Directory f (Some q) → ⊥
    pub is_leaf : (b : Bool) (g q u : ℕ) → y ≡ Leaf b g (Some (q, u)) → ⊥
    pub blank : (f : ℕ) → y ≡ Directory f None → (u : ℕ) → word m f u ≡ 0
    pub fixed : (f : ℕ) → k s ≡ Fixed f → ⊥

  module _ (k : Claims) (m : Mem) (h : Facts root own k m) (s : ℕ) (y : Claim) (w : Loose k m s y) where
    abbrev loosened : Claims
    loosened = with_claim k s y

    loose_tables : (q : ℕ) → valid (word m root q) ≡ true → IsTable loosened (word m root q) q
    loose_tables q ok =
        let l : IsTable k (word m root q) q = h.tables q ok in
        record {
          slot = l.slot;
          frame = l.frame;
          claim = still k s y l.slot (Directory l.frame (Some q)) l.claim (w.was_table l.frame q);
          entry_is = l.entry_is;
        }

    loose_leaves : (i f q u : ℕ) → loosened i ≡ Directory f (Some q) → valid (word m f u) ≡ true
        → IsLeaf loosened (word m f u) q u
    loose_leaves i f q u z ok =
        let l : IsLeaf k (word m f u) q u = h.leaves i f q u (older k s y i (Directory f (Some q)) z (w.is_table f q)).1 ok in
        record {
          slot = l.slot;
          by_cap = l.by_cap;
          frame = l.frame;
          rights = l.rights;
          claim = still k s y l.slot (Leaf l.by_cap l.frame (Some (q, u))) l.claim (w.was_leaf l.by_cap l.frame q u);
          good = l.good;
          entry_is = l.entry_is;
        }

    loose_mapped : (i : ℕ) (b : Bool) (g q u : ℕ) → loosened i ≡ Leaf b g (Some (q, u))
        → IsMapped loosened m g q u
    loose_mapped i b g q u z =
        let l : IsMapped k m g q u = h.mapped i b g q u (older k s y i (Leaf b g (Some (q, u))) z (w.is_leaf b g q u)).1 in
        record {
          slot = l.slot;
          frame = l.frame;
          rights = l.rights;
          claim = still k s y l.slot (Directory l.frame (Some q)) l.claim (w.was_table l.frame q);
          good = l.good;
          entry_is = l.entry_is;
        }

    loose_blank : (i f : ℕ) → loosened i ≡ Directory f None → (u : ℕ) → word m f u ≡ 0
    loose_blank = claim_by k s y (λ i c. (f : ℕ) → c ≡ Directory f None → (u : ℕ) → word m f u ≡ 0) w.blank (λ i _. h.blank i)

    pub loose : Joins k s y → Facts root own (with_claim k s y) m
    loose j = record {
      root_slot = h.root_slot;
      root_is = still k s y h.root_slot (Fixed root) h.root_is (w.fixed root);
      owned = new_owned k m h s y j;
      apart = new_apart k m h s y j;
      once = new_once k m h s y j;
      tables = loose_tables;
      leaves = loose_leaves;
      installed = λ i f q z. h.installed i f q (older k s y i (Directory f (Some q)) z (w.is_table f q)).1;
      mapped = loose_mapped;
      blank = loose_blank;
    }

  -- ---- memory changes in one frame, which is no table and not the root
  module _ (k : Claims) (m n : Mem) (h : Facts root own k m) (g : ℕ)
      (no_table : (i : ℕ) (a : Option ℕ) → k i ≡ Directory g a → ⊥) (not_the_root : g ≢ root)
      (same : (f u : ℕ) → f ≢ g → word n f u ≡ word m f u) where
    same_root : (q : ℕ) → word n root q ≡ word m root q
    same_root q = same root q (λ e. not_the_root (sym e))

    same_table : (i f : ℕ) (a : Option ℕ) (u : ℕ) → k i ≡ Directory f a → word n f u ≡ word m f u
    same_table i f a u x = same f u (λ e. no_table i a (subst (λ (f : ℕ). k i ≡ Directory f a) e x))

    pub elsewhere : Facts root own k n
    elsewhere = record {
      root_slot = h.root_slot;
      root_is = h.root_is;
      owned = h.owned;
      apart = h.apart;
      once = h.once;
      tables = λ q. subst (λ (x : ℕ). valid x ≡ true → IsTable k x q) (sym (same_root q)) (h.tables q);
      leaves = λ i f q u z.
          subst (λ (x : ℕ). valid x ≡ true → IsLeaf k x q u) (sym (same_table i f (Some q) u z)) (h.leaves i f q u z);
      installed = λ i f q z. same_root q ∙ h.installed i f q z;
      mapped = λ i b f q u z.
          let l : IsMapped k m f q u = h.mapped i b f q u z in
          record {
            slot = l.slot;
            frame = l.frame;
            rights = l.rights;
            claim = l.claim;
            good = l.good;
            entry_is = same_table l.slot l.frame (Some q) u l.claim ∙ l.entry_is;
          };
      blank = λ i f z u. same_table i f None u z ∙ h.blank i f z u;
    }
