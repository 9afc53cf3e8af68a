-- What a call does to claims and memory keeps the facts.
use Rattle.std.proofs.Common.{◌≡◌, ◌≢◌, ℕ, Bool, true, false, Option, Some, None, ◌⊎◌, inl, inr, refl, ap, sym, subst, ◌∙◌}
use Rattle.std.proofs.lemmas.Bool.{cases_eq}
use Rattle.tp_base.specs.Rights.{are_good}
use Rattle.phys_mem.specs.Mem.{Mem, word, written, zeroed_frame, word-zeroed_same, word-zeroed_other}
use Rattle.sv32_walk.specs.PageTableEntry.{valid, table_word, leaf_word}
use Rattle.sv32_walk.proofs.WordLemmas.{valid-leaf}
use Rattle.call_table.specs.Claims.{Claim, Claims, frame_of, is_shared, leaf_at, IsMapped, Facts}
use Rattle.call_table.specs.Claims.Claim.{Nothing, Fixed, Leaf, Directory}
use Rattle.call_table.proofs.ClaimLaws.{zero_invalid, table_valid, with_claim, claim_same, Joins, table_write, root_write, loose, elsewhere, same_frame, one_slot, not_root}

pub record LeafIs (c : Claim) (r t : ℕ) : Type 0 where
  pub by_cap : Bool
  pub frame : ℕ
  pub is : c ≡ Leaf by_cap frame (Some (r, t))

pub leaf_is : (c : Claim) (r t : ℕ) → leaf_at c ≡ Some (r, t) → LeafIs c r t
unfolding leaf_at
leaf_is Nothing r t e = absurd (cc e)
leaf_is (Fixed f) r t e = absurd (cc e)
leaf_is (Leaf b f w) r t e = record { by_cap = b; frame = f; is = ap (Leaf b f) e }
leaf_is (Directory f w) r t e = absurd (cc e)

in_root : Option (ℕ × ℕ) → ℕ
in_root None = 0
in_root (Some p) = p.0

in_table : Option (ℕ × ℕ) → ℕ
in_table None = 0
in_table (Some p) = p.1

pub leaf_same : {b a : Bool} {f x r t q u : ℕ} → Leaf b f (Some (r, t)) ≡ Leaf a x (Some (q, u))
    → (q ≡ r) × (u ≡ t)
unfolding leaf_at in_root in_table
leaf_same e = (sym (ap (λ c. in_root (leaf_at c)) e), sym (ap (λ c. in_table (leaf_at c)) e))

module _ (root : ℕ) (own : ℕ → Bool) (k : Claims) (m : Mem) (h : Facts root own k m) (s : ℕ) where
  -- a page takes another place
  joins_page : (b : Bool) (f : ℕ) (w x : Option (ℕ × ℕ)) → k s ≡ Leaf b f w
      → ((j r t : ℕ) → j ≢ s → x ≡ Some (r, t) → leaf_at (k j) ≡ Some (r, t) → ⊥) → Joins root own k s (Leaf b f x)
  unfolding frame_of is_shared leaf_at
  joins_page b f w x e free = record {
    owned = λ g a. h.owned s g (rw e a);
    apart = λ j g n a c.
        let p : (is_shared (k s) ≡ true) × (is_shared (k j) ≡ true) = h.apart s j g (λ q. n (sym q)) (rw e a) c in
        (subst (λ (z : Claim). is_shared z ≡ true) e p.0, p.1);
    once = free;
  }

  joins_nothing : Joins root own k s Nothing
  unfolding frame_of is_shared leaf_at
  joins_nothing = record {
    owned = λ g a. absurd (cc a);
    apart = λ j g n a c. absurd (cc a);
    once = λ j r t n a c. absurd (cc a);
  }

  -- the word of a mapped page is valid
  pub mapped_valid : (i : ℕ) (b : Bool) (g r t d f : ℕ) → k i ≡ Leaf b g (Some (r, t))
      → k d ≡ Directory f (Some r)
      → valid (word m f t) ≡ true
  mapped_valid i b g r t d f x z =
      let l : IsMapped k m g r t = h.mapped i b g r t x in
      let e : l.frame ≡ f = same_frame root own k m h l.slot d l.frame f r l.claim z in
      subst (λ (f : ℕ). valid (word m f t) ≡ true) e
      (subst (λ (x : ℕ). valid x ≡ true) (sym l.entry_is) (valid-leaf g l.rights l.good))

  pub mapping : (b : Bool) (f : ℕ) → k s ≡ Leaf b f None → (d g r t c : ℕ) → are_good c ≡ true
      → k d ≡ Directory g (Some r)
      → valid (word m g t) ≡ false → Facts root own (with_claim k s (Leaf b f (Some (r, t)))) (written m g t (leaf_word f c))
  unfolding leaf_at
  mapping b f e d g r t c good z bad =
      let free : (i : ℕ) (a : Bool) (x : ℕ) → k i ≡ Leaf a x (Some (r, t)) → ⊥ =
      λ i a x q. let p : false ≡ true = sym bad ∙ mapped_valid i a x r t d g q z in absurd (cc p) in
      table_write root own k m h s (Leaf b f (Some (r, t))) d g r t (leaf_word f c) z
      (record {
        new = λ _. record {
          slot = s;
          by_cap = b;
          frame = f;
          rights = c;
          claim = claim_same k s (Leaf b f (Some (r, t)));
          good = good;
          entry_is = refl;
        };
        was = λ a x q u p. let w : Leaf b f None ≡ Leaf a x (Some (q, u)) = sym e ∙ p in absurd (cc w);
        will = λ a x q u p.
            let w = leaf_same p in
            let same : f ≡ x = cc p in
            (w.0, w.1, (c, good, ap (λ f. leaf_word f c) same));
        free = λ i a x n. free i a x;
        page = λ x a p. let w : Leaf b f None ≡ Directory x a = sym e ∙ p in absurd (cc w);
        stays = λ x a p. absurd (cc p);
        fixed = λ x p. let w : Leaf b f None ≡ Fixed x = sym e ∙ p in absurd (cc w);
      })
      (joins_page b f None (Some (r, t)) e
      (λ j q u n p x.
      let l : LeafIs (k j) q u = leaf_is (k j) q u x in
      let same : Some (q, u) ≡ Some (r, t) = sym p in
      free j l.by_cap l.frame (l.is ∙ ap (Leaf l.by_cap l.frame) same)))

  -- a leaf is cleared, and no claim of the page is left
  pub clearing : (b : Bool) (f : ℕ) (r t d g : ℕ) → k s ≡ Leaf b f (Some (r, t)) → k d ≡ Directory g (Some r)
      → Facts root own (with_claim k s Nothing) (written m g t 0)
  unfolding leaf_at
  clearing b f r t d g e z =
      table_write root own k m h s Nothing d g r t 0 z
      (record {
        new = λ p. absurd (zero_invalid p);
        was = λ a x q u p. leaf_same (sym e ∙ p);
        will = λ a x q u p. absurd (cc p);
        free = λ i a x n p. h.once i s r t n (rw p refl) (rw e refl);
        page = λ x a p. let w : Leaf b f (Some (r, t)) ≡ Directory x a = sym e ∙ p in absurd (cc w);
        stays = λ x a p. absurd (cc p);
        fixed = λ x p. let w : Leaf b f (Some (r, t)) ≡ Fixed x = sym e ∙ p in absurd (cc w);
      })
      joins_nothing

  -- a leaf is cleared: the page is mapped nowhere
  pub unmapping : (b : Bool) (f : ℕ) (r t d g : ℕ) → k s ≡ Leaf b f (Some (r, t)) → k d ≡ Directory g (Some r)
      → Facts root own (with_claim k s (Leaf b f None)) (written m g t 0)
  unfolding leaf_at
  unmapping b f r t d g e z =
      table_write root own k m h s (Leaf b f None) d g r t 0 z
      (record {
        new = λ p. absurd (zero_invalid p);
        was = λ a x q u p. leaf_same (sym e ∙ p);
        will = λ a x q u p. absurd (cc p);
        free = λ i a x n p. h.once i s r t n (rw p refl) (rw e refl);
        page = λ x a p. let w : Leaf b f (Some (r, t)) ≡ Directory x a = sym e ∙ p in absurd (cc w);
        stays = λ x a p. absurd (cc p);
        fixed = λ x p. let w : Leaf b f (Some (r, t)) ≡ Fixed x = sym e ∙ p in absurd (cc w);
      })
      (joins_page b f (Some (r, t)) None e (λ j q u n p x. absurd (cc p)))

  pub uninstalling : (f r : ℕ) → k s ≡ Directory f (Some r)
      → ((i : ℕ) (b : Bool) (g u : ℕ) → k i ≡ Leaf b g (Some (r, u)) → ⊥)
      → Facts root own (with_claim k s Nothing) (written m root r 0)
  uninstalling f r e none =
      root_write root own k m h s Nothing r 0
      (record {
        new = λ p. absurd (zero_invalid p);
        was = λ x q p. let w : Directory f (Some r) ≡ Directory x (Some q) = sym e ∙ p in cc w;
        will = λ x q p. absurd (cc p);
        free = λ i x n p.
            let same : f ≡ x = same_frame root own k m h s i f x r e p in
            n (one_slot root own k m h i s x (Some r) (Some r) p (subst (λ (g : ℕ). k s ≡ Directory g (Some r)) same e));
        unused = λ i b g q u x p c.
            let w : Directory f (Some r) ≡ Directory x (Some q) = sym e ∙ c in
            let same : q ≡ r = cc w in
            none i b g u (subst (λ (q : ℕ). k i ≡ Leaf b g (Some (q, u))) same p);
        table = λ b x a p. let w : Directory f (Some r) ≡ Leaf b x a = sym e ∙ p in absurd (cc w);
        stays = λ b x a p. absurd (cc p);
        named = λ x p. absurd (cc p);
        fixed = λ x p. let w : Directory f (Some r) ≡ Fixed x = sym e ∙ p in absurd (cc w);
      })
      joins_nothing

  pub installing : (f r : ℕ) → k s ≡ Directory f None → valid (word m root r) ≡ false
      → Facts root own (with_claim k s (Directory f (Some r))) (written m root r (table_word f))
  unfolding frame_of is_shared leaf_at
  installing f r e bad =
      root_write root own k m h s (Directory f (Some r)) r (table_word f)
      (record {
        new = λ _. record { slot = s; frame = f; claim = claim_same k s (Directory f (Some r)); entry_is = refl };
        was = λ x q p. let w : Directory f None ≡ Directory x (Some q) = sym e ∙ p in absurd (cc w);
        will = λ x q p.
            let same : f ≡ x = cc p in
            let place : q ≡ r = cc p in (
              place,
              ap table_word same,
              subst (λ (x : ℕ). x ≢ root) same (not_root root own k m h s f None e),
              subst (λ (x : ℕ). (u : ℕ) → word m x u ≡ 0) same (h.blank s f e),
            );
        free = λ i x n p.
            let ok : valid (word m root r) ≡ true =
            subst (λ (w : ℕ). valid w ≡ true) (sym (h.installed i x r p)) (table_valid x) in
            let no : false ≡ true = sym bad ∙ ok in
            absurd (cc no);
        unused = λ i b g q u x p c. let w : Directory f None ≡ Directory x (Some q) = sym e ∙ c in absurd (cc w);
        table = λ b x a p. let w : Directory f None ≡ Leaf b x a = sym e ∙ p in absurd (cc w);
        stays = λ b x a p. absurd (cc p);
        named = λ x p. absurd (cc p);
        fixed = λ x p. let w : Directory f None ≡ Fixed x = sym e ∙ p in absurd (cc w);
      })
      (record {
        owned = λ g a. h.owned s g (rw e a);
        apart = λ j g n a c.
            let p : (is_shared (k s) ≡ true) × (is_shared (k j) ≡ true) = h.apart s j g (λ q. n (sym q)) (rw e a) c in
            (subst (λ (z : Claim). is_shared z ≡ true) e p.0, p.1);
        once = λ j q u n a c. absurd (cc a);
      })

  -- a claim that stands for no entry goes
  pub dropping : ((f q : ℕ) → k s ≡ Directory f (Some q) → ⊥)
      → ((b : Bool) (g q u : ℕ) → k s ≡ Leaf b g (Some (q, u)) → ⊥)
      → ((f : ℕ) → k s ≡ Fixed f → ⊥) → Facts root own (with_claim k s Nothing) m
  dropping t l x = loose root own k m h s Nothing
      (record {
        was_table = t;
        was_leaf = l;
        is_table = λ f q p. absurd (cc p);
        is_leaf = λ b g q u p. absurd (cc p);
        blank = λ f p. absurd (cc p);
        fixed = x;
      })
      joins_nothing

  -- a claim of nothing takes the place of another
  pub idling : k s ≡ Nothing → Facts root own (with_claim k s Nothing) m
  idling e = dropping
      (λ f q p. let w : Nothing ≡ Directory f (Some q) = sym e ∙ p in absurd (cc w))
      (λ b g q u p. let w : Nothing ≡ Leaf b g (Some (q, u)) = sym e ∙ p in absurd (cc w))
      (λ f p. let w : Nothing ≡ Fixed f = sym e ∙ p in absurd (cc w))

  -- a frame that no claim names, cleared, is named by one
  pub claiming : k s ≡ Nothing → (g : ℕ) → own g ≡ true → ((i : ℕ) → frame_of (k i) ≡ Some g → ⊥) → (b : Bool)
      → (y : Claim)
      → (y ≡ Leaf b g None) ⊎ (y ≡ Directory g None) → Facts root own (with_claim k s y) (zeroed_frame m g)
  unfolding frame_of is_shared leaf_at
  claiming e g mine free b y is =
      let known : Facts root own k (zeroed_frame m g) =
      elsewhere root own k m (zeroed_frame m g) h g (λ i a p. free i (rw p refl)) (λ p. free h.root_slot (rw (h.root_is, p) refl))
      (λ f u n. word-zeroed_other m g f u n) in
      loose root own k (zeroed_frame m g) known s y
      (record {
        was_table = λ f q p. let w : Nothing ≡ Directory f (Some q) = sym e ∙ p in absurd (cc w);
        was_leaf = λ a f q u p. let w : Nothing ≡ Leaf a f (Some (q, u)) = sym e ∙ p in absurd (cc w);
        is_table = λ f q p. elim is [ inl x ↦ cc | inr x ↦ cc ];
        is_leaf = λ a f q u p. elim is [ inl x ↦ cc | inr x ↦ cc ];
        blank = λ f p u. elim is [
          | inl x ↦ cc
          | inr x ↦ let same : f ≡ g = cc in
              subst (λ (f : ℕ). word (zeroed_frame m g) f u ≡ 0) (sym same) (word-zeroed_same m g u)
        ];
        fixed = λ f p. let w : Nothing ≡ Fixed f = sym e ∙ p in absurd (cc w);
      })
      (record {
        owned = λ f p. let same : f ≡ g = elim is [ inl x ↦ cc | inr x ↦ cc ] in subst (λ (f : ℕ). own f ≡ true) (sym same) mine;
        apart = λ j f n p q. let same : f ≡ g = elim is [ inl x ↦ cc | inr x ↦ cc ] in absurd (free j (q ∙ ap Some same));
        once = λ j r t n p q. elim is [ inl x ↦ cc | inr x ↦ cc ];
      })

  -- a second capability for a page
  pub copying : (d : ℕ) → d ≢ s → k d ≡ Nothing → (f : ℕ) (w : Option (ℕ × ℕ)) → k s ≡ Leaf true f w
      → Facts root own (with_claim k d (Leaf true f None)) m
  unfolding frame_of is_shared leaf_at
  copying d n e f w z =
      loose root own k m h d (Leaf true f None)
      (record {
        was_table = λ f q p. let w : Nothing ≡ Directory f (Some q) = sym e ∙ p in absurd (cc w);
        was_leaf = λ a f q u p. let w : Nothing ≡ Leaf a f (Some (q, u)) = sym e ∙ p in absurd (cc w);
        is_table = λ f q p. absurd (cc p);
        is_leaf = λ a f q u p. absurd (cc p);
        blank = λ f p. absurd (cc p);
        fixed = λ f p. let w : Nothing ≡ Fixed f = sym e ∙ p in absurd (cc w);
      })
      (record {
        owned = λ g p. h.owned s g (rw z p);
        apart = λ j g _ p q. elim (cases_eq j s) [
          | inl same ↦ (refl, rw (same, z) refl)
          | inr other ↦ (refl, (h.apart j s g other q (rw z p)).0)
        ];
        once = λ j r t _ p q. absurd (cc p);
      })
