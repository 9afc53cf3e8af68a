-- The record of a generated image's table, which breaks no row of the key table.
use Rattle.std.proofs.Common.{◌≡◌, ℕ, ◌+◌, Bool, true, ◌||◌, List, [], ◌∷◌, map, take, drop, None, is_some, refl}
use Rattle.std.specs.List.{range_with_len}
use Rattle.toml.specs.Data.{Data, Members, table, as_table}
use Rattle.toml.specs.Tables.{close}
use Rattle.toml.specs.View.{items_of}
use Rattle.image_text.specs.declared.kinds.Place.TheVariants.{Entry}
use Rattle.image_text.specs.Rows.{Row, key_rows, cache_fields, level2_fields, cost_fields, muldiv_fields, fits, whole_in, whole_item, whole_segments, all_items, first_failing, broken_in, first_broken}
use Rattle.image_text.specs.Unknown.{no_key, known_table, known_item, known_domain, all_known, later_rows, broken_key}
use Rattle.image_text.specs.Record.{map_items, cache_of, costs_of, segment_of, domain_of, domain_in, entry_of, entry_in, record_of}
use Rattle.image_gen.specs.Generated.{domain_with, moment, entry, image_with}
use Rattle.image_gen.proofs.Tables.{image_members, domain_nodes, moments_data, slot_nodes}

-- ---- items made from numbers

mapped : {A : Type 0} (read : Data → A) (made : ℕ → Data) (value : ℕ → A)
    → ((k : ℕ) → read (made k) ≡ value k) → (ks : List ℕ)
    → map_items read (items_of (map made ks)) ≡ map value ks
mapped read made value same [] = refl
mapped read made value same (k ∷ ks) = rw (same k, mapped read made value same ks)

all_made : (p : Data → Bool) (made : ℕ → Data) → ((k : ℕ) → p (made k) ≡ true) → (ks : List ℕ)
    → all_items p (items_of (map made ks)) ≡ true
all_made p made pass [] = refl
all_made p made pass (k ∷ ks) = rw (pass k, all_made p made pass ks)

none_failing : (p : Data → Bool) (made : ℕ → Data) → ((k : ℕ) → p (made k) ≡ true) → (n : ℕ) (ks : List ℕ)
    → first_failing p n (items_of (map made ks)) ≡ None
none_failing p made pass n [] = refl
none_failing p made pass n (k ∷ ks) = rw (pass k) (none_failing p made pass (n + 1) ks)

-- ---- rows one by one

Unbroken : Members → List Row → Type 0
Unbroken t [] = Unit {0}
Unbroken t (r ∷ rows) = (broken_in 1 r t ≡ None) × Unbroken t rows

none_broken : (t : Members) (rows : List Row) → Unbroken t rows → first_broken 1 rows t ≡ None
unfolding Unbroken first_broken
none_broken t [] u = refl
none_broken t (r ∷ rows) u = rw u.0 (none_broken t rows u.1)

-- ---- the image's table

module _ (p : List ℕ) (h : ℕ → List ℕ) (w : ℕ → ℕ → ℕ) (v : ℕ → ℕ) (ds es : List ℕ) where
  abbrev pub domain_made : ℕ → Data
  domain_made d = table (close (domain_nodes d (h d) (moments_data d (w d))))

  abbrev pub slot_made : ℕ → Data
  slot_made d = table (close (slot_nodes d (v d)))

  abbrev pub members : Members
  members = image_members p (items_of (map domain_made ds)) (items_of (map slot_made es))

  domain_recorded : (d : ℕ)
      → domain_in (domain_made d) ≡ domain_with d (h d) (map (λ k. moment d k (w d k)) (range_with_len 0 8))
  unfolding domain_of segment_of domain_with
  domain_recorded d = refl

  slot_recorded : (d : ℕ) → entry_in (slot_made d) ≡ entry d (v d)
  unfolding entry_of
  slot_recorded d = refl

  pub recorded : record_of members
      ≡ image_with p (map (λ d. domain_with d (h d) (map (λ k. moment d k (w d k)) (range_with_len 0 8))) ds)
      (map (λ d. entry d (v d)) es)
  unfolding record_of cache_of costs_of image_with
  recorded = rw (mapped domain_in domain_made _ domain_recorded ds, mapped entry_in slot_made _ slot_recorded es)

  in_slots : (test : Data → Bool) → ((k : ℕ) → test (slot_made k) ≡ true)
      → first_failing test 0 (items_of (map slot_made es)) ≡ None
  in_slots test pass = none_failing test slot_made pass 0 es

  unbroken : Unbroken members (take 25 key_rows)
  unfolding Unbroken key_rows cache_fields level2_fields cost_fields broken_in whole_in whole_item
      whole_segments fits
  unbroken =
      let top = all_made (λ x. is_some (as_table x)) domain_made (λ k. refl) ds in
      let slots = all_made (λ x. is_some (as_table x)) slot_made (λ k. refl) es in (
        refl,
        (
          refl,
          (
            refl,
            (
              refl,
              (
                refl,
                (
                  refl,
                  (
                    refl,
                    (
                      refl,
                      (
                        refl,
                        (
                          rw top refl,
                          (
                            in_domains _ (λ k. refl),
                            (
                              in_domains _ (λ k. refl),
                              (
                                in_domains _ (λ k. refl),
                                (
                                  in_domains _ (λ k. refl),
                                  (
                                    in_domains _ (λ k. refl),
                                    (
                                      in_domains _ (λ k. refl),
                                      (
                                        in_domains _ (λ k. refl),
                                        (
                                          in_domains _ (λ k. refl),
                                          (
                                            in_domains _ (λ k. refl),
                                            (
                                              in_domains _ (λ k. refl),
                                              (
                                                in_domains _ (λ k. refl),
                                                (
                                                  rw slots refl,
                                                  (in_slots _ (λ k. refl), (in_slots _ (λ k. refl), (in_slots _ (λ k. refl), tt))),
                                                ),
                                              ),
                                            ),
                                          ),
                                        ),
                                      ),
                                    ),
                                  ),
                                ),
                              ),
                            ),
                          ),
                        ),
                      ),
                    ),
                  ),
                ),
              ),
            ),
          ),
        ),
      )
    where
      in_domains : (test : Data → Bool) → ((k : ℕ) → test (domain_made k) ≡ true)
          → first_failing test 0 (items_of (map domain_made ds)) ≡ None
      in_domains test pass = none_failing test domain_made pass 0 ds

  known : all_known 1 key_rows members ≡ true
  unfolding all_known known_table known_item known_domain key_rows cache_fields level2_fields cost_fields
      muldiv_fields
  known =
      rw (
        all_made (λ d. is_some (as_table d) || no_key d) domain_made (λ k. refl) ds,
        all_made (λ d. is_some (as_table d) || no_key d) slot_made (λ k. refl) es,
        all_made (known_domain 1 key_rows) domain_made (λ k. refl) ds,
        all_made (known_item 1 Entry key_rows) slot_made (λ k. refl) es,
      )

  later_unbroken : Unbroken members (drop 25 key_rows)
  unfolding Unbroken key_rows broken_in whole_in whole_item
  later_unbroken = (refl, (refl, (refl, (refl, (in_slots _ (λ k. refl), (refl, (refl, (refl, (refl, (refl, tt))))))))))

  none_later : later_rows members ≡ None
  none_later = none_broken members (drop 25 key_rows) later_unbroken

  pub whole : broken_key members ≡ None
  unfolding broken_key
  whole = rw (none_broken members (take 25 key_rows) unbroken, known) none_later
