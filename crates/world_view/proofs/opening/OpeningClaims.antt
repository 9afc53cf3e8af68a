-- What claims a domain has at first: whose frame each is, and that no two are of one frame.
use Rattle.std.proofs.Common.{zero-add, ◌≡◌, ◌≢◌, ℕ, zero, suc, ◌+◌, ◌-◌, ◌*◌, ◌<◌, ◌≤◌, Bool, true, false, true≢false, cond, not, ◌&&◌, ◌||◌, eqb-true, eq-eqb, List, [], ◌∷◌, ◌++◌, length, get_or, map, Some, None, inl, inr, ⊎_elim, refl, ap, sym, subst, ◌∙◌, arith}
use Rattle.std.specs.Prelude.{⊤, nat_eq, filter}
use Rattle.std.specs.List.{list_any, range_with_len}
use Rattle.std.proofs.lemmas.Bool.{cases_Bool, cases_eq, cases_lt, leb-true, ltb-true, le-leb, lt-ltb, and_parts}
use Rattle.std.proofs.lemmas.List.{get_or-append-add, get_or_append_left, get_or_past, get_or-map, get_or-take, length-map, length-take, length-append}
use Rattle.std.proofs.lemmas.Option.{none-some, same_Some}
use Rattle.std.proofs.lemmas.List.FromFn.{get_or-map-range_with_len, length-map-range_with_len}
use Rattle.std.proofs.lemmas.List.Folds.{list_any-append, list_any_at}
use Rattle.std.proofs.Math.Bool.{or-true}
use Rattle.std.proofs.lemmas.Map.Views.{any-filter_same}
use Rattle.frame_colours.specs.Colours as colours
use Rattle.frame_colours.specs.Colours.{has}
use Rattle.frame_colours.proofs.Ascending.{has_head, has_other, has_at}
use Rattle.cap_table.specs.Slots as slots
use Rattle.call_table.specs.Claims.{Claim, Claims, frame_of, claim_of, claims, entry_places}
use Rattle.call_table.proofs.ClaimLawsSlots.{claims_at, claims_fixed}
use Rattle.hardware_check.specs.Hardware.{Hardware}
use Rattle.domain_check.specs.declared.capabilities.InitialCap.{InitialCap}
use Rattle.domain_check.specs.declared.capabilities.InitialCap.TheVariants as initial
use Rattle.image_check.specs.Laws.{IsOwn}
use Rattle.image_check.specs.Own.{Segment, Own, cap_at}
use Rattle.image_check.specs.Pages.{has_page, has_page_in, has_region, regions_below, regions_in, pages_below, frames_in}
use Rattle.world_view.specs.Frames.{pool, pool_frame, clone_frames, root_of, table_frame, page_frame}
use Rattle.world_view.specs.Kernel.{first_cap, first_slots, names_page, stays, pages_of, page_numbers, kept_pages, first_regions, table_claim, page_claim, fixed_claims, estate}
use Rattle.world_view.proofs.opening.Counts.{is_page, region_once, page_once}
use Rattle.world_view.proofs.opening.PoolLaws.{pool_once}
use Rattle.world_view.proofs.opening.OpeningLaws.{table_place, table_in, page_place}

-- ---- lists of numbers without repeats

unfoldable pub Once : List ℕ → Type 0
Once [] = ⊤
Once (x ∷ xs) = (has xs x ≡ false) × Once xs

pub once_at : (xs : List ℕ) (i j : ℕ) → Once xs → i < length xs → j < length xs
    → get_or xs i 0 ≡ get_or xs j 0 → i ≡ j
unfolding Once
once_at [] i j h a b e = absurd (omega arith)
once_at (x ∷ xs) zero zero h a b e = refl
once_at (x ∷ xs) zero (suc j) h a b e = absurd (true≢false (sym (has_at xs j (omega arith)) ∙ ap (has xs) (sym e) ∙ h.0))
once_at (x ∷ xs) (suc i) zero h a b e = absurd (true≢false (sym (has_at xs i (omega arith)) ∙ ap (has xs) e ∙ h.0))
once_at (x ∷ xs) (suc i) (suc j) h a b e = ap suc (once_at xs i j h.1 (omega arith) (omega arith) e)

-- what stands in a list has a place there
pub place_in : (xs : List ℕ) (f : ℕ) → has xs f ≡ true → (i : ℕ) × (i < length xs) × (get_or xs i 0 ≡ f)
place_in [] f there = absurd (true≢false (sym there))
place_in (x ∷ xs) f there =
    ⊎_elim
    (λ (same : x ≡ f). (0, omega arith, same))
    (λ (other : x ≢ f). let at = place_in xs f (sym (has_other x f xs other) ∙ there) in (suc at.0, omega (arith, at.1), at.2))
    (cases_eq x f)

pub has_filter : (p : ℕ → Bool) (xs : List ℕ) (f : ℕ) → has (filter p xs) f ≡ (p f && has xs f)
has_filter p xs f = any-filter_same (λ m. nat_eq m f) p (p f) (λ k same. ap p (eqb-true k f same)) xs

pub has_append : (xs ys : List ℕ) (f : ℕ) → has (xs ++ ys) f ≡ (has xs f || has ys f)
has_append xs ys f = list_any-append (λ m. nat_eq m f) xs ys

and_false : (a b : Bool) → b ≡ false → a && b ≡ false
and_false true b e = e
and_false false b e = refl

or_false : (a b : Bool) → a ≡ false → b ≡ false → a || b ≡ false
or_false true b e f = e
or_false false b e f = f

once_filter : (p : ℕ → Bool) (xs : List ℕ) → Once xs → Once (filter p xs)
unfolding Once
once_filter p [] h = tt
once_filter p (x ∷ xs) h = by_case (p x) (once_filter p xs h.1)
  where
    by_case : (t : Bool) → Once (filter p xs) → Once (cond t (x ∷ filter p xs) (filter p xs))
    by_case true rest = (has_filter p xs x ∙ and_false (p x) (has xs x) h.0, rest)
    by_case false rest = rest

once_append : (xs ys : List ℕ) → Once xs → Once ys → ((f : ℕ) → has xs f ≡ true → has ys f ≡ false)
    → Once (xs ++ ys)
unfolding Once
once_append [] ys h k apart = k
once_append (x ∷ xs) ys h k apart = (
  has_append xs ys x ∙ or_false (has xs x) (has ys x) h.0 (apart x (has_head x xs)),
  once_append xs ys h.1 k (λ f there. apart f (later x f xs there)),
)
  where
    later : (x f : ℕ) (xs : List ℕ) → has xs f ≡ true → has (x ∷ xs) f ≡ true
    later x f xs there = rw there (or-true (nat_eq x f))

-- numbers one after the other
pub has_range : (a n f : ℕ) → a ≤ f → f < a + n → has (range_with_len a n) f ≡ true
has_range a zero f above below = absurd (omega arith)
has_range a (suc n) f above below =
    ⊎_elim
    (λ (same : a ≡ f). subst (λ (g : ℕ). has (range_with_len a (suc n)) g ≡ true) same (has_head a (range_with_len (a + 1) n)))
    (λ (other : a ≢ f). has_other a f (range_with_len (a + 1) n) other ∙ has_range (a + 1) n f (omega arith) (omega arith))
    (cases_eq a f)

pub range_has : (a n f : ℕ) → has (range_with_len a n) f ≡ true → (a ≤ f) × (f < a + n)
range_has a zero f there = absurd (true≢false (sym there))
range_has a (suc n) f there =
    ⊎_elim
    (λ (same : a ≡ f). (omega arith, omega arith))
    (λ (other : a ≢ f). let rest = range_has (a + 1) n f (sym (has_other a f (range_with_len (a + 1) n) other) ∙ there) in
    (let low = rest.0 in omega (arith, low), let high = rest.1 in omega (arith, high)))
    (cases_eq a f)

once_range : (a n : ℕ) → Once (range_with_len a n)
unfolding Once
once_range a zero = tt
once_range a (suc n) = (past, once_range (a + 1) n)
  where
    past : has (range_with_len (a + 1) n) a ≡ false
    past = elim (cases_Bool (has (range_with_len (a + 1) n) a)) [
      | inl there ↦ let low = (range_has (a + 1) n a there).0 in absurd (omega (arith, low))
      | inr none ↦ none
    ]

-- ---- the pages of segments

pub page_same : (ss : List Segment) (n : ℕ) → is_page ss n ≡ has_page_in ss n
unfolding is_page has_page_in
page_same [] n = refl
page_same (s ∷ ss) n = ap (λ b. has_page s n || b) (page_same ss n)

pages_have : (s : Segment) (n : ℕ) → has (pages_of s) n ≡ has_page s n
pages_have s n =
    elim (cases_Bool (has (pages_of s) n)) [
      | inl there ↦
          let parts = range_has s.page s.pages n there in
          there ∙ sym (rw (le-leb s.page n parts.0, lt-ltb n (s.page + s.pages) parts.1) refl)
      | inr none ↦
          elim (cases_Bool (has_page s n)) [
            | inl here ↦
                let parts = and_parts _ _ here in
                absurd (true≢false (sym (has_range s.page s.pages n (leb-true s.page n parts.0)
                (ltb-true n (s.page + s.pages) parts.1)) ∙ none))
            | inr out ↦ none ∙ sym out
          ]
    ]

not_and_or : (a b : Bool) → (not b && a) || b ≡ a || b
not_and_or true true = refl
not_and_or true false = refl
not_and_or false true = refl
not_and_or false false = refl

numbers_have : (ss : List Segment) (n : ℕ) → has (page_numbers ss) n ≡ has_page_in ss n
unfolding page_numbers has_page_in
numbers_have [] n = refl
numbers_have (s ∷ ss) n =
    has_append (filter (λ m. not (has_page_in ss m)) (pages_of s)) (page_numbers ss) n
    ∙ rw (has_filter (λ m. not (has_page_in ss m)) (pages_of s) n, pages_have s n, numbers_have ss n)
    (not_and_or (has_page s n) (has_page_in ss n))

numbers_once : (ss : List Segment) → Once (page_numbers ss)
unfolding page_numbers Once
numbers_once [] = tt
numbers_once (s ∷ ss) =
    once_append (filter (λ m. not (has_page_in ss m)) (pages_of s)) (page_numbers ss)
    (once_filter (λ m. not (has_page_in ss m)) (pages_of s) (once_range s.page s.pages)) (numbers_once ss)
    (λ f there. numbers_have ss f
    ∙ not_true (has_page_in ss f)
    ((and_parts _ _ (sym (has_filter (λ m. not (has_page_in ss m)) (pages_of s) f) ∙ there)).0))
  where
    not_true : (b : Bool) → not b ≡ true → b ≡ false
    not_true true e = absurd (true≢false (sym e))
    not_true false e = refl

module _ (o : Own) where
  pub kept_once : Once (kept_pages o)
  unfolding kept_pages
  kept_once = once_filter (stays o) (page_numbers o.segments) (numbers_once o.segments)

  pub kept_have : (n : ℕ) → has (kept_pages o) n ≡ (stays o n && is_page o.segments n)
  unfolding kept_pages
  kept_have n =
      has_filter (stays o) (page_numbers o.segments) n
      ∙ ap (λ b. stays o n && b) (numbers_have o.segments n ∙ sym (page_same o.segments n))

  pub regions_once : Once (first_regions o)
  unfolding first_regions
  regions_once = once_filter (has_region o.segments) (range_with_len 0 1024) (once_range 0 1024)

  pub regions_have : (r : ℕ)
      → has (first_regions o) r ≡ (has_region o.segments r && has (range_with_len 0 1024) r)
  unfolding first_regions
  regions_have r = has_filter (has_region o.segments) (range_with_len 0 1024) r

  -- the region that stands at a place of the list
  pub region_at : (j : ℕ) → j < length (first_regions o)
      → (has_region o.segments (get_or (first_regions o) j 0) ≡ true) × (get_or (first_regions o) j 0 < 1024)
  region_at j below =
      let r = get_or (first_regions o) j 0 in
      let parts = and_parts _ _ (sym (regions_have r) ∙ has_at (first_regions o) j below) in
      let range = range_has 0 1024 r parts.1 in
      let high = range.1 in
      (parts.0, omega (arith, high))

  pub region_place : (r : ℕ) → has_region o.segments r ≡ true → r < 1024
      → (j : ℕ) × (j < length (first_regions o)) × (get_or (first_regions o) j 0 ≡ r)
  region_place r some below =
      place_in (first_regions o) r
      (regions_have r ∙ rw (some, has_range 0 1024 r (omega arith) (omega (arith, below))) refl)

  -- the page that stands at a place of the list
  pub kept_at : (j : ℕ) → j < length (kept_pages o)
      → (stays o (get_or (kept_pages o) j 0) ≡ true) × (is_page o.segments (get_or (kept_pages o) j 0) ≡ true)
  kept_at j below = and_parts _ _ (sym (kept_have (get_or (kept_pages o) j 0)) ∙ has_at (kept_pages o) j below)

  pub kept_place : (n : ℕ) → stays o n ≡ true → is_page o.segments n ≡ true
      → (j : ℕ) × (j < length (kept_pages o)) × (get_or (kept_pages o) j 0 ≡ n)
  kept_place n stay there = place_in (kept_pages o) n (kept_have n ∙ rw (stay, there) refl)

-- ---- what is claimed for good

-- claim n of those for good: the clone's frames and the root, by their places in the pool, a table, or a page that stays
pub data Fix (p : Hardware) (o : Own) (n : ℕ) (c : Claim) : Type 0 where
  nothing : c ≡ Claim.Nothing → Fix p o n c
  fixed : n < 5 → c ≡ Claim.Fixed (pool_frame p o n) → Fix p o n c
  table : (j : ℕ) → n ≡ 5 + j → j < length (first_regions o)
      → c ≡ table_claim p o (get_or (first_regions o) j 0) → Fix p o n c
  page : (j : ℕ) → n ≡ 5 + length (first_regions o) + j → j < length (kept_pages o)
      → c ≡ page_claim p o (get_or (kept_pages o) j 0) → Fix p o n c

module _ (p : Hardware) (o : Own) (enough : frames_in o.segments ≤ length (pool p o)) where
  abbrev tables : List Claim
  tables = map (table_claim p o) (first_regions o)

  abbrev kept : List Claim
  kept = map (page_claim p o) (kept_pages o)

  clone_long : length (clone_frames p o) ≡ 4
  clone_long = let taken = length-take 4 (pool p o) in omega (arith, taken, enough)

  fixed_long : length (map Claim.Fixed (clone_frames p o)) ≡ 4
  fixed_long = length-map (clone_frames p o) Claim.Fixed ∙ clone_long

  fix_low : (n : ℕ) → n < 4 → get_or (fixed_claims p o) n Claim.Nothing ≡ Claim.Fixed (pool_frame p o n)
  unfolding fixed_claims colours.frame_at
  fix_low n below =
      get_or_append_left (map Claim.Fixed (clone_frames p o)) (Claim.Fixed (root_of p o) ∷ (tables ++ kept))
      Claim.Nothing n (omega (arith, below, fixed_long))
      ∙ get_or-map Claim.Fixed (clone_frames p o) n 0 Claim.Nothing (omega (arith, below, clone_long))
      ∙ ap Claim.Fixed (get_or-take 4 (pool p o) n 0 below)

  fix_past : (n : ℕ)
      → get_or (fixed_claims p o) (4 + n) Claim.Nothing
      ≡ get_or (Claim.Fixed (root_of p o) ∷ (tables ++ kept)) n Claim.Nothing
  unfolding fixed_claims
  fix_past n =
      ap (λ (l : ℕ). get_or (map Claim.Fixed (clone_frames p o)
      ++ (Claim.Fixed (root_of p o) ∷ (tables ++ kept))) (l + n) Claim.Nothing) (sym fixed_long)
      ∙ get_or-append-add (map Claim.Fixed (clone_frames p o)) (Claim.Fixed (root_of p o) ∷ (tables ++ kept)) n Claim.Nothing

  fix_rest : (n : ℕ)
      → get_or (fixed_claims p o) (5 + n) Claim.Nothing ≡ get_or (tables ++ kept) n Claim.Nothing
  fix_rest n = ap (λ (m : ℕ). get_or (fixed_claims p o) m Claim.Nothing) (let e : 5 + n ≡ 4 + suc n = omega arith in e) ∙ fix_past (suc n)

  pub fix_frame : (n : ℕ) → n < 5 → get_or (fixed_claims p o) n Claim.Nothing ≡ Claim.Fixed (pool_frame p o n)
  fix_frame n below =
      elim (cases_lt n 4) [
        | inl low ↦ fix_low n low
        | inr last ↦
            let e : n ≡ 4 = omega arith in
            ap (λ (m : ℕ). get_or (fixed_claims p o) m Claim.Nothing)
            (let f : n ≡ 4 + 0 = omega (arith, e) in f) ∙ fix_past 0
            ∙ ap (λ (m : ℕ). Claim.Fixed (pool_frame p o m)) (sym e)
      ]

  pub fix_table : (j : ℕ) → j < length (first_regions o)
      → get_or (fixed_claims p o) (5 + j) Claim.Nothing ≡ table_claim p o (get_or (first_regions o) j 0)
  fix_table j below =
      fix_rest j
      ∙ get_or_append_left tables kept Claim.Nothing j
      (let long = length-map (first_regions o) (table_claim p o) in omega (arith, below, long))
      ∙ get_or-map (table_claim p o) (first_regions o) j 0 Claim.Nothing below

  pub fix_page : (j : ℕ) → j < length (kept_pages o)
      → get_or (fixed_claims p o) (5 + length (first_regions o) + j) Claim.Nothing
      ≡ page_claim p o (get_or (kept_pages o) j 0)
  fix_page j below =
      ap (λ (m : ℕ). get_or (fixed_claims p o) m Claim.Nothing) (let long =
      length-map (first_regions o)
      (table_claim p o) in
      let e : 5 + length (first_regions o) + j
      ≡ 5 + (length tables + j) =
      omega (arith, long) in
      e)
      ∙ fix_rest (length tables + j) ∙ get_or-append-add tables kept j Claim.Nothing
      ∙ get_or-map (page_claim p o) (kept_pages o) j 0 Claim.Nothing below

  fix_none : (n : ℕ) → 5 + length (first_regions o) + length (kept_pages o) ≤ n
      → get_or (fixed_claims p o) n Claim.Nothing ≡ Claim.Nothing
  fix_none n past =
      let e : n ≡ 5 + (n - 5) = omega (arith, past) in
      let some = length-map (first_regions o) (table_claim p o) in
      let more = length-map (kept_pages o) (page_claim p o) in
      let both = length-append tables kept in
      ap (λ (m : ℕ). get_or (fixed_claims p o) m Claim.Nothing) e ∙ fix_rest (n - 5)
      ∙ get_or_past (tables ++ kept) (n - 5) Claim.Nothing (omega (arith, past, some, more, both))

  pub fix : (n : ℕ) → Fix p o n (get_or (fixed_claims p o) n Claim.Nothing)
  fix n =
      elim (cases_lt n 5) [
        | inl low ↦ fixed low (fix_frame n low)
        | inr above ↦ elim (cases_lt n (5 + length (first_regions o))) [
          | inl in_tables ↦
              let e : n ≡ 5 + (n - 5) = omega (arith, above) in
              table (n - 5) e (omega (arith, above, in_tables))
              (ap (λ (m : ℕ). get_or (fixed_claims p o) m Claim.Nothing) e
              ∙ fix_table (n - 5) (omega (arith, above, in_tables)))
          | inr past ↦ elim (cases_lt n (5 + length (first_regions o) + length (kept_pages o))) [
            | inl in_pages ↦
                let j = n - (5 + length (first_regions o)) in
                let e : n ≡ 5 + length (first_regions o) + j = omega (arith, past) in
                page j e (omega (arith, past, in_pages))
                (ap (λ (m : ℕ). get_or (fixed_claims p o) m Claim.Nothing) e
                ∙ fix_page j (omega (arith, past, in_pages)))
            | inr beyond ↦ nothing (fix_none n beyond)
          ]
        ]
      ]

-- ---- who holds a page

-- claim i is that of a page: a capability's that names it, or that of the page for good
pub data Holds (o : Own) (i n : ℕ) : Type 0 where
  by_cap : i < 64 → cap_at o i ≡ initial.Page n → Holds o i n
  for_good : (j : ℕ) → i ≡ 69 + length (first_regions o) + j → j < length (kept_pages o)
      → n ≡ get_or (kept_pages o) j 0 → Holds o i n

names_it : (n : ℕ) (x : InitialCap) → names_page n x ≡ true → x ≡ initial.Page n
names_it n initial.None e = absurd (cc e)
names_it n (initial.Page m) e = ap initial.Page (eqb-true m n e)
names_it n (initial.Irq line) e = absurd (cc e)

namer : (n : ℕ) (xs : List InitialCap) → list_any (names_page n) xs ≡ true
    → (i : ℕ) × (get_or xs i initial.None ≡ initial.Page n)
namer n [] e = absurd (true≢false (sym e))
namer n (x ∷ xs) e =
    elim (cases_Bool (names_page n x)) [
      | inl here ↦ (0, names_it n x here)
      | inr other ↦ let rest = namer n xs (sym (ap (λ b. b || list_any (names_page n) xs) other) ∙ e) in (suc rest.0, rest.1)
    ]

module _ (o : Own) (sound : IsOwn o) where
  cap_within : (i n : ℕ) → cap_at o i ≡ initial.Page n → i < length o.caps
  cap_within i n e =
      elim (cases_lt i (length o.caps)) [
        | inl below ↦ below
        | inr past ↦ let no : initial.None ≡ initial.Page n = sym (get_or_past o.caps i initial.None past) ∙ e in absurd (cc no)
      ]

  cap_low : (i n : ℕ) → cap_at o i ≡ initial.Page n → i < 64
  cap_low i n e = let within = cap_within i n e in let few = sound.few_caps in omega (arith, within, few)

  -- a page that a capability names doesn't stay
  named_goes : (i n : ℕ) → cap_at o i ≡ initial.Page n → stays o n ≡ false
  named_goes i n e =
      ap not (list_any_at (names_page n) o.caps i initial.None (cap_within i n e) (ap (names_page n) e ∙ eq-eqb n n refl))

  -- each page has one claim
  pub holds_once : (i j n : ℕ) → Holds o i n → Holds o j n → i ≡ j
  holds_once i j n (by_cap a e) (by_cap b f) =
      elim (cases_eq i j) [
        | inl same ↦ same
        | inr other ↦ absurd (sound.page_once i j n other e f)
      ]
  holds_once i j n (by_cap a e) (for_good k b l f) =
      absurd (true≢false (sym (kept_at o k l).0 ∙ ap (stays o) (sym f) ∙ named_goes i n e))
  holds_once i j n (for_good k b l f) (by_cap a e) =
      absurd (true≢false (sym (kept_at o k l).0 ∙ ap (stays o) (sym f) ∙ named_goes j n e))
  holds_once i j n (for_good k b l f) (for_good h c m g) =
      let same = once_at (kept_pages o) k h (kept_once o) l m (sym f ∙ g) in omega (arith, b, c, same)

-- ---- all claims

-- claim i: nobody's, the clone's or the root, a table, or a page
pub data Case (p : Hardware) (o : Own) (i : ℕ) (c : Claim) : Type 0 where
  nothing : c ≡ Claim.Nothing → Case p o i c
  fixed : (n : ℕ) → i ≡ 64 + n → n < 5 → c ≡ Claim.Fixed (pool_frame p o n) → Case p o i c
  table : (j : ℕ) → i ≡ 69 + j → j < length (first_regions o)
      → c ≡ table_claim p o (get_or (first_regions o) j 0) → Case p o i c
  page : (n : ℕ) (b : Bool) → Holds o i n → is_page o.segments n ≡ true
      → c ≡ Claim.Leaf b (page_frame p o n) (entry_places (Some (n * 4096))) → Case p o i c

-- the place in the pool of a claim's frame
pub place : {p : Hardware} {o : Own} {i : ℕ} {c : Claim} → Case p o i c → ℕ
place (nothing e) = 0
place (fixed n a b e) = n
place {o = o} (table j a b e) = 5 + regions_below o.segments (get_or (first_regions o) j 0)
place {o = o} (page n b h there e) = 5 + regions_in o.segments + pages_below o.segments n

module _ (p : Hardware) (o : Own) (enough : frames_in o.segments ≤ length (pool p o)) (sound : IsOwn o) where
  pub slots_long : length (first_slots p o) ≡ 64
  unfolding first_slots
  slots_long = length-map-range_with_len (λ i. first_cap p o (cap_at o i)) 0 64

  pub slot_is : (i : ℕ) → i < 64 → slots.cap_at (first_slots p o) i ≡ first_cap p o (cap_at o i)
  unfolding first_slots
  slot_is i below = get_or-map-range_with_len (λ j. first_cap p o (cap_at o j)) 0 64 i i None below (zero-add i)

  abbrev k : Claims
  k = claims (estate p o) (first_slots p o)

  k_slot : (i : ℕ) → i < 64 → k i ≡ claim_of (first_cap p o (cap_at o i))
  k_slot i below = claims_at (estate p o) (first_slots p o) slots_long i below ∙ ap claim_of (slot_is i below)

  k_fixed : (n : ℕ) → k (64 + n) ≡ get_or (fixed_claims p o) n Claim.Nothing
  unfolding estate
  k_fixed n = claims_fixed (estate p o) (first_slots p o) slots_long n

  case_slot : (i : ℕ) (v : InitialCap) → i < 64 → cap_at o i ≡ v → Case p o i (claim_of (first_cap p o v))
  unfolding first_cap claim_of
  case_slot i initial.None below e = nothing refl
  case_slot i (initial.Page n) below e = page n true (by_cap below e) (page_same o.segments n ∙ sound.pages i n e) refl
  case_slot i (initial.Irq line) below e = nothing refl

  case_fixed : (i n : ℕ) (c : Claim) → i ≡ 64 + n → Fix p o n c → Case p o i c
  case_fixed i n c e (Fix.nothing is) = nothing is
  case_fixed i n c e (Fix.fixed low is) = fixed n e low is
  case_fixed i n c e (Fix.table j at below is) = table j (omega (arith, e, at)) below is
  case_fixed i n c e (Fix.page j at below is) =
      page (get_or (kept_pages o) j 0) false (for_good j (omega (arith, e, at)) below refl) (kept_at o j below).1 is

  pub case : (i : ℕ) → Case p o i (k i)
  case i =
      elim (cases_lt i 64) [
        | inl low ↦ subst (Case p o i) (sym (k_slot i low)) (case_slot i (cap_at o i) low refl)
        | inr past ↦
            let e : i ≡ 64 + (i - 64) = omega (arith, past) in
            subst (Case p o i) (sym (k_fixed (i - 64)) ∙ ap k (sym e)) (case_fixed i (i - 64) _ e (fix p o enough (i - 64)))
      ]

  -- the frame of a claim stands at its place
  pub stands : (i : ℕ) (c : Claim) (f : ℕ) (x : Case p o i c) → frame_of c ≡ Some f
      → (place x < length (pool p o)) × (pool_frame p o (place x) ≡ f)
  unfolding place frame_of
  stands i c f (nothing e) h = absurd (none-some f (sym (ap frame_of e) ∙ h))
  stands i c f (fixed n a b e) h = (omega (arith, b, enough), same_Some _ f (sym (ap frame_of e) ∙ h))
  stands i c f (table j a b e) h =
      let r = region_at o j b in
      (table_in p o enough (get_or (first_regions o) j 0) r.1 r.0, same_Some _ f (sym (ap frame_of e) ∙ h))
  stands i c f (page n b d there e) h = (page_place p o enough n there, same_Some _ f (sym (ap frame_of e) ∙ h))

  -- no two claims have one place
  same_claim : (i j : ℕ) (c d : Claim) (f g : ℕ) (x : Case p o i c) (y : Case p o j d) → frame_of c ≡ Some f
      → frame_of d ≡ Some g → place x ≡ place y → i ≡ j
  unfolding place frame_of
  same_claim i j c d f g (nothing e) y h l s = absurd (none-some f (sym (ap frame_of e) ∙ h))
  same_claim i j c d f g (fixed n a b e) (nothing q) h l s = absurd (none-some g (sym (ap frame_of q) ∙ l))
  same_claim i j c d f g (fixed n a b e) (fixed m t u q) h l s = omega (arith, a, t, s)
  same_claim i j c d f g (fixed n a b e) (table m t u q) h l s = absurd (omega (arith, b, s))
  same_claim i j c d f g (fixed n a b e) (page m t u v q) h l s = absurd (omega (arith, b, s))
  same_claim i j c d f g (table n a b e) (nothing q) h l s = absurd (none-some g (sym (ap frame_of q) ∙ l))
  same_claim i j c d f g (table n a b e) (fixed m t u q) h l s = absurd (omega (arith, u, s))
  same_claim i j c d f g (table n a b e) (table m t u q) h l s =
      let r = region_at o n b in
      let z = region_at o m u in
      let same = region_once o.segments (get_or (first_regions o) n 0) (get_or (first_regions o) m 0) r.0 z.0 (omega (arith, s)) in
      let there = once_at (first_regions o) n m (regions_once o) b u same in
      omega (arith, a, t, there)
  same_claim i j c d f g (table n a b e) (page m t u v q) h l s =
      let r = region_at o n b in
      let low = table_place p o enough (get_or (first_regions o) n 0) r.1 r.0 in
      absurd (omega (arith, low, s))
  same_claim i j c d f g (page n a b w e) (nothing q) h l s = absurd (none-some g (sym (ap frame_of q) ∙ l))
  same_claim i j c d f g (page n a b w e) (fixed m t u q) h l s = absurd (omega (arith, u, s))
  same_claim i j c d f g (page n a b w e) (table m t u q) h l s =
      let r = region_at o m u in
      let low = table_place p o enough (get_or (first_regions o) m 0) r.1 r.0 in
      absurd (omega (arith, low, s))
  same_claim i j c d f g (page n a b w e) (page m t u v q) h l s =
      let same = page_once o.segments n m w v (omega (arith, s)) in
      holds_once o sound i j n b (subst (Holds o j) (sym same) u)

  -- nor one frame
  pub frames_once : (i j f : ℕ) → frame_of (k i) ≡ Some f → frame_of (k j) ≡ Some f → i ≡ j
  frames_once i j f h l =
      let x = stands i (k i) f (case i) h in
      let y = stands j (k j) f (case j) l in
      same_claim i j (k i) (k j) f f (case i) (case j) h l (pool_once p o (place (case i)) (place (case j)) x.0 y.0 (x.1 ∙ sym y.1))

  pub root_slot : k (64 + 4) ≡ Claim.Fixed (root_of p o)
  root_slot = k_fixed 4 ∙ fix_frame p o enough 4 (omega arith)

  -- each region that has a page has its table's claim
  pub table_slot : (r : ℕ) → has_region o.segments r ≡ true → r < 1024
      → (i : ℕ) × (k i ≡ Claim.Directory (table_frame p o r) (Some r))
  table_slot r some below =
      let at = region_place o r some below in
      (64 + (5 + at.0), k_fixed (5 + at.0) ∙ fix_table p o enough at.0 at.1 ∙ ap (table_claim p o) at.2)

  -- and each page its own
  pub page_slot : (n : ℕ) → is_page o.segments n ≡ true
      → (i : ℕ) × (b : Bool) × (k i ≡ Claim.Leaf b (page_frame p o n) (entry_places (Some (n * 4096))))
  unfolding claim_of first_cap
  page_slot n there =
      elim (cases_Bool (stays o n)) [
        | inl stay ↦
            let at = kept_place o n stay there in (
              64 + (5 + length (first_regions o) + at.0),
              false,
              k_fixed (5 + length (first_regions o) + at.0)
                  ∙ fix_page p o enough at.0 at.1 ∙ ap (page_claim p o) at.2,
            )
        | inr goes ↦
            let by = namer n o.caps (not_false (list_any (names_page n) o.caps) goes) in
            (by.0, true, k_slot by.0 (cap_low o sound by.0 n by.1) ∙ ap (λ (c : InitialCap). claim_of (first_cap p o c)) by.1)
      ]
    where
      not_false : (b : Bool) → not b ≡ false → b ≡ true
      not_false true e = refl
      not_false false e = sym e
