-- How many regions and pages there are below one.
use Rattle.std.proofs.Common.{◌≡◌, ℕ, zero, suc, ◌+◌, ◌-◌, ◌*◌, ◌/◌, ◌<◌, ◌≤◌, Bool, true, false, cond, ◌||◌, List, [], ◌∷◌, get_or, Some, inl, inr, refl, sym, subst, arith, true≢false}
use Rattle.std.proofs.lemmas.Bool.{cases_Bool, cases_lt, cases_eq, leb-true, ltb-true, lt-ltb, and_parts}
use Rattle.std.proofs.Math.Bool.{or-true}
use Rattle.std.proofs.lemmas.Option.{none-some, same_Some}
use Rattle.image_check.specs.Own.{Segment, Own, no_segment}
use Rattle.image_check.specs.Laws.{IsSegment, IsOwn}
use Rattle.tp_base.specs.Rights.{are_good}
use Rattle.image_check.specs.Pages.{has_page, meets, has_region, regions_below, pages_below, pages_in}
use Rattle.world_view.specs.Opening.{rights_in}

-- ---- regions

pub region_more : (ss : List Segment) (r : ℕ) → has_region ss r ≡ true
    → regions_below ss (suc r) ≡ regions_below ss r + 1
unfolding regions_below
region_more ss r e = rw e refl

pub region_same : (ss : List Segment) (r : ℕ) → has_region ss r ≡ false
    → regions_below ss (suc r) ≡ regions_below ss r
unfolding regions_below
region_same ss r e = rw e (omega arith)

region_step : (ss : List Segment) (r : ℕ) → regions_below ss r ≤ regions_below ss (suc r)
region_step ss r =
    elim (cases_Bool (has_region ss r)) [
      | inl some ↦ let more = region_more ss r some in omega (arith, more)
      | inr none ↦ let same = region_same ss r none in omega (arith, same)
    ]

regions_grow : (ss : List Segment) (n r : ℕ) → regions_below ss r ≤ regions_below ss (n + r)
regions_grow ss zero r =
    let same : r ≡ 0 + r = omega arith in
    subst (λ (q : ℕ). regions_below ss r ≤ regions_below ss q) same (omega arith)
regions_grow ss (suc n) r =
    let rest = regions_grow ss n r in
    let step = region_step ss (n + r) in
    let same : suc (n + r) ≡ suc n + r = omega arith in
    subst (λ (q : ℕ). regions_below ss r ≤ regions_below ss q) same (omega (arith, rest, step))

pub regions_upto : (ss : List Segment) (r q : ℕ) → r ≤ q → regions_below ss r ≤ regions_below ss q
regions_upto ss r q h =
    let grow = regions_grow ss (q - r) r in
    subst (λ (n : ℕ). regions_below ss r ≤ regions_below ss n) (omega arith) grow

-- a region that has a page counts for those past it
pub region_before : (ss : List Segment) (r q : ℕ) → has_region ss r ≡ true → r < q
    → regions_below ss r < regions_below ss q
region_before ss r q some h =
    let more = region_more ss r some in
    let upto = regions_upto ss (suc r) q (omega arith) in
    omega (arith, more, upto)

pub region_once : (ss : List Segment) (r q : ℕ) → has_region ss r ≡ true → has_region ss q ≡ true
    → regions_below ss r ≡ regions_below ss q → r ≡ q
region_once ss r q some other e =
    elim (cases_lt r q) [
      | inl before ↦ let less = region_before ss r q some before in absurd (omega (arith, less, e))
      | inr past ↦ elim (cases_eq r q) [
        | inl same ↦ same
        | inr apart ↦ let less = region_before ss q r other (omega (arith, past, apart)) in absurd (omega (arith, less, e))
      ]
    ]

-- how many regions below r a segment meets: two at most
unfoldable covers : Segment → ℕ → ℕ
covers s zero = 0
covers s (suc r) = covers s r + cond (meets s r) 1 0

-- ---- pages

-- the page of a number is there
unfoldable pub is_page : List Segment → ℕ → Bool
is_page [] n = false
is_page (s ∷ ss) n = has_page s n || is_page ss n

pub pages_most : (ss : List Segment) (n : ℕ) → pages_below ss n ≤ pages_in ss
unfolding pages_below pages_in
pages_most [] n = omega arith
pages_most (s ∷ ss) n = let rest = pages_most ss n in omega (arith, rest)

pub pages_low : (ss : List Segment) (n : ℕ) → is_page ss n ≡ true → pages_below ss n < pages_in ss
unfolding pages_below pages_in is_page
pages_low [] n there = absurd (true≢false (sym there))
pages_low (s ∷ ss) n there =
    elim (cases_Bool (has_page s n)) [
      | inl here ↦
          let parts = and_parts _ _ here in
          let low = leb-true s.page n parts.0 in
          let high = ltb-true n (s.page + s.pages) parts.1 in
          let rest = pages_most ss n in
          omega (arith, low, high, rest)
      | inr elsewhere ↦ let rest = pages_low ss n (rw elsewhere at there) in omega (arith, rest)
    ]

pages_grow : (ss : List Segment) (n m : ℕ) → n ≤ m → pages_below ss n ≤ pages_below ss m
unfolding pages_below
pages_grow [] n m h = omega arith
pages_grow (s ∷ ss) n m h = let rest = pages_grow ss n m h in omega (arith, rest)

-- a page counts for those past it
page_before : (ss : List Segment) (n m : ℕ) → is_page ss n ≡ true → n < m
    → pages_below ss n < pages_below ss m
unfolding pages_below is_page
page_before [] n m there h = absurd (true≢false (sym there))
page_before (s ∷ ss) n m there h =
    elim (cases_Bool (has_page s n)) [
      | inl here ↦
          let parts = and_parts _ _ here in
          let low = leb-true s.page n parts.0 in
          let high = ltb-true n (s.page + s.pages) parts.1 in
          let rest = pages_grow ss n m (omega arith) in
          omega (arith, low, high, rest, h)
      | inr elsewhere ↦ let rest = page_before ss n m (rw elsewhere at there) h in omega (arith, rest, h)
    ]

-- each page has a frame of its own
pub page_once : (ss : List Segment) (n m : ℕ) → is_page ss n ≡ true → is_page ss m ≡ true
    → pages_below ss n ≡ pages_below ss m → n ≡ m
page_once ss n m there other e =
    elim (cases_lt n m) [
      | inl before ↦ let less = page_before ss n m there before in absurd (omega (arith, less, e))
      | inr past ↦ elim (cases_eq n m) [
        | inl same ↦ same
        | inr apart ↦ let less = page_before ss m n other (omega (arith, past, apart)) in absurd (omega (arith, less, e))
      ]
    ]

-- a page that has rights is there
pub rights_there : (ss : List Segment) (n : ℕ) (r : ℕ) → rights_in ss n ≡ Some r → is_page ss n ≡ true
unfolding rights_in is_page
rights_there [] n r e = absurd (none-some r e)
rights_there (s ∷ ss) n r e =
    elim (cases_Bool (has_page s n)) [
      | inl here ↦ rw here refl
      | inr elsewhere ↦ rw elsewhere (rights_there ss n r (rw elsewhere at e))
    ]

-- and so is its region
pub rights_region : (ss : List Segment) (n : ℕ) (r : ℕ) → rights_in ss n ≡ Some r
    → has_region ss (n / 1024) ≡ true
unfolding rights_in has_region
rights_region [] n r e = absurd (none-some r e)
rights_region (s ∷ ss) n r e =
    elim (cases_Bool (has_page s n)) [
      | inl here ↦
          let parts = and_parts _ _ here in
          let low = leb-true s.page n parts.0 in
          let high = ltb-true n (s.page + s.pages) parts.1 in
          rw (
            lt-ltb s.page (1024 * (n / 1024) + 1024) (omega (arith, low)),
            lt-ltb (1024 * (n / 1024))
                (s.page + s.pages) (omega (arith, high)),
          ) refl
      | inr elsewhere ↦ rw (rights_region ss n r (rw elsewhere at e)) (or-true (meets s (n / 1024)))
    ]

-- ---- rights

-- the rights of a page are good
good_in : (ss : List Segment) (n r : ℕ) → ((k : ℕ) → IsSegment (get_or ss k no_segment))
    → rights_in ss n ≡ Some r → are_good r ≡ true
unfolding rights_in
good_in [] n r each e = absurd (none-some r e)
good_in (s ∷ ss) n r each e =
    elim (cases_Bool (has_page s n)) [
      | inl here ↦ subst (λ (x : ℕ). are_good x ≡ true) (same_Some s.rights r (rw here at e)) (each 0).rights
      | inr elsewhere ↦ good_in ss n r (λ k. each (suc k)) (rw elsewhere at e)
    ]

pub rights_are_good : (o : Own) (n r : ℕ) → IsOwn o → rights_in o.segments n ≡ Some r → are_good r ≡ true
rights_are_good o n r sound e = good_in o.segments n r sound.segments e
