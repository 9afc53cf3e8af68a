-- The segments of a domain, of the code and of the definitions.
use Rattle.std.proofs.Common.{◌≡◌, ℕ, Bool, true, false, cond, ◌+◌, ◌-◌, ◌<◌, ◌≤◌, ◌^◌, min, List, [], ◌∷◌, length, map, drop, get_or, Some, None, refl, sym, ap, subst, subst₂, ◌∙◌, arith, add-one, zero, suc, inl, inr}
use Rattle.std.proofs.lemmas.Bool.{cases_Bool, le-leb, lt-ltb}
use Rattle.std.proofs.lemmas.List.{drop_more, drop_all, length-map, get_or-map}
use Rattle.image_check.specs.Own as spec
use Rattle.image_check.specs.Laws.{IsSegment, IsOwn, Runnable}
use Rattle.image_check.specs.declared.own.Own.{Own}
use Rattle.domain_check.specs.declared.segments.Segment.{Segment}
use Rattle.image_check.specs.Models.{segment_model, own_model}
use Rattle.image_check.specs.Image.{Image, own_of}
use Rattle.image_check.specs.Pages.{has_page, meets, has_region, regions_below, pages_below, pages_in}
use Rattle.world_view.specs.Opening.{rights_in}
use Rattle.world_view.specs.Relations.{IsDomain}
use Rattle.world_view.proofs.opening.Counts.{region_more, region_same, is_page, pages_low}
use Rattle.world_view.proofs.opening.Separate.{separated}
use Rattle.hardware_check.specs.Hardware.{Hardware as spec_Hardware}
use Rattle.domain_open.specs.Placing.{HasPool, HasPages}

-- ---- segments from one on

module _ (segments : List Segment) (k : ℕ) where
  pub more : (q : Segment) → k < length segments → q ≡ get_or segments k q
      → map segment_model (drop k segments) ≡ segment_model q ∷ map segment_model (drop (k + 1) segments)
  more q h is =
      ap (map segment_model) (drop_more segments k q h)
      ∙ ap (λ x. segment_model x ∷ map segment_model (drop (k + 1) segments)) (sym is)

  pub none : length segments ≤ k → map segment_model (drop k segments) ≡ []
  none h = ap (map segment_model) (drop_all k segments h)

  pub below_more : (n : ℕ) (q : Segment) → k < length segments → q ≡ get_or segments k q
      → pages_below (map segment_model (drop k segments)) n
      ≡ min q.pages (n - q.page) + pages_below (map segment_model (drop (k + 1) segments)) n
  unfolding pages_below
  below_more n q h is = ap (λ ss. pages_below ss n) (more q h is)

  pub below_none : (n : ℕ) → length segments ≤ k → pages_below (map segment_model (drop k segments)) n ≡ 0
  unfolding pages_below
  below_none n h = ap (λ ss. pages_below ss n) (none h)

  -- ---- a search from this segment on

  pub region_here : (r : ℕ) (q : Segment) → k < length segments → q ≡ get_or segments k q
      → meets (segment_model q) r ≡ true → has_region (map segment_model (drop k segments)) r ≡ true
  unfolding has_region
  region_here r q h is e = ap (λ ss. has_region ss r) (more q h is) ∙ rw e refl

  pub region_there : (r : ℕ) (q : Segment) → k < length segments → q ≡ get_or segments k q
      → meets (segment_model q) r ≡ false
      → has_region (map segment_model (drop k segments)) r ≡ has_region (map segment_model (drop (k + 1) segments)) r
  unfolding has_region
  region_there r q h is e = ap (λ ss. has_region ss r) (more q h is) ∙ rw e refl

  pub region_nowhere : (r : ℕ) → length segments ≤ k
      → has_region (map segment_model (drop k segments)) r ≡ false
  unfolding has_region
  region_nowhere r h = ap (λ ss. has_region ss r) (none h)

  pub rights_here : (n : ℕ) (q : Segment) → k < length segments → q ≡ get_or segments k q
      → has_page (segment_model q) n ≡ true
      → rights_in (map segment_model (drop k segments)) n ≡ Some q.rights
  unfolding rights_in
  rights_here n q h is e = ap (λ ss. rights_in ss n) (more q h is) ∙ rw e refl

  pub rights_there : (n : ℕ) (q : Segment) → k < length segments → q ≡ get_or segments k q
      → has_page (segment_model q) n ≡ false
      → rights_in (map segment_model (drop k segments)) n ≡ rights_in (map segment_model (drop (k + 1) segments)) n
  unfolding rights_in
  rights_there n q h is e = ap (λ ss. rights_in ss n) (more q h is) ∙ rw e refl

  pub rights_nowhere : (n : ℕ) → length segments ≤ k
      → rights_in (map segment_model (drop k segments)) n ≡ None
  unfolding rights_in
  rights_nowhere n h = ap (λ ss. rights_in ss n) (none h)

-- ---- regions, one after the other

pub region_counted : (ss : List spec.Segment) (r n x : ℕ) (b : Bool) → has_region ss r ≡ b
    → n ≡ regions_below ss r → n ≤ r → x ≡ cond b 1 0 → (n + x ≡ regions_below ss (r + 1)) × (n + x ≤ r + 1)
region_counted ss r n x true some below few one =
    let more = region_more ss r some in
    (rw (add-one r) (omega (arith, more, below, one)), omega (arith, few, one))
region_counted ss r n x false none below few nought =
    let same = region_same ss r none in
    (rw (add-one r) (omega (arith, same, below, nought)), omega (arith, few, nought))

-- ---- the pages of a segment are the domain's

segment_pages : (ss : List spec.Segment) (k n : ℕ) → k < length ss
    → has_page (get_or ss k spec.no_segment) n ≡ true → is_page ss n ≡ true
unfolding is_page
segment_pages [] k n h there = absurd (omega arith)
segment_pages (s ∷ ss) zero n h there = rw there refl
segment_pages (s ∷ ss) (suc k) n h there =
    elim (cases_Bool (has_page s n)) [
      | inl here ↦ rw here refl
      | inr elsewhere ↦ rw elsewhere (segment_pages ss k n (omega (arith, h)) there)
    ]

pub has_pages : (o : Own) (k : ℕ) (q : Segment) → k < length o.segments.items
    → q ≡ get_or o.segments.items k q → HasPages (own_model o) q.page q.pages
has_pages o k q h is = record {
  each = λ n low high.
      let ss = map segment_model o.segments.items in
      let at : get_or ss k spec.no_segment ≡ segment_model q =
      get_or-map segment_model o.segments.items k q spec.no_segment h ∙ ap segment_model (sym is) in
      pages_low ss n (segment_pages ss k n (omega (arith, h, length-map o.segments.items segment_model))
      (rw (at, le-leb q.page n low, lt-ltb n (q.page + q.pages) high) refl));
}

-- a segment's pages have numbers of 20 bits
pub segment_few : (o : Own) (k : ℕ) (q : Segment) → IsOwn (own_model o) → k < length o.segments.items
    → q ≡ get_or o.segments.items k q → q.page + q.pages ≤ 2 ^ 20
segment_few o k q sound h is =
    let at : get_or (map segment_model o.segments.items) k spec.no_segment ≡ segment_model q =
    get_or-map segment_model o.segments.items k q spec.no_segment h ∙ ap segment_model (sym is) in
    (subst IsSegment at (sound.segments k)).page

-- ---- what an accepted image says of a domain

module _ (i : Image) (r : Runnable i) (d : ℕ) (is : IsDomain i d) where
  -- its pool has all that it wants
  pub has_pool : (o : Own) (h : spec_Hardware) → own_model o ≡ own_of i d → h ≡ i.all.hardware
      → HasPool h (own_model o)
  has_pool o h same is_hardware =
      let most = r.hardware.most_frames in
      subst₂ (λ (p : spec_Hardware) (x : spec.Own). HasPool p x) (sym is_hardware) (sym same) (record {
        few = omega (arith, most);
        enough = (separated i r).enough d is;
        sound = r.sound d;
      })

-- ---- the last page

-- below the last page number are all pages
pub pages_all : (ss : List spec.Segment) → ((k : ℕ) → IsSegment (get_or ss k spec.no_segment))
    → pages_below ss (2 ^ 20) ≡ pages_in ss
unfolding pages_below pages_in
pages_all [] each = refl
pages_all (s ∷ ss) each =
    let here = (each 0).page in
    let rest = pages_all ss (λ k. each (suc k)) in
    omega (arith, here, rest)
