-- Reads of a domain's pool, as the code keeps it.
use Rattle.std.proofs.Common.{◌≡◌, ℕ, zero, suc, ◌+◌, ◌<◌, ◌≤◌, ◌^◌, true, List, [], ◌∷◌, length, get_or, refl, sym, ap, subst, ◌∙◌, arith}
use Rattle.hardware_check.specs.Hardware.{Hardware}
use Rattle.image_check.specs.Own.{Own}
use Rattle.image_check.specs.Pages.{has_region, regions_below, regions_in, pages_below, pages_in, frames_in}
use Rattle.std.proofs.lemmas.List.{get_or-take}
use Rattle.world_view.specs.Frames.{pool, pool_frame, clone_frames}
use Rattle.frame_colours.specs.Colours.{frame_at}
use Rattle.world_view.proofs.opening.PoolLaws.{pool_inside, pool_short}
use Rattle.world_view.proofs.opening.Counts.{region_before}
use Rattle.domain_open.specs.Placing.{HasPool}

-- what stands within a list is the same whatever would stand outside
pub either_default : (xs : List ℕ) (n x y : ℕ) → n < length xs → get_or xs n x ≡ get_or xs n y
either_default [] n x y h = absurd (omega arith)
either_default (z ∷ zs) zero x y h = refl
either_default (z ∷ zs) (suc n) x y h = either_default zs n x y (omega arith)

-- a pool has no more frames than memory
pub frames_few : (p : Hardware) (o : Own) → HasPool p o → frames_in o.segments ≤ 2 ^ 15
frames_few p o has = let short = pool_short p o in omega (arith, has.few, has.enough, short)

module _ (p : Hardware) (o : Own) (frames : List ℕ) (is : frames ≡ pool p o) (has : HasPool p o) where
  pub long : frames_in o.segments ≤ length frames
  long = omega (arith, has.enough, ap (λ (xs : List ℕ). length xs) is)

  pub pool_read : (n x : ℕ) → n < length frames → get_or frames n x ≡ pool_frame p o n
  unfolding frame_at
  pool_read n x h = either_default frames n x 0 h ∙ ap (λ (xs : List ℕ). get_or xs n 0) is

  pub read_inside : (n x : ℕ) → n < length frames → get_or frames n x < p.frames
  read_inside n x h =
      let inside = pool_inside p o n (omega (arith, h, ap (λ (xs : List ℕ). length xs) is)) in
      subst (λ (f : ℕ). f < p.frames) (sym (pool_read n x h)) inside

  pub table_place : (r : ℕ) → r < 1024 → has_region o.segments r ≡ true
      → 5 + regions_below o.segments r < length frames
  table_place r below some =
      let before = region_before o.segments r 1024 some below in
      omega (arith, long, before)

  pub page_place : (n : ℕ) → pages_below o.segments n < pages_in o.segments
      → 5 + regions_in o.segments + pages_below o.segments n < length frames
  page_place n there = omega (arith, long, there)

-- the first four are those of the kernel clone
pub clone_read : (p : Hardware) (o : Own) (clone : List ℕ) → clone ≡ clone_frames p o → (n x : ℕ) → n < 4
    → n < length clone → get_or clone n x ≡ pool_frame p o n
unfolding frame_at
clone_read p o clone is n x low h = either_default clone n x 0 h ∙ ap (λ (xs : List ℕ). get_or xs n 0) is ∙ get_or-take 4 (pool p o) n 0 low
