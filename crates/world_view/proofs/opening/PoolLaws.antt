-- The frames of a domain's pool: its own, ascending, each once.
use Rattle.std.proofs.Common.{◌≡◌, ℕ, ◌<◌, ◌≤◌, not, length, get_or, inl, inr, refl, arith}
use Rattle.std.specs.List.{range_with_len}
use Rattle.std.proofs.lemmas.Bool.{cases_eq, cases_lt, ltb-true, lt-ltb, and_parts}
use Rattle.std.proofs.lemmas.List.FromFn.{length-range_with_len}
use Rattle.std.proofs.lemmas.List.Filters.{length-filter_both}
use Rattle.frame_colours.specs.Colours as colours
use Rattle.frame_colours.specs.Colours.{IsOwn, has_colour}
use Rattle.frame_colours.proofs.Pools.{frame_at_own, frame_at_increasing}
use Rattle.hardware_check.specs.Hardware.{Hardware}
use Rattle.image_check.specs.Own.{Own}
use Rattle.image_check.specs.Pages.{share_of}
use Rattle.world_view.specs.Frames.{pool, pool_frame}
use Rattle.world_view.specs.Relations.{IsOwnFrame}

module _ (p : Hardware) (o : Own) where
  -- the share's frames are the domain's
  own_in_share : (f : ℕ) → IsOwnFrame p o f → IsOwn (share_of p o) f
  own_in_share f is = let parts = and_parts _ _ is in record { below = ltb-true f p.frames parts.0; coloured = parts.1 }

  -- each of its frames is the domain's own
  pub pool_own : (n : ℕ) → n < length (pool p o) → IsOwnFrame p o (pool_frame p o n)
  pool_own n h = let own = frame_at_own (share_of p o) n h in rw (lt-ltb (pool_frame p o n) p.frames own.below, own.coloured) refl

  -- and in memory
  pub pool_inside : (n : ℕ) → n < length (pool p o) → pool_frame p o n < p.frames
  pool_inside n h = (frame_at_own (share_of p o) n h).below

  pub own_at_place : (n : ℕ) → n < length (pool p o) → IsOwnFrame p o (get_or (pool p o) n 0)
  unfolding colours.frame_at
  own_at_place n h = pool_own n h

  pub in_pool : (n : ℕ) → n < length (pool p o) → get_or (pool p o) n 0 < p.frames
  unfolding colours.frame_at
  in_pool n h = pool_inside n h

  -- no two places have the same frame
  pub pool_once : (n m : ℕ) → n < length (pool p o) → m < length (pool p o)
      → pool_frame p o n ≡ pool_frame p o m → n ≡ m
  pool_once n m h k same =
      elim (cases_eq n m) [
        | inl e ↦ e
        | inr other ↦ absurd (elim (cases_lt n m) [
          | inl less ↦ let up = frame_at_increasing (share_of p o) n m less k in omega (arith, up, same)
          | inr more ↦ let up = frame_at_increasing (share_of p o) m n (omega (arith, more, other)) h in omega (arith, up, same)
        ])
      ]

  -- it has no more frames than memory
  pub pool_short : length (pool p o) ≤ p.frames
  unfolding colours.pool
  pool_short =
      let parts =
      length-filter_both (has_colour (share_of p o)) (λ f. not (has_colour (share_of p o) f))
      (λ f. refl) (range_with_len 0 p.frames) in
      omega (arith, parts, length-range_with_len 0 p.frames)

  -- a frame of the domain's own is in memory
  pub own_inside : (f : ℕ) → IsOwnFrame p o f → f < p.frames
  own_inside f is = (own_in_share f is).below
