-- A switch's work is the touches of its parts, one after the other.
use Rattle.std.proofs.Common.{◌≡◌, ◌∙◌, ℕ, Bool, true, false, List, [], ◌∷◌, ◌++◌, Option, Some, None, ap, ap₂, refl, arith}
use Rattle.std.specs.Prelude.{if◌then◌else◌}
use Rattle.tp_base.specs.Table.{at-put_same}
use Rattle.mem_system.specs.Cost.{Touch, EmptyTlb, Flush, Caches, at_no_cost, and_then, touched, touched_all}
use Rattle.kernel_clone.specs.Footprints.{Layout}
use Rattle.mem_system.proofs.Touches.{touched_all-append}
use Rattle.mem_system.specs.Operations as operations
use Rattle.mem_system.specs.Operations.{enter, prefetch, shared_region}
use Rattle.hardware_check.specs.Hardware.{Hardware}
use Rattle.image_check.specs.Own.{Own}
use Rattle.image_check.specs.Image.{Image, own_of}
use Rattle.world_view.specs.Kernel.{layout}
use Rattle.world_view.specs.Cost.{hierarchy, region}
use Rattle.world_view.specs.Machine.{Hart, World, no_hart, hart_of, caches_of, clock_of, with_hart, Guards, guarded, clone_of, clone_by, prefetch_part, flush_part, enter_part, leave_by, prefetch_by, flush_by, switch_work_by, switch_work}

pub region_is : (p : Hardware) (o : Own) → shared_region (layout p o) ≡ region p
unfolding region shared_region layout
region_is p o = refl

-- ---- by any guards

module _ (g : Guards) (i : Image) where
  -- all that a switch touches
  abbrev pub touches_by : Option ℕ → ℕ → List Touch
  touches_by out d = operations.switch_by g.prefetch g.flush i.all.hardware.costs (clone_by g out) (g.clone d)

  leave_is : (out : Option ℕ) (c : Caches)
      → leave_by g i out c ≡ touched_all g.levels false c (operations.leave_if i.all.hardware.costs (clone_by g out))
  unfolding leave_by operations.leave_if touched_all
  leave_is None c = refl
  leave_is (Some d) c = refl

  loads_is : (b : Bool) (c : Caches)
      → (if b then prefetch_part g.levels (region i.all.hardware) c else at_no_cost c)
      ≡ touched_all g.levels false c (if b then prefetch (region i.all.hardware) else [])
  unfolding touched_all
  loads_is true c = refl
  loads_is false c = refl

  emptied_is : (b : Bool) (c : Caches)
      → (if b then flush_part g.levels false c else touched g.levels false c EmptyTlb)
      ≡ touched g.levels false c (if b then Flush else EmptyTlb)
  emptied_is true c = refl
  emptied_is false c = refl

  pub work_by_is : (out : Option ℕ) (d : ℕ) (c : Caches) → shared_region (g.clone d) ≡ region i.all.hardware
      → switch_work_by g i out d c ≡ touched_all g.levels false c (touches_by out d)
  unfolding switch_work_by prefetch_by flush_by enter_part operations.switch_by touched_all and_then
  work_by_is out d c same =
      let p = i.all.hardware in
      let h = g.levels in
      let l = g.clone d in
      let left = operations.leave_if p.costs (clone_by g out) in
      let loads : List Touch = if g.prefetch then prefetch (region p) else [] in
      let emptied : Touch = if g.flush then Flush else EmptyTlb in
      rw (
        same,
        leave_is out c,
        loads_is g.prefetch (touched_all h false c left).caches,
        emptied_is g.flush
            (touched_all h false (touched_all h false c left).caches loads).caches,
        touched_all-append h false
            c left (loads ++ emptied ∷ enter l),
        touched_all-append h false (touched_all h false c left).caches
            loads (emptied ∷ enter l),
      )
      (ap₂ (λ (x : ℕ) (y : Caches). record { cost = x; caches = y }) (omega arith) refl)

-- ---- a hart, after what was done on it

pub hart-with : (h : ℕ) (w : World) (c : Caches) (t : ℕ)
    → hart_of h (with_hart h w c t) ≡ record (hart_of h w) { core = c.core; clock = t }
unfolding with_hart
hart-with h w c t = at-put_same no_hart w.harts h _

pub caches-with : (h : ℕ) (w : World) (c : Caches) (t : ℕ) → caches_of h (with_hart h w c t) ≡ c
unfolding with_hart
caches-with h w c t = ap (λ (x : Hart). record { core = x.core; l2 = c.l2 }) (hart-with h w c t)

pub clock-with : (h : ℕ) (w : World) (c : Caches) (t : ℕ) → clock_of h (with_hart h w c t) ≡ t
clock-with h w c t = ap (λ (x : Hart). x.clock) (hart-with h w c t)

-- ---- with all on

-- all that a switch touches
abbrev pub all_touches : Image → Option ℕ → ℕ → List Touch
all_touches i out d = operations.switch i.all.hardware.costs (clone_of i out) (layout i.all.hardware (own_of i d))

clone_is : (i : Image) (out : Option ℕ) → clone_by (guarded i) out ≡ clone_of i out
unfolding guarded
clone_is i None = refl
clone_is i (Some d) = refl

pub switch_is : (i : Image) (out : Option ℕ) (d : ℕ) (c : Caches)
    → switch_work i out d c ≡ touched_all (hierarchy i.all.hardware) false c (all_touches i out d)
unfolding guarded
switch_is i out d c =
    let p = i.all.hardware in
    work_by_is (guarded i) i out d c (region_is p (own_of i d))
    ∙ ap (λ (l : Option Layout). touched_all (hierarchy p) false c (operations.switch p.costs l (layout p (own_of i d)))) (clone_is i out)
