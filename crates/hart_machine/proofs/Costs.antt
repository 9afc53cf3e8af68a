-- What a switch takes, from two worlds that are the same for its hart.
use Rattle.std.proofs.Common.{◌≡◌, ◌≢◌, ◌⊎◌, inl, inr, ℕ, zero, suc, ◌+◌, ◌-◌, ◌<◌, Bool, false, true≢false, List, [], ◌∷◌, Option, Some, ap, ap₂, sym, ◌∙◌, refl, subst, arith}
use Rattle.mem_system.specs.Hierarchy.{Hierarchy}
use Rattle.mem_system.specs.Cost.{Touch, Flush, Caches, Touched, and_then, touched, touched_all}
use Rattle.mem_system.specs.Operations.{leave, prefetch}
use Rattle.mem_system.specs.Sharing as sharing
use Rattle.mem_system.specs.Sharing.{IsSharing, MayTouchAll, SameKernelPlaces, is_own_set}
use Rattle.mem_system.proofs.KernelSets.{any_colour}
use Rattle.mem_system.proofs.KernelPlaces.{places_stay_law, clean_dirty}
use Rattle.mem_system.proofs.OwnTouches.{beside_law, prefetch_may}
use Rattle.hardware_check.specs.Hardware.{Hardware}
use Rattle.sched_table.specs.Schedule.{outgoing, last_end, harts_in}
use Rattle.image_check.specs.Own.{Own}
use Rattle.image_check.specs.Image.{Image, own_of}
use Rattle.image_check.specs.Laws.{Runnable}
use Rattle.world_view.specs.Kernel.{layout}
use Rattle.world_view.specs.Cost.{hierarchy, region}
use Rattle.world_view.specs.Machine.{Hart, World, caches_of, part_of, guarded, with_hart, switch_on, leave_by, switch_work_by, prefetch_by, flush_by, switch_work, cycles_on}
use Rattle.world_view.specs.Relations.{IsKernel, SameSets, Resident, InTime, left_colours}
use Rattle.world_view.specs.Harts.{image_on, domain_in}
use Rattle.world_view.proofs.opening.Separate.{Separated}
use Rattle.world_view.proofs.opening.OpeningFacts.{kernel_of}
use Rattle.world_view.proofs.touches.KernelTouches.{leave_may}
use Rattle.world_view.proofs.facts.KernelSets.{touches_in, any_sharing, switch_any}
use Rattle.world_view.proofs.runs.SwitchParts.{switch_is}
use Rattle.world_view.proofs.runs.SwitchLaws.{prepared, entered, left, others_left, own_left}
use Rattle.world_view.proofs.harts.OnHart.{separated_on, hart_is}
use Rattle.world_view.proofs.harts.Events.{switched}
use Rattle.hart_machine.specs.HartMachine.{SameParts, IsNobodysSet, SameNobodys}
use Rattle.hart_machine.proofs.Equal.{near}
use Rattle.hart_machine.proofs.Turns.{leaves_or}

-- ---- touches from caches that are the same on the core and in a domain's sets

module _ (h : Hierarchy) (own : ℕ → Bool) (shared : List ℕ) where
  -- whose shared lines are there
  pub record Near (c a : Caches) : Type 0 where
    pub core : c.core ≡ a.core
    pub dirty : sharing.OwnDirty h own c.core
    pub same : sharing.SameSets h own c.l2 a.l2
    pub there : sharing.Resident h shared c.l2
    pub there_too : sharing.Resident h shared a.l2

  pub record NearTouched (q x : Touched) : Type 0 where
    pub cost : q.cost ≡ x.cost
    pub near : Near q.caches x.caches

  pub touches_near : IsSharing h own shared → (ts : List Touch) (c a : Caches) → MayTouchAll h own shared ts → Near c a
      → NearTouched (touched_all h false c ts) (touched_all h false a ts)
  touches_near shares ts c a may n =
      let one = beside_law h own shared c.l2 ts c a shares may (record {
        core = n.core;
        dirty = n.dirty;
        l2 = record { same = n.same; resident = n.there; outside = λ s out kernels. refl };
      }) in
      let other = beside_law h own shared a.l2 ts a a shares may (record {
        core = refl;
        dirty = subst (sharing.OwnDirty h own) n.core n.dirty;
        l2 = record { same = λ s mine. refl; resident = n.there_too; outside = λ s out kernels. refl };
      }) in
      record {
        cost = one.cost ∙ sym other.cost;
        near = record {
          core = one.caches.core ∙ sym other.caches.core;
          dirty = one.caches.dirty;
          same = λ s mine. one.caches.l2.same s mine ∙ sym (other.caches.l2.same s mine);
          there = one.caches.l2.resident;
          there_too = other.caches.l2.resident;
        };
      }

-- touches leave the sets of other colours than the domain's and the kernel's
module _ (h : Hierarchy) (own : ℕ → Bool) (shared : List ℕ) where
  pub record IsReady (c : Caches) : Type 0 where
    pub dirty : sharing.OwnDirty h own c.core
    pub there : sharing.Resident h shared c.l2

  pub record Leaves (c later : Caches) : Type 0 where
    pub ready : IsReady later
    pub outside : sharing.SameOutside h own later.l2 c.l2

  pub touches_leave : IsSharing h own shared → (ts : List Touch) (c : Caches) → MayTouchAll h own shared ts → IsReady c
      → Leaves c (touched_all h false c ts).caches
  touches_leave shares ts c may n =
      let one = beside_law h own shared c.l2 ts c c shares may (record {
        core = refl;
        dirty = n.dirty;
        l2 = record { same = λ s mine. refl; resident = n.there; outside = λ s out kernels. refl };
      }) in
      record {
        ready = record { dirty = one.caches.dirty; there = one.caches.l2.resident };
        outside = one.caches.l2.outside;
      }

one_touch : (h : Hierarchy) (c : Caches) (t : Touch) → (touched_all h false c (t ∷ [])).cost ≡ (touched h false c t).cost
unfolding touched_all and_then
one_touch h c t = omega arith

-- ---- a hart's switch

module _ (i : Image) (r : Runnable i) (h : ℕ) (is : h < harts_in i.all.schedule) where
  abbrev p : Hardware
  p = i.all.hardware

  abbrev levels : Hierarchy
  levels = hierarchy p

  abbrev on : Image
  on = image_on i h

  r_on : Separated on
  r_on = separated_on i r h is

  abbrev its : ℕ → Own
  its k = own_of i (domain_in i h k)

  abbrev out : ℕ → Option ℕ
  out k = outgoing on.all.schedule k

  -- the colours of who leaves
  abbrev colours : ℕ → ℕ → Bool
  colours k = left_colours on (out k)

  kernel : (k : ℕ) → IsKernel p (its k)
  kernel k = kernel_of on r_on (domain_in i h k) (r_on.named k)

  shares : (k : ℕ) → IsSharing levels (colours k) (region p)
  shares zero = let s = (kernel 0).shares in record { coloured = s.coloured; not_kernel = refl; kernel = s.kernel }
  shares (suc k) = (kernel k).shares

  -- before switch k, which isn't the first of all
  pub record IsBefore (k : ℕ) (w : World) : Type 0 where
    pub time : InTime on h k w
    pub there : Resident p (caches_of h w)

  abbrev away : ℕ → Caches → Touched
  away k c = leave_by (guarded on) on (out k) c

  abbrev loads : Caches → Touched
  loads u = touched_all levels false u (prefetch (region p))

  -- ---- what is nobody's stays

  nobodys : (x : ℕ) → IsNobodysSet i x → (k : ℕ) → is_own_set levels (colours k) x ≡ false
  nobodys x none zero = refl
  nobodys x none (suc k) = none.none (domain_in i h k) (r_on.named k)

  leave_leaves : (k : ℕ) (c : Caches) → IsReady levels (colours k) (region p) c
      → Leaves levels (colours k) (region p) c (away k c).caches
  unfolding leave_by guarded
  leave_leaves zero c ready = record { ready = ready; outside = λ s out kernels. refl }
  leave_leaves (suc k) c ready =
      touches_leave levels (colours (suc k)) (region p) (shares (suc k)) (leave p.costs (layout p (its k))) c
      (leave_may p (its k) (kernel k) (region p)) ready

  flush_leaves : (k : ℕ) (c : Caches) → IsReady levels (colours k) (region p) c
      → Leaves levels (colours k) (region p) c (touched levels false c Flush).caches
  unfolding touched_all and_then
  flush_leaves k c ready = touches_leave levels (colours k) (region p) (shares k) (Flush ∷ []) c (tt, tt) ready

  -- all that a switch touches some domain may touch, and of colour 0 these are shared lines, which are there
  switched_places : (k : ℕ) (u : World) → IsBefore k u → SameKernelPlaces levels (switched i r h is k u).l2 u.l2
  unfolding switch_on with_hart guarded
  switched_places k u a =
      let shares = any_sharing on r_on in
      let c = caches_of h u in
      subst (λ (t : Touched). SameKernelPlaces levels t.caches.l2 u.l2) (sym (switch_is on (out k) (domain_in i h k) c))
      (places_stay_law levels any_colour (region p) (touches_in on r_on k) c shares (switch_any on r_on k)
      (clean_dirty levels c shares.coloured a.time.clean) a.there)

  pub switched_leaves : (k : ℕ) (u : World) → IsBefore k u → SameNobodys i (switched i r h is k u) u
  unfolding switch_on with_hart switch_work_by prefetch_by flush_by guarded and_then prepared
  switched_leaves k u a =
      let gone = leave_leaves k (caches_of h u) (record { dirty = a.time.dirty; there = a.there }) in
      let c = (away k (caches_of h u)).caches in
      let loaded =
      touches_leave levels (colours k) (region p) (shares k) (prefetch (region p)) c (prefetch_may levels (colours k) (region p)) gone.ready in
      let flushed = flush_leaves k (loads c).caches loaded.ready in
      let into = (entered p (its k) (kernel k) c (prepared p c) (λ _ _. refl)).caches.l2 in
      record {
        frames = λ f none. refl;
        sets = λ x none.
            into.outside x (none.none (domain_in i h k) (r_on.named k)) none.not_kernel
            ∙ flushed.outside x (nobodys x none k) none.not_kernel
            ∙ loaded.outside x (nobodys x none k) none.not_kernel
            ∙ gone.outside x (nobodys x none k) none.not_kernel;
        kernels = switched_places k u a;
      }

  module _ (w v : World) (same : SameParts i h w v) where
    same_sets : (k : ℕ) → sharing.SameSets levels (colours k) w.l2 v.l2
    same_sets zero s mine = absurd (true≢false (sym mine))
    same_sets (suc k) s mine = (same.domains (domain_in i h k) (r_on.named k) (hart_is i r h is k)).part.sets s mine

    module _ (k : ℕ) (a : IsBefore k w) (b : IsBefore k v) where
      at_first : Near levels (colours k) (region p) (caches_of h w) (caches_of h v)
      at_first = record {
        core = ap (λ (x : Hart). x.core) same.hart;
        dirty = a.time.dirty;
        same = same_sets k;
        there = a.there;
        there_too = b.there;
      }

    -- ---- who leaves

    leaves_near : (k : ℕ) → IsBefore k w → IsBefore k v
        → NearTouched levels (colours k) (region p) (away k (caches_of h w)) (away k (caches_of h v))
    unfolding leave_by guarded
    leaves_near zero a b = record { cost = refl; near = at_first 0 a b }
    leaves_near (suc k) a b =
        touches_near levels (colours (suc k)) (region p) (shares (suc k)) (leave p.costs (layout p (its k))) (caches_of h w)
        (caches_of h v) (leave_may p (its k) (kernel k) (region p)) (at_first (suc k) a b)

    module _ (k : ℕ) (a : IsBefore k w) (b : IsBefore k v) where
      abbrev c : Caches
      c = (away k (caches_of h w)).caches

      abbrev x : Caches
      x = (away k (caches_of h v)).caches

      -- ---- the prefetch, and the flush

      loads_near : NearTouched levels (colours k) (region p) (loads c) (loads x)
      loads_near =
          touches_near levels (colours k) (region p) (shares k) (prefetch (region p)) c x
          (prefetch_may levels (colours k) (region p)) (leaves_near k a b).near

      flushes_alike : (touched levels false (loads c).caches Flush).cost ≡ (touched levels false (loads x).caches Flush).cost
      flushes_alike =
          sym (one_touch levels (loads c).caches Flush)
          ∙ (touches_near levels (colours k) (region p) (shares k) (Flush ∷ []) (loads c).caches (loads x).caches (tt, tt)
          loads_near.near).cost
          ∙ one_touch levels (loads x).caches Flush

      -- ---- who enters

      abbrev d : ℕ
      d = domain_in i h k

      abbrev settled : Caches → Caches
      settled u = left on r_on d (r_on.named k) (out k) u

      settled_if : (out k ≡ Some d) ⊎ (out k ≢ Some d)
          → SameSets p (its k) (settled (caches_of h w)) (settled (caches_of h v))
      settled_if (inl leaves) s mine =
          let id = r_on.named k in
          let ahead = near i h w v same d id (hart_is i r h is k) in
          own_left on r_on d id k (caches_of h w) (part_of h d v) leaves ahead.core a.time.dirty ahead.part.sets s mine
          ∙ sym (own_left on r_on d id k (caches_of h v) (part_of h d v) leaves refl b.time.dirty (λ _ _. refl) s mine)
      settled_if (inr other) s mine =
          let id = r_on.named k in
          others_left on r_on d id k (caches_of h w) other a.time.dirty s mine
          ∙ (same.domains d id (hart_is i r h is k)).part.sets s mine
          ∙ sym (others_left on r_on d id k (caches_of h v) other b.time.dirty s mine)

      settled_same : SameSets p (its k) (prepared p c) (prepared p x)
      unfolding left
      settled_same = settled_if (leaves_or on.all.schedule k d)

      -- ---- all of it

      work_alike : (switch_work on (out k) d (caches_of h w)).cost ≡ (switch_work on (out k) d (caches_of h v)).cost
      unfolding switch_work_by prefetch_by flush_by guarded and_then prepared
      work_alike =
          let gone = (leaves_near k a b).cost in
          let loaded = loads_near.cost in
          let flushed = flushes_alike in
          let one = (entered p (its k) (kernel k) c (prepared p x) settled_same).cost in
          let other = (entered p (its k) (kernel k) x (prepared p x) (λ _ _. refl)).cost in
          omega (arith, gone, loaded, flushed, one, other)

      pub cycles_alike : cycles_on (guarded on) on h k w ≡ cycles_on (guarded on) on h k v
      unfolding guarded
      cycles_alike =
          ap₂ (λ (t n : ℕ). (t + n) - last_end on.all.schedule k) (ap (λ (y : Hart). y.clock) same.hart) work_alike
