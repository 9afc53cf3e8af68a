-- From the boot on every shared line is in the second level, as each slot begins, and through each switch.
use Rattle.std.proofs.Common.{◌≡◌, ℕ, zero, suc, false, ◌∷◌, sym, subst}
use Rattle.tp_base.specs.Table.{at, put}
use Rattle.mem_system.specs.Cost.{Flush, Caches, cold, and_then, touched_all}
use Rattle.mem_system.specs.Operations.{leave, enter}
use Rattle.mem_system.proofs.Residency.{resident}
use Rattle.image_check.specs.Image.{Image, own_of}
use Rattle.sched_table.specs.Schedule.{entry_of_slot, outgoing}
use Rattle.world_view.specs.Kernel.{layout}
use Rattle.world_view.specs.Cost.{hierarchy, region}
use Rattle.world_view.specs.Machine.{with_hart, caches_of, World, prefetch_part, leave_part, enter_part, flush_by, guarded, leave_by, prefetch_by, switch_on, switch_work_by}
use Rattle.world_view.specs.Relations.{Resident}
use Rattle.world_view.proofs.opening.Separate.{Separated}
use Rattle.world_view.proofs.touches.Hierarchies.{region_room}
use Rattle.world_view.proofs.touches.KernelTouches.{leave_may, enter_may}
use Rattle.world_view.proofs.touches.CostLaws.{own_resident, prefetch_resident}
use Rattle.world_view.proofs.opening.OpeningFacts.{kernel_of}

module _ (i : Image) (r : Separated i) where
  -- after the leave and the prefetch of switch k, on caches
  pub prefetched : ℕ → Caches → Caches
  prefetched k c =
      let p = i.all.hardware in
      (prefetch_part (hierarchy p) (region p) (leave_by (guarded i) i (outgoing i.all.schedule k) c).caches).caches

  -- the work of a switch keeps what its prefetch left there
  worked : (h k : ℕ) (w : World) → Resident i.all.hardware (prefetched k (caches_of h w))
      → Resident i.all.hardware (caches_of h (switch_on (guarded i) i h k w))
  unfolding prefetched switch_on guarded switch_work_by and_then prefetch_by flush_by enter_part touched_all
      with_hart at put
  worked h k w there =
      let p = i.all.hardware in
      let d = (entry_of_slot i.all.schedule k).domain in
      let kernel = kernel_of i r d (r.named k) in
      own_resident p (own_of i d) kernel (Flush ∷ enter (layout p (own_of i d)))
      (prefetched k (caches_of h w)) (tt, enter_may p (own_of i d) kernel (region p)) there

  -- the first switch of a hart whose caches hold nothing brings all lines
  pub boot_resident : (h : ℕ) (w : World) → caches_of h w ≡ cold (hierarchy i.all.hardware)
      → Resident i.all.hardware (caches_of h (switch_on (guarded i) i h 0 w))
  unfolding prefetched leave_by guarded
  boot_resident h w is =
      let p = i.all.hardware in
      worked h 0 w (subst (λ (c : Caches). Resident p (prefetched 0 c)) (sym is)
      (resident (hierarchy p) (region p) (region_room p r.hardware)))

  -- where all are there, they stay
  left_resident : (k : ℕ) (c : Caches) → Resident i.all.hardware c → Resident i.all.hardware (prefetched k c)
  unfolding prefetched leave_by guarded
  left_resident zero c there =
      prefetch_resident i.all.hardware (own_of i (entry_of_slot i.all.schedule 0).domain)
      (kernel_of i r (entry_of_slot i.all.schedule 0).domain (r.named 0)) c there
  left_resident (suc k) c there =
      let p = i.all.hardware in
      let o = own_of i (entry_of_slot i.all.schedule k).domain in
      let kernel = kernel_of i r (entry_of_slot i.all.schedule k).domain (r.named k) in
      let left = own_resident p o kernel (leave p.costs (layout p o)) c (leave_may p o kernel (region p)) there in
      prefetch_resident p o kernel (leave_part (hierarchy p) false p.costs (layout p o) c).caches left

  pub switched_resident : (h k : ℕ) (w : World) → Resident i.all.hardware (caches_of h w)
      → Resident i.all.hardware (caches_of h (switch_on (guarded i) i h k w))
  switched_resident h k w there = worked h k w (left_resident k (caches_of h w) there)
