-- The second level's sets of colour 0 keep shared lines alone, through each step and in the midst of each switch, and none of
-- them is dirty.
use Rattle.std.proofs.Common.{◌≡◌, ℕ, zero, suc, Bool, false, ap, sym, ◌∙◌, List, ◌∷◌, ◌++◌, length, take, Option, Some, None, refl, subst, le_refl}
use Rattle.std.proofs.lemmas.List.{take_all}
use Rattle.std.proofs.lemmas.Option.{same_Some}
use Rattle.set_cache.proofs.Dirty.{EachDirty-empty}
use Rattle.mem_system.specs.Cost.{Touch, Flush, Caches, Touched, cold, fresh_core, flushed, on_core, pass_on, touched, touched_all, and_then}
use Rattle.mem_system.specs.Operations as operations
use Rattle.mem_system.specs.Operations.{leave, leave_if, enter, prefetch}
use Rattle.mem_system.specs.Sharing.{IsOwnLine, IsSharing, MayTouchAll}
use Rattle.mem_system.proofs.Clean.{cold_clean_law, stays_clean_law}
use Rattle.mem_system.proofs.OwnTouches.{may_append, prefetch_may}
use Rattle.mem_system.proofs.KernelSets.{empty_law, shared_alone_law, any_colour, any_may, take_may}
use Rattle.hardware_check.specs.Hardware.{Hardware}
use Rattle.image_check.specs.Image.{Image, own_of}
use Rattle.sched_table.specs.Schedule.{entry_of_slot, outgoing}
use Rattle.world_view.specs.Kernel.{layout}
use Rattle.world_view.specs.Cost.{hierarchy, region, own_colour}
use Rattle.world_view.specs.Machine.{caches_of, setting, Local, World, clone_of, prefetch_part, flush_part, enter_part, leave_by, prefetch_by, flush_by, switch_work_by, step, guarded, switch_on}
use Rattle.world_view.specs.Relations.{IsDomain, HasFacts, KeepsSharedAlone, KernelIsClean, OwnDirty}
use Rattle.world_view.proofs.touches.CostLaws.{own_dirties}
use Rattle.world_view.specs.EventLaws.{step_touches}
use Rattle.world_view.proofs.opening.Separate.{Separated}
use Rattle.world_view.proofs.touches.KernelTouches.{leave_may, enter_may}
use Rattle.world_view.proofs.opening.OpeningFacts.{kernel_of}
use Rattle.world_view.proofs.steps.StepLaws.{step_may, step_caches}
use Rattle.world_view.proofs.runs.SwitchParts.{all_touches, region_is, switch_is, caches-with}

-- the sets of colour 0 keep shared lines alone, and none of them is dirty
pub record KernelsSets (p : Hardware) (c : Caches) : Type 0 where
  pub alone : KeepsSharedAlone p c
  pub clean : KernelIsClean p c

-- before the first event no line is kept
pub cold_sets : (p : Hardware) (c : Caches) → c ≡ cold (hierarchy p) → KernelsSets p c
unfolding cold
cold_sets p c is =
    subst (KernelsSets p) (sym is)
    (record { alone = λ s way line kernel kept. absurd (cc (sym (empty_law (hierarchy p) s way) ∙ kept)); clean = cold_clean_law (hierarchy p) })

-- after touches, too
touched_sets : (p : Hardware) (own : ℕ → Bool) → IsSharing (hierarchy p) own (region p)
    → (ts : List Touch) (c : Caches)
    → MayTouchAll (hierarchy p) own (region p) ts → KernelsSets p c → KernelsSets p (touched_all (hierarchy p) false c ts).caches
touched_sets p own shares ts c may h = record {
  alone = shared_alone_law (hierarchy p) own (region p) false ts c shares may h.alone;
  clean = stays_clean_law (hierarchy p) own (region p) false ts c shares may h.clean;
}

module _ (i : Image) (r : Separated i) where
  -- all that switch k touches
  abbrev pub touches_in : ℕ → List Touch
  touches_in k = all_touches i (outgoing i.all.schedule k) (entry_of_slot i.all.schedule k).domain

  -- what a switch touches, some domain may touch
  pub leave_any : (out : Option ℕ) → ((e : ℕ) → out ≡ Some e → IsDomain i e)
      → MayTouchAll (hierarchy i.all.hardware) any_colour (region i.all.hardware) (leave_if i.all.hardware.costs (clone_of i out))
  unfolding leave_if
  leave_any None named = tt
  leave_any (Some e) named =
      let p = i.all.hardware in
      let kernel = kernel_of i r e (named e refl) in
      any_may (hierarchy p) (own_colour (own_of i e)) (region p) kernel.shares.not_kernel
      (leave p.costs (layout p (own_of i e))) (leave_may p (own_of i e) kernel (region p))

  pub who_leaves : (k e : ℕ) → outgoing i.all.schedule k ≡ Some e → IsDomain i e
  who_leaves zero e is = absurd (cc is)
  who_leaves (suc k) e is = subst (IsDomain i) (same_Some _ _ is) (r.named k)

  pub switch_any : (k : ℕ)
      → MayTouchAll (hierarchy i.all.hardware) any_colour (region i.all.hardware) (touches_in k)
  unfolding operations.switch_by
  switch_any k =
      let p = i.all.hardware in
      let h = hierarchy p in
      let d = (entry_of_slot i.all.schedule k).domain in
      let kernel = kernel_of i r d (r.named k) in
      let into =
      any_may h (own_colour (own_of i d)) (region p) kernel.shares.not_kernel
      (enter (layout p (own_of i d))) (enter_may p (own_of i d) kernel (region p)) in
      let loads = any_may h (λ _. false) (region p) refl (prefetch (region p)) (prefetch_may h (λ _. false) (region p)) in
      rw (region_is p (own_of i d))
      (may_append h any_colour (region p) (leave_if p.costs (clone_of i (outgoing i.all.schedule k)))
      (prefetch (region p) ++ Flush ∷ enter (layout p (own_of i d)))
      (leave_any (outgoing i.all.schedule k) (who_leaves k)) (may_append h any_colour (region p)
      (prefetch (region p)) (Flush ∷ enter (layout p (own_of i d))) loads (tt, into)))

  pub any_sharing : IsSharing (hierarchy i.all.hardware) any_colour (region i.all.hardware)
  any_sharing =
      let kernel = kernel_of i r (entry_of_slot i.all.schedule 0).domain (r.named 0) in
      record { coloured = kernel.shares.coloured; not_kernel = refl; kernel = kernel.shares.kernel }

  -- in the midst of it, after so many of its touches
  pub in_switch : (k n : ℕ) (c : Caches) → KernelsSets i.all.hardware c
      → KernelsSets i.all.hardware (touched_all (hierarchy i.all.hardware) false c (take n (touches_in k))).caches
  in_switch k n c before =
      let p = i.all.hardware in
      touched_sets p any_colour any_sharing (take n (touches_in k)) c
      (take_may (hierarchy p) any_colour (region p) n (touches_in k) (switch_any k)) before

  -- after all of them
  pub after_switch : (h k : ℕ) (w : World)
      → (touched_all (hierarchy i.all.hardware) false (caches_of h w) (take (length (touches_in k)) (touches_in k))).caches
      ≡ caches_of h (switch_on (guarded i) i h k w)
  unfolding switch_on guarded
  after_switch h k w =
      ap (λ (ts : List Touch). (touched_all (hierarchy i.all.hardware) false (caches_of h w) ts).caches)
      (take_all (length (touches_in k)) (touches_in k) (le_refl _))
      ∙ sym (ap (λ (t : Touched). t.caches) (switch_is i (outgoing i.all.schedule k) (entry_of_slot i.all.schedule k).domain (caches_of h w)))
      ∙ sym (caches-with h _ _ _)

  pub switched_sets : (h k : ℕ) (w : World) → KernelsSets i.all.hardware (caches_of h w)
      → KernelsSets i.all.hardware (caches_of h (switch_on (guarded i) i h k w))
  switched_sets h k w before =
      subst (KernelsSets i.all.hardware) (after_switch h k w) (in_switch k (length (touches_in k)) (caches_of h w) before)

  -- after a switch of any hart none of the kernel's lines is dirty, if none was before
  pub switched_clean : (h k : ℕ) (w : World) → KernelIsClean i.all.hardware (caches_of h w)
      → KernelIsClean i.all.hardware (caches_of h (switch_on (guarded i) i h k w))
  unfolding switch_on guarded
  switched_clean h k w clean =
      let p = i.all.hardware in
      let out = outgoing i.all.schedule k in
      let d = (entry_of_slot i.all.schedule k).domain in
      subst (KernelIsClean p) (sym (caches-with h _ _ _))
      (subst (λ (t : Touched). KernelIsClean p t.caches) (sym (switch_is i out d (caches_of h w)))
      (stays_clean_law (hierarchy p) any_colour (region p) false (touches_in k) (caches_of h w) any_sharing (switch_any k) clean))

  -- a step leaves the sets so
  pub step_sets : (d end : ℕ) (s : Local) → IsDomain i d → HasFacts i.all.hardware (own_of i d) s.dom s.storage
      → KernelsSets i.all.hardware s.caches
      → KernelsSets i.all.hardware (step (setting i.all.hardware (own_of i d) false) end s).caches
  step_sets d end s is facts before =
      let p = i.all.hardware in
      let o = own_of i d in
      let kernel = kernel_of i r d is in
      subst (KernelsSets p) (sym (step_caches p o false end s))
      (touched_sets p (own_colour o) kernel.shares (step_touches p o end s) s.caches (step_may p o kernel end s facts) before)

  -- as a slot begins, after the flush and the enter of its domain
  pub switched_dirty : (h k : ℕ) (w : World)
      → OwnDirty i.all.hardware (own_of i (entry_of_slot i.all.schedule k).domain) (caches_of h (switch_on (guarded i) i h k w))
  unfolding switch_on guarded switch_work_by and_then prefetch_by flush_by enter_part touched on_core flushed
      fresh_core pass_on
  switched_dirty h k w =
      let p = i.all.hardware in
      let d = (entry_of_slot i.all.schedule k).domain in
      let kernel = kernel_of i r d (r.named k) in
      let left = leave_by (guarded i) i (outgoing i.all.schedule k) (caches_of h w) in
      let emptied = (flush_part (hierarchy p) false (prefetch_part (hierarchy p) (region p) left.caches).caches).caches in
      subst (OwnDirty p (own_of i d)) (sym (caches-with h _ _ _))
      (own_dirties p (own_of i d) kernel false (enter (layout p (own_of i d))) emptied (enter_may p (own_of i d) kernel (region p))
      (EachDirty-empty (IsOwnLine (hierarchy p) (own_colour (own_of i d))) (hierarchy p).l1d))
