-- What an event of one hart does to it, to the others, and to a domain of another.
use Rattle.std.proofs.Common.{None, ap, lt-ltb, ◌≡◌, ◌≢◌, ℕ, zero, suc, ◌+◌, ◌<◌, ◌≤◌, Bool, true, false, Some, sym, refl, subst, arith}
use Rattle.std.specs.Prelude.{if◌then◌else◌}
use Rattle.std.proofs.lemmas.Option.{same_Some}
use Rattle.tp_base.specs.Table.{at-put_same, at-put_other}
use Rattle.set_cache.specs.Cache.{EachDirty}
use Rattle.mem_system.specs.Hierarchy.{colour_of_line}
use Rattle.mem_system.specs.Sharing as sharing
use Rattle.mem_system.specs.Worst.{HasWays}
use Rattle.mem_system.proofs.Clean.{stays_clean_law}
use Rattle.sched_table.specs.Schedule.{last_end, outgoing, switch_entry, place_on, harts_in}
use Rattle.image_check.specs.Own.{Own}
use Rattle.image_check.specs.Image.{Image, own_of}
use Rattle.image_check.specs.Laws.{Runnable}
use Rattle.world_view.specs.Cost.{hierarchy, region, own_colour}
use Rattle.world_view.specs.Kernel.{no_dom}
use Rattle.world_view.specs.Machine.{Hart, Local, World, hart_of, caches_of, clock_of, dom_of, part_of, with_part, with_hart, setting, step, guarded, switch_on, cycles_on, noted}
use Rattle.world_view.specs.EventLaws.{step_touches}
use Rattle.world_view.specs.Relations.{IsDomain, IsKernel, SamePart, Resident, KernelIsClean, OwnDirty, HasFacts, InTime, Apiece, left_colours, largest_step, ended_own}
use Rattle.world_view.specs.Harts.{Harts, image_on, domain_in, start_on, end_on, hart_of_domain, runs, slots_of, proceeds, begins, settles}
use Rattle.world_view.proofs.opening.Separate.{Separated}
use Rattle.world_view.proofs.opening.OpeningFacts.{kernel_of, parties_of}
use Rattle.world_view.proofs.steps.Fuel.{step_later}
use Rattle.world_view.proofs.steps.StepLaws.{keeps_itself, step_keeps, step_may, step_caches, step_dirties, step_resident}
use Rattle.mail_slots.specs.Laws.{pairs_of}
use Rattle.world_view.proofs.runs.Quiet.{pairs_still}
use Rattle.world_view.proofs.facts.KernelSets.{switched_dirty, switched_clean}
use Rattle.world_view.proofs.time.TimeLaws.{IsSoon, step_soon, switch_ways, switch_on_start}
use Rattle.world_view.proofs.runs.SwitchParts.{hart-with, caches-with, clock-with}
use Rattle.world_view.proofs.runs.PartyLaws.{part_itself, others_step}
use Rattle.world_view.proofs.runs.SwitchLaws.{switch_past}
use Rattle.world_view.proofs.harts.OnHart.{separated_on, padded_on, lasts, not_here}

module _ (i : Image) where
  -- hart h in its slot k, whose end its clock has not reached
  pub record IsInside (h k : ℕ) (w : World) : Type 0 where
    pub begun : start_on i h k ≤ clock_of h w
    pub soon : clock_of h w < end_on i h k
    pub ways : HasWays (hierarchy i.all.hardware) (caches_of h w)
    pub dirty : OwnDirty i.all.hardware (own_of i (domain_in i h k)) (caches_of h w)
    pub clean : KernelIsClean i.all.hardware (caches_of h w)

  -- a hart in its slot, or before it
  abbrev pub IsHart : Bool → ℕ → ℕ → World → Type 0
  IsHart true h k w = IsInside h k w
  IsHart false h k w = InTime (image_on i h) h k w

  -- ---- a hart of which nothing changes, beside one whose caches keep the kernel's lines clean

  module _ (h other : ℕ) (later w : World) (same : hart_of h later ≡ hart_of h w)
      (clean : KernelIsClean i.all.hardware (caches_of other later)) where
    still_clean : KernelIsClean i.all.hardware (caches_of h w)
        → KernelIsClean i.all.hardware (caches_of h later)
    still_clean was = record {
      core =
          subst (λ (x : Hart). EachDirty (λ line. colour_of_line (hierarchy i.all.hardware) line ≢ 0)
          (hierarchy i.all.hardware).l1d x.core.l1d) (sym same) was.core;
      l2 = clean.l2;
    }

    still_ways : HasWays (hierarchy i.all.hardware) (caches_of h w)
        → HasWays (hierarchy i.all.hardware) (caches_of h later)
    still_ways was = subst (λ (x : Hart). HasWays (hierarchy i.all.hardware) (record { core = x.core; l2 = later.l2 })) (sym same) was

    still_dirty : (own : ℕ → Bool) → sharing.OwnDirty (hierarchy i.all.hardware) own (hart_of h w).core
        → sharing.OwnDirty (hierarchy i.all.hardware) own (hart_of h later).core
    still_dirty own was = subst (λ (x : Hart). sharing.OwnDirty (hierarchy i.all.hardware) own x.core) (sym same) was

    pub still : (b : Bool) (k : ℕ) → IsHart b h k w → IsHart b h k later
    still true k was = record {
      begun = subst (λ (x : Hart). start_on i h k ≤ x.clock) (sym same) was.begun;
      soon = subst (λ (x : Hart). x.clock < end_on i h k) (sym same) was.soon;
      ways = still_ways was.ways;
      dirty = still_dirty (own_colour (own_of i (domain_in i h k))) was.dirty;
      clean = still_clean was.clean;
    }
    still false k was = record {
      over = subst (λ (x : Hart). last_end (image_on i h).all.schedule k ≤ x.clock) (sym same) was.over;
      soon =
          subst (λ (x : Hart). x.clock
          < last_end (image_on i h).all.schedule k
          + largest_step i.all.hardware (ended_own (image_on i h) k)) (sym same) was.soon;
      ways = still_ways was.ways;
      dirty = still_dirty (left_colours (image_on i h) (outgoing (image_on i h).all.schedule k)) was.dirty;
      clean = still_clean was.clean;
    }

-- ---- the switch into its next slot

module _ (i : Image) (h : ℕ) (s : Harts) where
  -- after it
  abbrev pub begun_world : World
  begun_world =
      let on = image_on i h in
      let k = slots_of h s in
      noted (place_on i.all.schedule h (switch_entry on.all.schedule k))
      (cycles_on (guarded on) on h k s.world) (switch_on (guarded on) on h k s.world)

  -- where it ends before the slot's end, the hart is in the slot
  pub begins_in : clock_of h begun_world < end_on i h (slots_of h s)
      → begins None i h s ≡ proceeds h s begun_world (slots_of h s) true
  unfolding begins settles guarded
  begins_in soon =
      ap (λ (b : Bool). if b then proceeds h s begun_world (slots_of h s) true
      else proceeds h s begun_world (suc (slots_of h s)) false) (lt-ltb _ _ soon)

module _ (i : Image) (r : Runnable i) (h : ℕ) (is : h < harts_in i.all.schedule) where
  abbrev on : Image
  on = image_on i h

  abbrev pub r_on : Separated on
  r_on = separated_on i r h is

  -- ---- its switch

  abbrev pub switched : ℕ → World → World
  switched k w = switch_on (guarded on) on h k w

  pub begins_on_start : (k : ℕ) (w : World) → InTime on h k w → clock_of h (switched k w) ≡ start_on i h k
  begins_on_start k w time = switch_on_start on r_on h k w (padded_on i r h is k) time

  pub switch_inside : (k : ℕ) (w : World) → InTime on h k w → IsInside i h k (switched k w)
  switch_inside k w time =
      let begins = begins_on_start k w time in
      let long = lasts i r h is k in
      record {
        begun = omega (arith, begins);
        soon = omega (arith, begins, long);
        ways = switch_ways on h k w time.ways;
        dirty = switched_dirty on r_on h k w;
        clean = switched_clean on r_on h k w time.clean;
      }

  pub begins_is : (s : Harts) → InTime on h (slots_of h s) s.world
      → begins None i h s ≡ proceeds h s (begun_world i h s) (slots_of h s) true
  begins_is s time = begins_in i h s (switch_inside (slots_of h s) s.world time).soon

  -- who leaves is on this hart
  leaves_not : (k d : ℕ) → h ≢ hart_of_domain i d → outgoing on.all.schedule k ≢ Some d
  leaves_not zero d other q = cc q
  leaves_not (suc k) d other q = not_here i r h is k d other (sym (same_Some _ _ q))

  -- it leaves a domain of another hart
  pub switch_leaves : (k d : ℕ) (w : World) → IsDomain i d → h ≢ hart_of_domain i d → InTime on h k w
      → Apiece i.all.hardware (own_of i d) (part_of h d (switched k w)) (part_of h d w)
  switch_leaves k d w id other time =
      switch_past on r_on h k d id w (part_of h d w) time (leaves_not k d other) (λ q. not_here i r h is k d other (sym q))
      (record { dom = refl; part = part_itself i.all.hardware (own_of i d) (part_of h d w) })

  -- ---- one event in its slot

  module _ (k : ℕ) (w : World) (inside : IsInside i h k w)
      (facts : HasFacts i.all.hardware (own_of i (domain_in i h k)) (dom_of w (domain_in i h k)) w.storage) where
    abbrev pub its : Own
    its = own_of i (domain_in i h k)

    its_kernel : IsKernel i.all.hardware its
    its_kernel = kernel_of on r_on (domain_in i h k) (r_on.named k)

    abbrev pub here : Local
    here = part_of h (domain_in i h k) w

    abbrev pub stepped : Local
    stepped = step (setting i.all.hardware its false) (end_on i h k) here

    pub ran-hart : hart_of h (runs None i h k w)
        ≡ record (hart_of h w) { core = stepped.caches.core; clock = stepped.clock }
    unfolding runs with_part guarded
    ran-hart = hart-with h _ stepped.caches stepped.clock

    pub ran-caches : caches_of h (runs None i h k w) ≡ stepped.caches
    unfolding runs with_part guarded
    ran-caches = caches-with h _ stepped.caches stepped.clock

    pub ran-clock : clock_of h (runs None i h k w) ≡ stepped.clock
    unfolding runs with_part guarded
    ran-clock = clock-with h _ stepped.caches stepped.clock

    pub later : clock_of h w < stepped.clock
    later = step_later (setting i.all.hardware its false) r_on.timed (end_on i h k) here inside.soon

    is_soon : IsSoon i.all.hardware r_on.timed its false (end_on i h k) stepped
    is_soon =
        let soon = inside.soon in
        step_soon i.all.hardware r_on.timed its false (end_on i h k) (r_on.sound (domain_in i h k)).listed here inside.soon
        (record { clock = omega (arith, soon); ways = inside.ways })

    ran_dirty : OwnDirty i.all.hardware its stepped.caches
    ran_dirty = step_dirties i.all.hardware its its_kernel false (end_on i h k) here facts inside.dirty

    pub ran_clean : KernelIsClean i.all.hardware stepped.caches
    ran_clean =
        let p = i.all.hardware in
        subst (KernelIsClean p) (sym (step_caches p its false (end_on i h k) here))
        (stays_clean_law (hierarchy p) (own_colour its) (region p) false
        (step_touches p its (end_on i h k) here) here.caches its_kernel.shares
        (step_may p its its_kernel (end_on i h k) here facts) inside.clean)

    pub ran_resident : Resident i.all.hardware (caches_of h w) → Resident i.all.hardware stepped.caches
    ran_resident there = step_resident i.all.hardware its its_kernel (end_on i h k) here facts there

    -- the slot goes on
    pub still_inside : clock_of h (runs None i h k w) < end_on i h k → IsInside i h k (runs None i h k w)
    still_inside early =
        let begun = inside.begun in
        let past = later in
        let now = ran-clock in
        record {
          begun = omega (arith, begun, past, now);
          soon = early;
          ways = subst (HasWays (hierarchy i.all.hardware)) (sym ran-caches) is_soon.ways;
          dirty = subst (OwnDirty i.all.hardware its) (sym ran-caches) ran_dirty;
          clean = subst (KernelIsClean i.all.hardware) (sym ran-caches) ran_clean;
        }

    -- or it has ended
    pub now_over : end_on i h k ≤ clock_of h (runs None i h k w) → InTime on h (suc k) (runs None i h k w)
    now_over over =
        let soon = is_soon.clock in
        let now = ran-clock in
        record {
          over = over;
          soon = omega (arith, soon, now);
          ways = subst (HasWays (hierarchy i.all.hardware)) (sym ran-caches) is_soon.ways;
          dirty = subst (OwnDirty i.all.hardware its) (sym ran-caches) ran_dirty;
          clean = subst (KernelIsClean i.all.hardware) (sym ran-caches) ran_clean;
        }

    -- it leaves another domain
    pub step_leaves : (d : ℕ) → IsDomain i d → d ≢ domain_in i h k
        → (dom_of (runs None i h k w) d ≡ dom_of w d) × SamePart i.all.hardware (own_of i d) (part_of h d (runs None i h k w)) (part_of h d w)
    unfolding runs with_part with_hart guarded
    step_leaves d id other =
        let left =
        others_step i.all.hardware (own_of i d) its (end_on i h k) here
        (parties_of on r_on d (domain_in i h k) id (r_on.named k) other) facts inside.dirty in
        (at-put_other no_dom w.doms (domain_in i h k) d _ other, record { frames = left.frames; side = left.side; sets = left.sets })

    -- each box leads from whom and to whom it led
    pub step_pairs : pairs_of (runs None i h k w).storage.boxes ≡ pairs_of w.storage.boxes
    unfolding runs with_part with_hart guarded
    step_pairs =
        pairs_still its.number stepped.storage.boxes w.storage.boxes
        (step_keeps i.all.hardware its its_kernel false (end_on i h k) w.storage here (keeps_itself i.all.hardware its here facts)).others

    -- and its own domain as the step leaves it
    pub step_own : dom_of (runs None i h k w) (domain_in i h k) ≡ stepped.dom
    unfolding runs with_part with_hart guarded
    step_own = at-put_same no_dom w.doms (domain_in i h k) stepped.dom
