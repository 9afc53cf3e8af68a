-- An event of a domain among others is seen as it is alone: at the same clock, as long, and counting the same.
use Rattle.std.proofs.Common.{◌≡◌, ℕ, ◌-◌, false, true, List, ap, ap₂, ◌∙◌, refl, subst₂}
use Rattle.mem_system.specs.Cost.{Touch, Caches}
use Rattle.mem_system.specs.Tally.{Tally, tally_all}
use Rattle.mem_system.proofs.TallyBeside.{tally_beside_law}
use Rattle.hardware_check.specs.Hardware.{Hardware}
use Rattle.image_check.specs.Own.{Own}
use Rattle.call_table.specs.Domain.{Dom}
use Rattle.world_view.specs.Cost.{hierarchy, region, own_colour}
use Rattle.world_view.specs.Kernel.{estate, layout}
use Rattle.world_view.specs.Event.{Storage, instruction, delivery_touches, Event, event}
use Rattle.world_view.specs.Event.Event.{Jump, Deliver, Run}
use Rattle.world_view.specs.Machine.{Local, setting}
use Rattle.world_view.specs.Relations.{IsKernel, HasFacts, OwnDirty, Resident, BesideStorage, BesideCaches, Beside, Within}
use Rattle.world_view.proofs.actions.ActLaws.{instruction_near}
use Rattle.world_view.proofs.touches.KernelTouches.{delivery_may}
use Rattle.world_view.proofs.steps.StepLaws.{step_near}
use Rattle.domain_events.specs.Events.{Happening, Observed, happening, counted, observed}

-- equal in each part
same_observed : (x y : Observed) → x.at ≡ y.at → x.what ≡ y.what → x.cycles ≡ y.cycles → x.counts ≡ y.counts → x ≡ y
same_observed x y at what cycles counts =
    ap₂ (λ (t : ℕ) (e : Happening). record x { at = t; what = e }) at what
    ∙ ap₂ (λ (n : ℕ) (c : Tally). record y { cycles = n; counts = c }) cycles counts

module _ (p : Hardware) (o : Own) (end : ℕ) where
  -- the same event, of the same domain at the same clock
  counts_near : (first : Local) (d : Dom) (t : ℕ) (s a : Storage) (c k : Caches) (e : Event) → IsKernel p o
      → HasFacts p o d s → BesideStorage p o first.storage s a → BesideCaches p o first.caches c k
      → counted (setting p o false) (record { dom = d; storage = s; caches = c; clock = t }) e
      ≡ counted (setting p o true) (record { dom = d; storage = a; caches = k; clock = t }) e
  unfolding counted
  counts_near first d t s a c k (Jump u) kernel facts storage caches = refl
  counts_near first d t s a c k (Deliver line) kernel facts storage caches =
      tally_beside_law (hierarchy p) (own_colour o) (region p) first.caches.l2 (delivery_touches p (layout p o)) c k
      kernel.shares (delivery_may p o kernel) caches
  counts_near first d t s a c k Run kernel facts storage caches =
      let n = (instruction_near p o kernel d first.storage t).runs s a storage facts in
      tally_beside_law (hierarchy p) (own_colour o) (region p) first.caches.l2
      (instruction p (estate p o) (layout p o) t d s).notes c k kernel.shares n.may caches
      ∙ ap (λ (ts : List Touch). tally_all (hierarchy p) true k ts) n.notes

  observed_near : (first s a : Local) → Beside p o first s a
      → observed (setting p o false) end s ≡ observed (setting p o true) end a
  unfolding observed
  observed_near first s a b =
      same_observed (observed (setting p o false) end s) (observed (setting p o true) end a) b.clock
      (ap₂ (λ (d : Dom) (t : ℕ). happening d (event o t end d)) b.dom b.clock)
      (ap₂ (λ (later now : ℕ). later - now) (step_near p o end first s a b).clock b.clock)
      (subst₂ (λ (d : Dom) (t : ℕ). counted (setting p o false) s (event o s.clock end s.dom)
      ≡ counted (setting p o true) (record { dom = d; storage = a.storage; caches = a.caches; clock = t }) (event o t end d)) b.dom b.clock
      (counts_near first s.dom s.clock s.storage a.storage s.caches a.caches (event o s.clock end s.dom) b.kernel b.facts b.storage b.caches))

  -- in a slot of the domain
  pub observed_within : (s a : Local) → IsKernel p o → HasFacts p o s.dom s.storage → OwnDirty p o s.caches
      → Resident p s.caches → Within p o s a
      → observed (setting p o false) end s ≡ observed (setting p o true) end a
  observed_within s a kernel facts dirty resident h = observed_near s s a (record {
    kernel = kernel;
    dom = h.dom;
    facts = facts;
    storage = record { same = h.part.frames; outside = λ f x. refl; side = h.part.side; others = refl };
    caches = record {
      core = h.core;
      dirty = dirty;
      l2 = record { same = h.part.sets; resident = resident; outside = λ m out kernels. refl };
    };
    clock = h.clock;
  })
