-- An event of a slot, from two worlds that are the same for its hart.
use Rattle.std.proofs.Common.{None, ◌≡◌, ◌≢◌, ◌⊎◌, inl, inr, ℕ, ◌<◌, true, false, ap, sym, ◌∙◌, refl, subst}
use Rattle.std.proofs.lemmas.Bool.{cases_eq}
use Rattle.mem_system.specs.Cost.{Caches}
use Rattle.mem_system.specs.Sharing.{SameKernelPlaces}
use Rattle.mem_system.proofs.KernelPlaces.{places_stay_law}
use Rattle.sched_table.specs.Schedule.{harts_in}
use Rattle.hardware_check.specs.Hardware.{Hardware}
use Rattle.image_check.specs.Image.{Image, own_of}
use Rattle.image_check.specs.Laws.{Runnable}
use Rattle.world_view.specs.Machine.{guarded, Hart, World, hart_of, caches_of, dom_of, part_of, with_part, with_hart, setting, step}
use Rattle.world_view.specs.Relations.{IsDomain, HasFacts, Resident, Beside, Within, Apiece}
use Rattle.world_view.specs.Cost.{hierarchy, region, own_colour}
use Rattle.world_view.specs.EventLaws.{step_touches}
use Rattle.world_view.specs.Harts.{image_on, domain_in, end_on, hart_of_domain, runs}
use Rattle.world_view.proofs.opening.OpeningFacts.{kernel_of}
use Rattle.world_view.proofs.steps.StepLaws.{step_near, step_may, step_caches}
use Rattle.world_view.proofs.harts.OnHart.{separated_on, hart_is}
use Rattle.world_view.proofs.harts.Events.{IsInside, ran-hart, step_leaves}
use Rattle.world_view.proofs.harts.Meets.{within_trans, apiece_trans, moved}
use Rattle.hart_machine.specs.HartMachine.{SameParts, waiting, SameNobodys}
use Rattle.hart_machine.proofs.Boxes.{waiting_still}
use Rattle.hart_machine.proofs.Equal.{within_itself, within_back, apiece_back, apiece_of, same_hart_by, near}

module _ (i : Image) (r : Runnable i) (h : ℕ) (is : h < harts_in i.all.schedule) (k : ℕ) where
  abbrev p : Hardware
  p = i.all.hardware

  -- whose slot it is
  abbrev its : ℕ
  its = domain_in i h k

  named : IsDomain i its
  named = (separated_on i r h is).named k

  -- a world in which the hart is in its slot k
  pub record IsIn (w : World) : Type 0 where
    pub inside : IsInside i h k w
    pub facts : HasFacts p (own_of i its) (dom_of w its) w.storage
    pub there : Resident p (caches_of h w)

  -- the places of the kernel's sets stay: what the event touches of colour 0 are shared lines, and these are there
  ran_places : (u : World) → IsIn u → SameKernelPlaces (hierarchy p) (runs None i h k u).l2 u.l2
  unfolding runs with_part with_hart guarded
  ran_places u c =
      let o = own_of i its in
      let s = part_of h its u in
      let kernel = kernel_of (image_on i h) (separated_on i r h is) its named in
      subst (λ (x : Caches). SameKernelPlaces (hierarchy p) x.l2 u.l2) (sym (step_caches p o false (end_on i h k) s))
      (places_stay_law (hierarchy p) (own_colour o) (region p) (step_touches p o (end_on i h k) s) s.caches kernel.shares
      (step_may p o kernel (end_on i h k) s c.facts) c.inside.dirty c.there)

  -- beside itself
  beside_itself : (u : World) → IsIn u → let s = part_of h its u in Beside p (own_of i its) s s s
  beside_itself u c = record {
    kernel = kernel_of (image_on i h) (separated_on i r h is) its named;
    dom = refl;
    facts = c.facts;
    storage = record { same = λ f own. refl; outside = λ f out. refl; side = refl; others = refl };
    caches = record {
      core = refl;
      dirty = c.inside.dirty;
      l2 = record { same = λ x own. refl; resident = c.there; outside = λ x out kernels. refl };
    };
    clock = refl;
  }

  -- and so does what is nobody's
  pub runs_leaves : (u : World) → IsIn u → SameNobodys i (runs None i h k u) u
  unfolding runs with_part with_hart guarded
  runs_leaves u c =
      let s = part_of h its u in
      let stepped = step_near p (own_of i its) (end_on i h k) s s s (beside_itself u c) in
      record {
        frames = λ f none. stepped.storage.outside f (none its named);
        sets = λ x none. stepped.caches.l2.outside x (none.none its named) none.not_kernel;
        kernels = ran_places u c;
      }

  -- and what waits in boxes
  pub runs_waiting : (u : World) → IsIn u → waiting (runs None i h k u).storage.boxes ≡ waiting u.storage.boxes
  unfolding runs with_part with_hart guarded
  runs_waiting u c =
      let s = part_of h its u in
      waiting_still (own_of i its).number _ u.storage.boxes
      (step_near p (own_of i its) (end_on i h k) s s s (beside_itself u c)).storage.others

  module _ (w v : World) (a : IsIn w) (b : IsIn v) (same : SameParts i h w v) where
    abbrev w' : World
    w' = runs None i h k w

    abbrev v' : World
    v' = runs None i h k v

    -- of the domain whose slot it is: each is as the step of the same state where the kernel's lines are pinned
    own_same : Within p (own_of i its) (part_of h its w') (part_of h its v')
    own_same =
        let alone = step (setting p (own_of i its) true) (end_on i h k) (part_of h its v) in
        within_trans p (own_of i its) (part_of h its w') alone (part_of h its v')
        (moved i h its r is named k w a.inside a.facts a.there refl (part_of h its v) (near i h w v same its named (hart_is i r h is k)))
        (within_back p (own_of i its) (part_of h its v') alone
        (moved i h its r is named k v b.inside b.facts b.there refl (part_of h its v)
        (within_itself p (own_of i its) (part_of h its v))))

    others_left : (u : World) → IsIn u → (d : ℕ) → IsDomain i d → d ≢ its
        → Apiece p (own_of i d) (part_of h d (runs None i h k u)) (part_of h d u)
    others_left u c d id other =
        let left = step_leaves i r h is k u c.inside c.facts d id other in record { dom = left.0; part = left.1 }

    domain_if : (d : ℕ) → IsDomain i d → hart_of_domain i d ≡ h → (d ≡ its) ⊎ (d ≢ its)
        → Apiece p (own_of i d) (part_of h d w') (part_of h d v')
    domain_if d id home (inl own) =
        subst (λ (e : ℕ). Apiece p (own_of i e) (part_of h e w') (part_of h e v')) (sym own)
        (apiece_of p (own_of i its) (part_of h its w') (part_of h its v') own_same)
    domain_if d id home (inr other) =
        apiece_trans p (own_of i d) (part_of h d w') (part_of h d w) (part_of h d v') (others_left w a d id other)
        (apiece_trans p (own_of i d) (part_of h d w) (part_of h d v) (part_of h d v') (same.domains d id home)
        (apiece_back p (own_of i d) (part_of h d v') (part_of h d v) (others_left v b d id other)))

    ended_left : (u : World) → IsIn u → (hart_of h (runs None i h k u)).ended ≡ (hart_of h u).ended
    ended_left u c = ap (λ (x : Hart). x.ended) (ran-hart i r h is k u c.inside c.facts)

    pub runs_same : SameParts i h w' v'
    runs_same = record {
      hart = same_hart_by (hart_of h w') (hart_of h v') own_same.core own_same.clock
          (ended_left w a ∙ ap (λ (x : Hart). x.ended) same.hart ∙ sym (ended_left v b));
      domains = λ d id home. domain_if d id home (cases_eq d its);
    }
