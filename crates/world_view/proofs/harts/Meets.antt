-- Each domain on its hart beside the domain alone, from event to event.
use Rattle.std.specs.Prelude.{if◌then◌else◌}
use Rattle.std.proofs.lemmas.List.{length_push}
use Rattle.sched_table.specs.Schedule.{outgoing}
use Rattle.mail_slots.specs.Sides.{Arrival, arrival}
use Rattle.world_view.specs.Mail.{left_boxes, came_to, turns, nth_of}
use Rattle.world_view.proofs.runs.Arrivals.{one_more, none_more, alone_early, next_arrival}
use Rattle.std.proofs.Common.{List, [], ◌∷◌, ◌++◌, length, ap₂, None, ◌≡◌, ◌≢◌, ℕ, Bool, true, false, eqb, zero, suc, ◌<◌, ◌≤◌, ap, sym, ◌∙◌, refl, subst, arith, true≢false, eqb-true, eq-eqb}
use Rattle.sched_table.specs.Schedule.{harts_in}
use Rattle.image_check.specs.Own.{Own}
use Rattle.image_check.specs.Image.{Image, own_of}
use Rattle.image_check.specs.Laws.{Runnable}
use Rattle.hardware_check.specs.Hardware.{Hardware}
use Rattle.mem_system.specs.Cost.{Caches}
use Rattle.world_view.specs.Machine.{guarded, Local, World, caches_of, clock_of, dom_of, part_of, with_part, with_hart, setting, step, stretch, switch_on, arrivals, alone_mail, alone_in, alone_enter}
use Rattle.world_view.specs.Relations.{IsDomain, IsKernel, HasFacts, OwnDirty, Resident, Beside, Within, Apiece, InTime}
use Rattle.world_view.specs.Harts.{image_on, domain_in, end_on, runs}
use Rattle.world_view.proofs.opening.Separate.{Separated}
use Rattle.world_view.proofs.opening.OpeningFacts.{kernel_of}
use Rattle.world_view.proofs.steps.Fuel.{stretch_step, stretch_done}
use Rattle.world_view.proofs.steps.StepLaws.{step_near}
use Rattle.world_view.proofs.runs.PartyLaws.{part_trans}
use Rattle.world_view.proofs.runs.Joined.{JoinedIf, Joined, another_enters, it_enters}
use Rattle.world_view.proofs.harts.OnHart.{separated_on}
use Rattle.world_view.proofs.harts.Events.{IsInside, switched, ran-caches, ran-clock, step_leaves, step_own}

-- a state that is beside one that is beside a third
pub within_trans : (p : Hardware) (o : Own) (x y a : Local) → Within p o x y → Within p o y a → Within p o x a
within_trans p o x y a h k = record {
  dom = h.dom ∙ k.dom;
  part = part_trans p o x y a h.part k.part;
  core = h.core ∙ k.core;
  clock = h.clock ∙ k.clock;
}

pub apiece_trans : (p : Hardware) (o : Own) (x y a : Local) → Apiece p o x y → Apiece p o y a → Apiece p o x a
apiece_trans p o x y a h k = record { dom = h.dom ∙ k.dom; part = part_trans p o x y a h.part k.part }

-- one step of its own
step_within : (p : Hardware) (o : Own) (end : ℕ) (s a : Local) → IsKernel p o → HasFacts p o s.dom s.storage
    → OwnDirty p o s.caches
    → Resident p s.caches → Within p o s a → Within p o (step (setting p o false) end s) (step (setting p o true) end a)
step_within p o end s a kernel facts dirty resident h =
    let b : Beside p o s s a = record {
      kernel = kernel;
      dom = h.dom;
      facts = facts;
      storage = record { same = h.part.frames; outside = λ f x. refl; side = h.part.side; others = refl };
      caches = record {
        core = h.core;
        dirty = dirty;
        l2 = record { same = h.part.sets; resident = resident; outside = λ m out kernels. refl };
      };
      clock = h.clock;
    } in
    let n = step_near p o end s s a b in
    record {
      dom = n.dom;
      part = record { frames = n.storage.same; side = n.storage.side; sets = n.caches.l2.same };
      core = n.caches.core;
      clock = n.clock;
    }

module _ (i : Image) (h d : ℕ) where
  abbrev on : Image
  on = image_on i h

  abbrev p : Hardware
  p = i.all.hardware

  abbrev o : Own
  o = own_of i d

  -- the domain alone before slot k of its hart, where this came to it
  abbrev pub apart : List Arrival → ℕ → Local
  apart came k = alone_mail on.all o d came k

  -- what its slot k begins with, if the slot is its own
  abbrev words_at : List Arrival → ℕ → Arrival
  words_at came k = nth_of came (turns on.all.schedule d k)

  -- in its slot k: what is left of the slot leads where that of the domain alone leads
  pub record InOwn (came : List Arrival) (k : ℕ) (x : Local) : Type 0 where
    pub a : Local
    pub near : Within p o x a
    pub ends : stretch (setting p o true) (end_on i h k) a ≡ alone_in on.all o k (words_at came k) (apart came k)

  -- inside slot k of its hart, which is its own or another's
  abbrev pub MeetsIn : List Arrival → Bool → ℕ → Local → Type 0
  MeetsIn came true k x = InOwn came k x
  MeetsIn came false k x = Apiece p o x (apart came k)

  -- inside slot k of its hart, or before it
  abbrev pub MeetsAt : List Arrival → Bool → ℕ → Local → Type 0
  MeetsAt came true k x = MeetsIn came (eqb (domain_in i h k) d) k x
  MeetsAt came false k x = Joined on d came k x

  -- how many of its slots have begun
  abbrev pub begun_at : Bool → ℕ → ℕ
  begun_at true k = turns on.all.schedule d (suc k)
  begun_at false k = turns on.all.schedule d k

  -- as much came to it as slots of it have begun
  pub record Meets (came : List Arrival) (b : Bool) (k : ℕ) (x : Local) : Type 0 where
    pub at : MeetsAt came b k x
    pub count : length came ≡ begun_at b k

  -- ---- where nothing of it changes

  still_in : (came : List Arrival) (b : Bool) (k : ℕ) (x y : Local) → Within p o y x → MeetsIn came b k x → MeetsIn came b k y
  still_in came true k x y same m = record { a = m.a; near = within_trans p o y x m.a same m.near; ends = m.ends }
  still_in came false k x y same m = apiece_trans p o y x _ (record { dom = same.dom; part = same.part }) m

  still_if : (came : List Arrival) (b : Bool) (k : ℕ) (x y : Local) → Within p o y x → JoinedIf on d came k b x
      → JoinedIf on d came k b y
  still_if came true k x y same j = within_trans p o y x _ same j
  still_if came false k x y same j = apiece_trans p o y x _ (record { dom = same.dom; part = same.part }) j

  still_at : (came : List Arrival) (b : Bool) (k : ℕ) (x y : Local) → Within p o y x → MeetsAt came b k x
      → MeetsAt came b k y
  still_at came true k x y same m = still_in came (eqb (domain_in i h k) d) k x y same m
  still_at came false zero x y same m = apiece_trans p o y x _ (record { dom = same.dom; part = same.part }) m
  still_at came false (suc k) x y same m = still_if came (eqb (domain_in i h k) d) k x y same m

  pub still_meets : (came : List Arrival) (b : Bool) (k : ℕ) (x y : Local) → Within p o y x → Meets came b k x
      → Meets came b k y
  still_meets came b k x y same m = record { at = still_at came b k x y same m.at; count = m.count }

  -- ---- events of its hart

  module _ (r : Runnable i) (is : h < harts_in i.all.schedule) (id : IsDomain i d) where
    abbrev r_on : Separated on
    r_on = separated_on i r h is

    -- what comes in with a switch
    abbrev comes : ℕ → World → Arrival
    comes k w = arrival d (left_boxes (outgoing on.all.schedule k) w.storage.boxes)

    -- in its own slot what came before is as it was
    entered_is : (came : List Arrival) (words : Arrival) (k : ℕ) → length came ≡ turns on.all.schedule d k
        → alone_enter on.all o k words (apart came k)
        ≡ alone_enter on.all o k (words_at (came ++ words ∷ []) k) (apart (came ++ words ∷ []) k)
    entered_is came words k count =
        ap₂ (λ (ws : Arrival) (s : Local). alone_enter on.all o k ws s)
        (sym (next_arrival on.all o d came words k count))
        (sym (alone_early on.all o d came (words ∷ []) k (omega (arith, count))))

    turns_if : (b : Bool) (k : ℕ) → eqb (domain_in i h k) d ≡ b
        → turns on.all.schedule d (suc k) ≡ (if b then suc (turns on.all.schedule d k) else turns on.all.schedule d k)
    unfolding turns
    turns_if b k t =
        ap (λ (c : Bool). if c then suc (turns on.all.schedule d k) else turns on.all.schedule d k) t

    switch_if : (came : List Arrival) (b : Bool) (k : ℕ) (w : World) → eqb (domain_in i h k) d ≡ b → InTime on h k w
        → length came ≡ turns on.all.schedule d k
        → Joined on d came k (part_of h d w)
        → let came' = arrivals d (switched i r h is k w) in (came ≡ arrivals d w)
        → MeetsIn came' b k (part_of h d (switched i r h is k w)) × (length came' ≡ turns on.all.schedule d (suc k))
    unfolding alone_in switch_on with_hart
    switch_if came true k w t time count j was =
        let here : domain_in i h k ≡ d = eqb-true (domain_in i h k) d t in
        let more : arrivals d (switched i r h is k w) ≡ came ++ comes k w ∷ [] =
        one_more d w.came (came_to (outgoing on.all.schedule k) (domain_in i h k) w.storage.boxes) here
        ∙ ap₂ (λ (xs : List Arrival) (e : ℕ). xs ++ arrival e (left_boxes (outgoing on.all.schedule k) w.storage.boxes) ∷ []) (sym was) here in
        subst (λ (xs : List Arrival). MeetsIn xs true k (part_of h d (switched i r h is k w)) × (length xs ≡ turns on.all.schedule d (suc k))) (sym more) (
          record {
            a = alone_enter on.all o k (comes k w) (apart came k);
            near = it_enters on r_on d id came h w k here time j;
            ends = ap (stretch (setting p o true) (end_on i h k)) (entered_is came (comes k w) k count);
          },
          (length_push came (comes k w) ∙ (omega (arith, count)) ∙ sym (turns_if true k t)),
        )
    switch_if came false k w t time count j was =
        let other : domain_in i h k ≢ d = λ q. true≢false (sym (eq-eqb (domain_in i h k) d q) ∙ t) in
        let same : arrivals d (switched i r h is k w) ≡ came =
        none_more d w.came (came_to (outgoing on.all.schedule k) (domain_in i h k) w.storage.boxes) other ∙ sym was in
        subst (λ (xs : List Arrival). MeetsIn xs false k (part_of h d (switched i r h is k w)) × (length xs ≡ turns on.all.schedule d (suc k))) (sym same)
        (another_enters on r_on d id came h w k other time j, count ∙ sym (turns_if false k t))

    -- a switch
    pub switch_meets : (k : ℕ) (w : World) → InTime on h k w → Meets (arrivals d w) false k (part_of h d w)
        → Meets (arrivals d (switched i r h is k w)) true k (part_of h d (switched i r h is k w))
    switch_meets k w time m =
        let now = switch_if (arrivals d w) (eqb (domain_in i h k) d) k w refl time m.count m.at refl in
        record { at = now.0; count = now.1 }

    module _ (k : ℕ) (w : World) (inside : IsInside i h k w)
        (facts : HasFacts p (own_of i (domain_in i h k)) (dom_of w (domain_in i h k)) w.storage)
        (there : Resident p (caches_of h w)) where
      abbrev w' : World
      w' = runs None i h k w

      -- where the step is its own, it is as the step leaves it
      moved_here : domain_in i h k ≡ d
          → Within p o (part_of h d w') (step (setting p o false) (end_on i h k) (part_of h d w))
      unfolding runs with_part with_hart guarded
      moved_here same =
          subst (λ (e : ℕ). Within p (own_of i e) (part_of h e w')
          (step (setting p (own_of i e) false) (end_on i h k) (part_of h e w))) same
          (record {
            dom = step_own i r h is k w inside facts;
            part = record { frames = λ f own. refl; side = refl; sets = λ s own. refl };
            core = ap (λ (c : Caches). c.core) (ran-caches i r h is k w inside facts);
            clock = ran-clock i r h is k w inside facts;
          })

      pub moved : domain_in i h k ≡ d → (a : Local) → Within p o (part_of h d w) a
          → Within p o (part_of h d w') (step (setting p o true) (end_on i h k) a)
      moved same a near =
          within_trans p o (part_of h d w') _ _ (moved_here same)
          (step_within p o (end_on i h k) (part_of h d w) a (kernel_of on r_on d id)
          (subst (λ (e : ℕ). HasFacts p (own_of i e) (dom_of w e) w.storage) same facts)
          (subst (λ (e : ℕ). OwnDirty p (own_of i e) (caches_of h w)) same inside.dirty) there near)

      leads : (came : List Arrival) (m : InOwn came k (part_of h d w))
          → stretch (setting p o true) (end_on i h k) (step (setting p o true) (end_on i h k) m.a)
          ≡ alone_in on.all o k (words_at came k) (apart came k)
      leads came m =
          let at = m.near.clock in
          let soon = inside.soon in
          sym (stretch_step (setting p o true) r_on.timed (end_on i h k) m.a (omega (arith, at, soon))) ∙ m.ends

      -- another's leaves it
      others_moved : domain_in i h k ≢ d → Apiece p o (part_of h d w') (part_of h d w)
      others_moved other =
          let left = step_leaves i r h is k w inside facts d id (λ q. other (sym q)) in record { dom = left.0; part = left.1 }

      differs : eqb (domain_in i h k) d ≡ false → domain_in i h k ≢ d
      differs t q = true≢false (sym (eq-eqb (domain_in i h k) d q) ∙ t)

      on_if : (came : List Arrival) (b : Bool) → eqb (domain_in i h k) d ≡ b → MeetsIn came b k (part_of h d w)
          → MeetsIn came b k (part_of h d w')
      on_if came true t m = record { a = _; near = moved (eqb-true (domain_in i h k) d t) m.a m.near; ends = leads came m }
      on_if came false t m = apiece_trans p o (part_of h d w') (part_of h d w) _ (others_moved (differs t)) m

      over_if : (came : List Arrival) (b : Bool) → eqb (domain_in i h k) d ≡ b → end_on i h k ≤ clock_of h w'
          → MeetsIn came b k (part_of h d w) → JoinedIf on d came k b (part_of h d w')
      over_if came true t over m =
          let same = eqb-true (domain_in i h k) d t in
          let near = moved same m.a m.near in
          let at = near.clock in
          subst (Within p o (part_of h d w'))
          (sym (stretch_done (setting p o true) r_on.timed (end_on i h k) _ (omega (arith, at, over)))
          ∙ leads came m) near
      over_if came false t over m = apiece_trans p o (part_of h d w') (part_of h d w) _ (others_moved (differs t)) m

      -- an event moves no box
      came_still : arrivals d w' ≡ arrivals d w
      unfolding runs with_part with_hart guarded
      came_still = refl

      -- an event after which the slot goes on
      pub on_meets : Meets (arrivals d w) true k (part_of h d w) → Meets (arrivals d w') true k (part_of h d w')
      on_meets m =
          subst (λ (xs : List Arrival). Meets xs true k (part_of h d w')) (sym came_still)
          (record { at = on_if (arrivals d w) (eqb (domain_in i h k) d) refl m.at; count = m.count })

      -- one that ends the slot
      pub over_meets : end_on i h k ≤ clock_of h w' → Meets (arrivals d w) true k (part_of h d w)
          → Meets (arrivals d w') false (suc k) (part_of h d w')
      over_meets over m =
          subst (λ (xs : List Arrival). Meets xs false (suc k) (part_of h d w')) (sym came_still)
          (record { at = over_if (arrivals d w) (eqb (domain_in i h k) d) refl over m.at; count = m.count })
