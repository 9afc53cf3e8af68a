-- Where an image has one hart: it comes to the end of each slot, so what is known after every order is known of the machine that
-- goes from slot to slot.
use Rattle.std.proofs.Common.{None, ◌≡◌, ◌⊎◌, ◌++◌, ◌<◌, ◌≤◌, ◌-◌, ℕ, zero, suc, Bool, true, false, eqb, ltb, List, [], ◌∷◌, inl, inr, ap, ap₂, sym, ◌∙◌, subst, subst₂, arith}
use Rattle.std.specs.Prelude.{if◌then◌else◌}
use Rattle.std.proofs.lemmas.List.Elements.{All-nil, All-push}
use Rattle.sched_table.specs.Schedule.{entry_of_slot, harts_in}
use Rattle.image_check.specs.Public.{Public}
use Rattle.image_check.specs.Own.{Own}
use Rattle.image_check.specs.Image.{Image, own_of}
use Rattle.image_check.specs.Laws.{Runnable}
use Rattle.call_table.specs.Domain.{Dom}
use Rattle.mail_slots.specs.Sides.{Arrival}
use Rattle.mail_slots.specs.Laws.{pairs_of}
use Rattle.world_view.specs.Mail.{Came, arrivals_in, turns, nth_of}
use Rattle.world_view.specs.Event.{Storage}
use Rattle.world_view.specs.Machine.{Local, World, clock_of, dom_of, part_of, whole, arrivals, guarded, alone_in, alone_mail}
use Rattle.world_view.specs.View.{view, view_in, view_mailed}
use Rattle.world_view.specs.Relations.{IsDomain, HasFacts, SameSide}
use Rattle.world_view.specs.Harts.{Harts, Progress, IsOnOneHart, IsInSlot, IsOutside, image_on, hart_of_domain, end_on, progress_of, slots_of, proceeds, runs, begins, goes_on, settles, next, harts, next_by, view_on}
use Rattle.world_view.specs.HartLaws.{AreHartsOf, IsBetween}
use Rattle.world_view.specs.Laws.{SameWorld}
use Rattle.world_view.proofs.runs.Joined.{JoinedIf, Joined}
use Rattle.world_view.proofs.harts.Events.{begun_world, begins_is}
use Rattle.world_view.proofs.harts.Meets.{Meets}
use Rattle.world_view.proofs.harts.Runs.{Running, progress-same}
use Rattle.world_view.proofs.harts.Isolation.{at_first, running, next_law, mailed}
use Rattle.world_view.proofs.harts.Clocks.{hart_between, hart_rises}
use Rattle.world_view.proofs.harts.OneHart.{one_hart}
use Rattle.world_view.proofs.harts.Always.{inside, time}
use Rattle.world_view.proofs.harts.Whole.{whole_law}

-- ---- a hart comes to the end of each slot

module _ (i : Image) (h : ℕ) (s : Harts) where
  -- in a slot it is in it still, or it has ended
  goes_if : (b : Bool) (k : ℕ) (w : World)
      → let later = (if b then proceeds h s w k true else proceeds h s w (suc k) false) in
      (progress_of h later ≡ record { slots = k; inside = true }) ⊎ (progress_of h later ≡ record { slots = suc k; inside = false })
  goes_if true k w = inl (progress-same h s w k true)
  goes_if false k w = inr (progress-same h s w (suc k) false)

  slot_goes : IsInSlot h s → let k = slots_of h s in
      (progress_of h (next i h s) ≡ record { slots = k; inside = true })
      ⊎ (progress_of h (next i h s) ≡ record { slots = suc k; inside = false })
  unfolding next_by goes_on settles guarded
  slot_goes within =
      let k = slots_of h s in
      let w = runs None i h k s.world in
      subst (λ (b : Bool). let later = (if b then goes_on None i h s else begins None i h s) in
      (progress_of h later ≡ record { slots = k; inside = true }) ⊎ (progress_of h later ≡ record { slots = suc k; inside = false }))
      (sym within)
      (goes_if (ltb (clock_of h w) (end_on i h k)) k w)

module _ (i : Image) (r : Runnable i) (h : ℕ) (is : h < harts_in i.all.schedule) where
  -- after some events it has had so many slots, and is not in the next
  pub record Reached (k : ℕ) : Type 0 where
    pub order : List ℕ
    pub below : AreHartsOf i order
    pub at : progress_of h (harts i order) ≡ record { slots = k; inside = false }

  more : (order : List ℕ) → AreHartsOf i order → AreHartsOf i (order ++ h ∷ [])
  more order below = All-push (λ (x : ℕ). x < harts_in i.all.schedule) order h below is

  -- each event in a slot takes time, so there are no more than cycles
  slot_ends : (n k : ℕ) (order : List ℕ) → AreHartsOf i order
      → progress_of h (harts i order) ≡ record { slots = k; inside = true }
      → end_on i h k - clock_of h (harts i order).world ≤ n → Reached (suc k)
  slot_ends zero k order below at few =
      let s = harts i order in
      let soon =
      subst (λ (m : ℕ). clock_of h s.world < end_on i h m) (ap (λ (x : Progress). x.slots) at)
      (inside i r h is s (running i r order below) (ap (λ (x : Progress). x.inside) at)).soon in
      absurd (omega (arith, few, soon))
  slot_ends (suc n) k order below at few =
      let s = harts i order in
      let slots = ap (λ (x : Progress). x.slots) at in
      let within = ap (λ (x : Progress). x.inside) at in
      let later = next_law i order h in
      let rises = hart_rises i h order r below is in
      let rise : clock_of h s.world < clock_of h (harts i (order ++ h ∷ [])).world =
      subst (λ (t : Harts). clock_of h s.world < clock_of h t.world) (sym later) rises in
      let soon =
      subst (λ (m : ℕ). clock_of h s.world < end_on i h m) slots (inside i r h is s (running i r order below) within).soon in
      elim (slot_goes i h s within) [
        | inl on ↦
            slot_ends n k (order ++ h ∷ []) (more order below)
            (ap (progress_of h) later ∙ on ∙ ap (λ (m : ℕ). record { slots = m; inside = true }) slots)
            (omega (arith, few, rise, soon))
        | inr over ↦
            record {
              order = order ++ h ∷ [];
              below = more order below;
              at = ap (progress_of h) later ∙ over ∙ ap (λ (m : ℕ). record { slots = suc m; inside = false }) slots;
            }
      ]

  slot_begins : (k : ℕ) (order : List ℕ) → AreHartsOf i order
      → progress_of h (harts i order) ≡ record { slots = k; inside = false }
      → progress_of h (harts i (order ++ h ∷ [])) ≡ record { slots = k; inside = true }
  unfolding next_by
  slot_begins k order below at =
      let s = harts i order in
      let outside = ap (λ (x : Progress). x.inside) at in
      ap (progress_of h) (next_law i order h)
      ∙ ap (λ (b : Bool). progress_of h (if b then goes_on None i h s else begins None i h s)) outside
      ∙ ap (progress_of h) (begins_is i r h is s (time i r h is s (running i r order below) outside))
      ∙ progress-same h s (begun_world i h s) (slots_of h s) true
      ∙ ap (λ (x : Progress). record { slots = x.slots; inside = true }) at

  pub reached : (k : ℕ) → Reached k
  reached zero = record { order = []; below = All-nil (λ (x : ℕ). x < harts_in i.all.schedule); at = at_first i r h }
  reached (suc k) =
      let before = reached k in
      let order = before.order ++ h ∷ [] in
      slot_ends (end_on i h k - clock_of h (harts i order).world) k order (more before.order before.below)
      (slot_begins k before.order before.below before.at) (omega arith)

-- ---- before each switch of the machine that goes from slot to slot

-- a domain alone then, where it hasn't left yet
abbrev pub alone_still : Public → Own → ℕ → List Arrival → ℕ → Bool → Local
alone_still p o d came k true = alone_in p o k (nth_of came (turns p.schedule d k)) (alone_mail p o d came k)
alone_still p o d came k false = alone_mail p o d came k

abbrev pub alone_before : Public → Own → ℕ → List Arrival → ℕ → Local
alone_before p o d came zero = alone_mail p o d came 0
alone_before p o d came (suc k) = alone_still p o d came k (eqb (entry_of_slot p.schedule k).domain d)

side_if : (i : Image) (d : ℕ) (came : List Arrival) (k : ℕ) (b : Bool) (x : Local) → JoinedIf i d came k b x
    → SameSide (own_of i d) x.storage.boxes (alone_still i.all (own_of i d) d came k b).storage.boxes
side_if i d came k true x j = j.part.side
side_if i d came k false x j = j.part.side

side_of : (i : Image) (d : ℕ) (came : List Arrival) (k : ℕ) (x : Local) → Joined i d came k x
    → SameSide (own_of i d) x.storage.boxes (alone_before i.all (own_of i d) d came k).storage.boxes
side_of i d came zero x j = j.part.side
side_of i d came (suc k) x j = side_if i d came k (eqb (entry_of_slot i.all.schedule k).domain d) x j

module _ (i : Image) (r : Runnable i) (one : IsOnOneHart i) where
  -- a domain, beside it alone
  pub record IsBeside (d k : ℕ) (w : World) : Type 0 where
    pub facts : HasFacts i.all.hardware (own_of i d) (dom_of w d) w.storage
    pub side : SameSide (own_of i d) w.storage.boxes
        (alone_before i.all (own_of i d) d (arrivals d w) k).storage.boxes
    pub seen : view_in i d w ≡ view_mailed i.all (own_of i d) d (arrivals d w) k

  pub record Stands (k : ℕ) (w : World) : Type 0 where
    pub pairs : pairs_of w.storage.boxes ≡ i.all.mail
    pub each : (d : ℕ) → IsDomain i d → IsBeside d k w

  some_hart : 0 < harts_in i.all.schedule
  some_hart = omega (arith, one)

  on_is : image_on i 0 ≡ i
  on_is = ap (λ (p : Public). record i { all = p }) (one_hart i one).entries

  module _ (order : List ℕ) (below : AreHartsOf i order) (k : ℕ)
      (at : progress_of 0 (harts i order) ≡ record { slots = k; inside = false }) where
    abbrev s : Harts
    s = harts i order

    was : Running i r s
    was = running i r order below

    outside : IsOutside 0 s
    outside = ap (λ (x : Progress). x.inside) at

    joined_here : (d : ℕ) → IsDomain i d → Joined i d (arrivals d s.world) k (part_of 0 d s.world)
    joined_here d id =
        let met =
        subst (λ (h : ℕ). Meets i h d (arrivals d s.world) (progress_of h s).inside (slots_of h s) (part_of h d s.world))
        ((one_hart i one).home d) (was.meets d id) in
        let here =
        subst (λ (x : Progress). Meets i 0 d (arrivals d s.world) x.inside x.slots (part_of 0 d s.world)) at met in
        subst (λ (x : Image). Joined x d (arrivals d s.world) k (part_of 0 d s.world)) on_is here.at

    seen_here : (d : ℕ) → IsDomain i d
        → view_in i d s.world ≡ view_mailed i.all (own_of i d) d (arrivals d s.world) k
    unfolding view_on
    seen_here d id =
        let home = (one_hart i one).home d in
        let early = hart_between i 0 order r below some_hart outside in
        mailed i r d s was id (subst (λ (h : ℕ). IsBetween i h s) (sym home) early)
        ∙ (one_hart i one).mailed d (arrivals d s.world) (slots_of (hart_of_domain i d) s)
        ∙ ap (view_mailed i.all (own_of i d) d (arrivals d s.world))
        (ap (λ (h : ℕ). slots_of h s) home ∙ ap (λ (x : Progress). x.slots) at)

    stands_here : Stands k s.world
    stands_here = record {
      pairs = was.pairs;
      each = λ d id. record {
        facts = (was.facts d id).facts;
        side = side_of i d (arrivals d s.world) k (part_of 0 d s.world) (joined_here d id);
        seen = seen_here d id;
      };
    }

  -- a world that is the same
  same_beside : (d k : ℕ) (w v : World) → SameWorld w v → IsBeside d k v → IsBeside d k w
  same_beside d k w v h beside = record {
    facts =
        subst₂ (λ (x : Dom) (t : Storage). HasFacts i.all.hardware (own_of i d) x t) (sym (h.doms d)) (sym h.storage) beside.facts;
    side =
        subst₂ (λ (t : Storage) (came : List Came). SameSide (own_of i d) t.boxes
        (alone_before i.all (own_of i d) d (arrivals_in d came) k).storage.boxes) (sym h.storage) (sym h.came) beside.side;
    seen =
        ap₂ (λ (x : Dom) (t : Storage). view i.all.hardware (own_of i d) x t) (h.doms d) h.storage ∙ beside.seen
        ∙ ap (λ (came : List Came). view_mailed i.all (own_of i d) d (arrivals_in d came) k) (sym h.came);
  }

  pub stands : (k : ℕ) → Stands k (whole i k)
  stands k =
      let there = reached i r 0 some_hart k in
      let s = harts i there.order in
      let its = stands_here there.order there.below k there.at in
      let same : SameWorld (whole i k) s.world =
      subst (λ (n : ℕ). SameWorld (whole i n) s.world) (ap (λ (x : Progress). x.slots) there.at)
      (whole_law None i there.order r one there.below (ap (λ (x : Progress). x.inside) there.at)) in
      record {
        pairs = ap (λ (t : Storage). pairs_of t.boxes) same.storage ∙ its.pairs;
        each = λ d id. same_beside d k (whole i k) s.world same (its.each d id);
      }
