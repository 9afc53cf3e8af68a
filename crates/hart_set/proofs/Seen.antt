-- What is seen of a domain, and what switches took, of the code's harts.
use Rattle.std.proofs.Common.{◌≡◌, ◌∙◌, ℕ, ◌^◌, ◌<◌, ◌≤◌, List, Option, Some, None, length, inl, inr, sym, ap, subst, subst₂, arith}
use Rattle.std.specs.Prelude.{slice_get}
use Rattle.std.proofs.lemmas.Option.{slice_get_cases}
use Rattle.guards.specs.declared.Guard.{Guard}
use Rattle.image_check.specs.Image.{Image, own_of}
use Rattle.sched_table.specs.Schedule.{entry_in, harts_in}
use Rattle.sched_table.proofs.Harts.{hart_there_law}
use Rattle.kernel_call.specs.declared.domain.Domain.{Domain}
use Rattle.domain_open.proofs.Seen.{view_is}
use Rattle.world_view.specs.declared.used.Used.{Used}
use Rattle.world_view.specs.Seen.{seen_of}
use Rattle.world_view.specs.Machine.{dom_of, arrivals}
use Rattle.world_view.specs.Relations.{IsDomain, HasNoMail}
use Rattle.world_view.specs.Harts.{Harts, harts, harts_by, start_on, hart_of_domain, view_on, view_mailed_on, view_alone_on}
use Rattle.world_view.specs.HartLaws.{AreHartsOf, IsBetween}
use Rattle.world_view.proofs.harts.Isolation.{running, hart_mail, hart_isolation, hart_largest}
use Rattle.world_view.proofs.time.ClockLaws.{clock_soon as clocks_soon}
use Rattle.hart_orders.specs.declared.hart.Hart.{Hart as CodeHart}
use Rattle.hart_set.specs.declared.set.State.{State}
use Rattle.hart_set.specs.Standing.{StandsFor, AtHart}
use Rattle.hart_set.specs.Reached.{IsReached}

-- a hart of the code
record HartThere (t : State) (h : ℕ) : Type 0 where
  hart : CodeHart
  got : slice_get t.harts.items h ≡ Some hart

hart_there : (t : State) (h : ℕ) → h < length t.harts.items → HartThere t h
hart_there t h within = elim (slice_get_cases t.harts.items h).1 [
  | inl is ↦ record { hart = is.0; got = is.2 }
  | inr past ↦ let none = past.0 in absurd (omega (arith, none, within))
]

module _ (i : Image) (t : State) (c : IsReached i t) where
  -- with all guards on its clock is far below what 64 bits hold
  pub clock_soon : (h : ℕ) (x : CodeHart) → h < harts_in i.all.schedule → slice_get t.harts.items h ≡ Some x → t.off ≡ None
      → x.clock < 2 ^ 61
  clock_soon h x below got all =
      let s = harts i c.order in
      let stands = subst (λ (o : Option Guard). StandsFor i (harts_by o i c.order) t) all c.stands in
      let is = stands.each_hart h x got in
      let most = c.in_bounds.few_slots h x got in
      let slots = is.slots in
      let fits = clocks_soon i c.accepted h below s ((running i c.accepted c.order c.of_harts).hart h below) (omega (arith, most, slots)) in
      let same = is.machine.time in
      omega (arith, fits, same)

  -- that of a domain
  home_there : (d : ℕ) → HartThere t (hart_of_domain i d)
  home_there d =
      let below = hart_there_law i.all.schedule d c.accepted.schedule.some in
      hart_there t (hart_of_domain i d) (omega (arith, below, c.stands.all_harts))

  pub frames_are : t.memory.frames ≡ i.all.hardware.frames
  frames_are = let there = home_there 0 in (c.stands.each_hart (hart_of_domain i 0) there.hart there.got).machine.frames

  module _ (d : ℕ) (x : Domain) (got : slice_get t.domains.items d ≡ Some x) where
    pub seen : (s : Harts) → StandsFor i s t → seen_of x t.memory ≡ view_on i d s
    unfolding view_on
    seen s stands =
        let there = home_there d in
        let holds = (stands.each_hart (hart_of_domain i d) there.hart there.got).machine.holds in
        let is = stands.each_domain d x got in
        let w = s.world in
        view_is i.all.hardware (own_of i d) x is.has t.memory frames_are (dom_of w d) w.storage is.dom holds

    -- its hart has not begun its next slot
    between : (s : Harts) → StandsFor i s t → (y : CodeHart) → slice_get t.harts.items (hart_of_domain i d) ≡ Some y
        → y.clock < start_on i (hart_of_domain i d) y.slots → IsBetween i (hart_of_domain i d) s
    between s stands y at early =
        let is = stands.each_hart (hart_of_domain i d) y at in
        subst₂ (λ (n k : ℕ). n < start_on i (hart_of_domain i d) k) is.machine.time is.slots early

    pub seen_mailed : IsDomain i d → (order : List ℕ) → AreHartsOf i order → StandsFor i (harts i order) t
        → AtHart t (hart_of_domain i d) (λ y. y.clock < start_on i (hart_of_domain i d) y.slots
        → seen_of x t.memory ≡ view_mailed_on i d (arrivals d (harts i order).world) y.slots)
    seen_mailed id order of_harts stands y at early =
        let s = harts i order in
        let slots = (stands.each_hart (hart_of_domain i d) y at).slots in
        seen s stands ∙ hart_mail i d order c.accepted id of_harts (between s stands y at early)
        ∙ ap (view_mailed_on i d (arrivals d s.world)) (sym slots)

    pub seen_alone : IsDomain i d → t.off ≡ None → HasNoMail i d → AtHart t (hart_of_domain i d)
        (λ y. y.clock < start_on i (hart_of_domain i d) y.slots → seen_of x t.memory ≡ view_alone_on i d y.slots)
    seen_alone id all none y at early =
        let s = harts i c.order in
        let stands = subst (λ (o : Option Guard). StandsFor i (harts_by o i c.order) t) all c.stands in
        let slots = (stands.each_hart (hart_of_domain i d) y at).slots in
        seen s stands ∙ hart_isolation i d c.order c.accepted id none c.of_harts (between s stands y at early)
        ∙ ap (view_alone_on i d) (sym slots)

  pub used_within : t.off ≡ None → (e : ℕ) (u : Used) → slice_get t.used.items e ≡ Some u
      → u.largest ≤ (entry_in i.all.schedule e).pad
  used_within all e u got =
      let most = hart_largest i c.order e c.accepted c.of_harts in
      let stands = subst (λ (o : Option Guard). StandsFor i (harts_by o i c.order) t) all c.stands in
      let is = stands.each_entry.largest e u got in
      omega (arith, most, is)
