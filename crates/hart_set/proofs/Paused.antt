-- The code's harts while none is in a slot, and one slot later.
use Rattle.std.proofs.Common.{◌≡◌, ◌≢◌, ◌∙◌, ℕ, suc, ◌<◌, false, Option, None, List, [], ◌++◌, replicate, inl, inr, sym, ap, subst}
use Rattle.std.proofs.lemmas.Bool.{cases_eq}
use Rattle.std.proofs.lemmas.List.Elements.{All-nil, All-append, All-replicate}
use Rattle.image_record.specs.Record.{Raw}
use Rattle.sched_table.specs.Schedule.{harts_in}
use Rattle.image_check.specs.Image.{Image}
use Rattle.image_check.specs.Laws.{Runnable}
use Rattle.event_orders.specs.Machine.{Machine}
use Rattle.event_orders.specs.Laws.{AreBetween}
use Rattle.event_orders.proofs.Steps.{run_others}
use Rattle.guards.specs.declared.Guard.{Guard}
use Rattle.world_view.specs.Harts.{Harts, progress_of, slots_of, harts, harts_by}
use Rattle.world_view.specs.HartLaws.{AreHartsOf, IsBetween}
use Rattle.world_view.proofs.harts.Clocks.{hart_between}
use Rattle.hart_machine.specs.HartMachine.{machine_of}
use Rattle.hart_machine.specs.Laws.{IsItsSlot}
use Rattle.hart_machine.proofs.IsMachine.{is_machine}
use Rattle.hart_machine.proofs.OneSlot.{harts_run, one_slot, reached}
use Rattle.hart_machine.proofs.Reports.{first_between}
use Rattle.hart_set.specs.declared.set.State.{State}
use Rattle.hart_set.specs.Standing.{StandsFor}
use Rattle.hart_set.specs.Slots.{EndsSlot}
use Rattle.hart_set.specs.Models.{image_of, harts_after, StandsAfter}

pub record Paused (v : Raw × State) : Type 0 where
  pub accepted : Runnable (image_of v)
  pub order : List ℕ
  pub of_harts : AreHartsOf (image_of v) order
  pub between : AreBetween (machine_of (image_of v)) (harts_after v order)
  pub stands : StandsAfter v order

abbrev pub at_first : (v : Raw × State) → Runnable (image_of v) → StandsAfter v [] → Paused v
at_first v r stands = record {
  accepted = r;
  order = [];
  of_harts = All-nil (λ (h : ℕ). h < harts_in (image_of v).all.schedule);
  between = first_between (image_of v) r;
  stands = stands;
}

module _ (v : Raw × State) (p : Paused v) (h : ℕ) (there : h < harts_in (image_of v).all.schedule) (t : State)
    (all : t.off ≡ None) (ends : EndsSlot (image_of v) p.order h t) where
  abbrev i : Image
  i = image_of v

  abbrev m : Machine
  m = machine_of i

  abbrev events : ℕ
  events = ends.events

  abbrev pub order' : List ℕ
  order' = p.order ++ replicate events h

  pub more : AreHartsOf i order'
  more =
      All-append (λ (g : ℕ). g < harts_in i.all.schedule) p.order (replicate events h) p.of_harts
      (All-replicate (λ (g : ℕ). g < harts_in i.all.schedule) events h there)

  outside : (progress_of h (harts i order')).inside ≡ false
  outside = subst (λ (o : Option Guard). (progress_of h (harts_by o i order')).inside ≡ false) all ends.outside

  between : IsBetween i h (harts i order')
  between = hart_between i h order' p.accepted more there outside

  slots : slots_of h (harts i order') ≡ suc (slots_of h (harts i p.order))
  slots = subst (λ (o : Option Guard). slots_of h (harts_by o i order') ≡ suc (slots_of h (harts_by o i p.order))) all ends.slots

  other_out : (g : ℕ) → g < harts_in i.all.schedule → g ≢ h → (progress_of g (harts i order')).inside ≡ false
  other_out g there' ne =
      let is = is_machine i p.accepted in
      let same = run_others m is h there g events (harts i p.order) ne (reached i p.order p.of_harts) in
      ap (λ (x : Harts). (progress_of g x).inside) (harts_run i h events p.order)
      ∙ (is.as_far g _ (harts i p.order) same).inside ∙ p.between g there'

  pub all_out : AreBetween m (harts i order')
  all_out g there' = elim (cases_eq g h) [
    | inl same ↦
        subst (λ (x : ℕ). (progress_of x (harts i order')).inside ≡ false) (sym same)
        outside
    | inr other ↦ other_out g there' other
  ]

  pub its_slot : IsItsSlot i h events (harts i p.order) (harts i order')
  its_slot = one_slot i h events p.order p.accepted p.of_harts there (p.between h there) between slots

  abbrev pub one_later : Paused (v.0, t)
  one_later = record {
    accepted = p.accepted;
    order = order';
    of_harts = more;
    between = all_out;
    stands = subst (λ (o : Option Guard). StandsFor i (harts_by o i order') t) all ends.stands;
  }
