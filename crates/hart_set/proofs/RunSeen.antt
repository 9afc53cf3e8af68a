-- What is seen after a run, whatever the choice.
use Rattle.std.proofs.Common.{◌≡◌, ◌∙◌, ℕ, List, ap₂, sym, subst, arith}
use Rattle.image_record.specs.Record.{Raw}
use Rattle.image_check.specs.Image.{Image, own_of}
use Rattle.image_check.specs.Laws.{Runnable}
use Rattle.world_view.specs.declared.used.Used.{Used}
use Rattle.world_view.specs.Machine.{World, clock_of, whole}
use Rattle.world_view.specs.Relations.{IsDomain}
use Rattle.world_view.specs.View.{View, view, view_in}
use Rattle.world_view.specs.Harts.{Harts, IsOnOneHart, view_on}
use Rattle.world_view.specs.Laws.{SameWorld}
use Rattle.domain_step.specs.Usage.{IsUsed}
use Rattle.hart_orders.specs.declared.choice.Choice.{Choice}
use Rattle.hart_orders.specs.declared.choice.Choice.TheVariants.{LeastClock, Drawn}
use Rattle.hart_orders.specs.Order.{ran}
use Rattle.hart_orders.proofs.ChoiceLaws.{one_hart_run}
use Rattle.hart_machine.specs.Laws.{SameReport, slot_by_slot, drawn_slot_by_slot}
use Rattle.hart_machine.proofs.Reports.{slots}
use Rattle.hart_machine.proofs.DrawnOrder.{drawn_by_slots}
use Rattle.hart_set.specs.declared.set.State.{State}
use Rattle.hart_set.specs.Standing.{StandsFor}
use Rattle.hart_set.specs.Models.{image_of, harts_after}
use Rattle.hart_set.specs.Run.{StandsAt, HasRun}

-- ---- harts that have run

-- slot by slot
pub run_slots : (v : Raw × State) (n : ℕ) → Runnable (image_of v)
    → StandsAt v (slot_by_slot (image_of v) n).world → HasRun v LeastClock n
run_slots v n r at = record {
  accepted = r;
  order = at.order;
  same =
      subst (λ (x : Harts). SameReport (image_of v) (ran (image_of v) LeastClock n) x.world) (sym at.leads)
      (slots (image_of v) n r);
  stands = at.stands;
}

-- slot by slot in the order that a seed draws
pub run_drawn : (v : Raw × State) (seed n : ℕ) → Runnable (image_of v)
    → StandsAt v (drawn_slot_by_slot (image_of v) seed n).world → HasRun v (Drawn seed) n
run_drawn v seed n r at = record {
  accepted = r;
  order = at.order;
  same =
      subst (λ (x : Harts). SameReport (image_of v) (ran (image_of v) (Drawn seed) n) x.world) (sym at.leads)
      (drawn_by_slots (image_of v) seed n r).0;
  stands = at.stands;
}

-- of one hart, in whatever order its events were drawn: there is one
same_world : (i : Image) → IsOnOneHart i → (w v u : World) → SameWorld w v → SameWorld w u → SameReport i v u
same_world i one w v u a b = record {
  seen = λ d id. ap₂ (view i.all.hardware (own_of i d)) (sym (a.doms d) ∙ b.doms d) (sym a.storage ∙ b.storage);
  used = sym a.used ∙ b.used;
  came = sym a.came ∙ b.came;
  clocks = λ h there.
      let first : 0 ≡ h = omega (arith, one, there) in
      subst (λ (g : ℕ). clock_of g v ≡ clock_of g u) first (sym a.clock ∙ b.clock);
}

pub run_one : (v : Raw × State) (c : Choice) (n : ℕ) → IsOnOneHart (image_of v) → HasRun v LeastClock n → HasRun v c n
run_one v c n one has =
    let i = image_of v in
    let r = has.accepted in
    let w = (harts_after v has.order).world in
    let by_choice =
    same_world i one (whole i n) (ran i c n) (ran i LeastClock n) (one_hart_run i c n r one) (one_hart_run i LeastClock n r one) in
    record {
      accepted = r;
      order = has.order;
      same = record {
        seen = λ d id. by_choice.seen d id ∙ has.same.seen d id;
        used = by_choice.used ∙ has.same.used;
        came = by_choice.came ∙ has.same.came;
        clocks = λ h there. by_choice.clocks h there ∙ has.same.clocks h there;
      };
      stands = has.stands;
    }

-- ---- what is seen of them

module _ (v : Raw × State) (c : Choice) (n : ℕ) (has : HasRun v c n) where
  abbrev i : Image
  i = image_of v

  pub seen_of_run : (d : ℕ) (seen : View) → IsDomain i d
      → ((s : Harts) → StandsFor i s v.1 → seen ≡ view_on i d s)
      → seen ≡ view_in i d (ran i c n)
  unfolding view_on
  seen_of_run d seen id is = is (harts_after v has.order) has.stands ∙ sym (has.same.seen d id)

  pub used_of_run : (used : List Used)
      → ((s : Harts) → StandsFor i s v.1 → IsUsed used s.world.used) → IsUsed used (ran i c n).used
  used_of_run used is = subst (IsUsed used) (sym has.same.used) (is (harts_after v has.order) has.stands)
