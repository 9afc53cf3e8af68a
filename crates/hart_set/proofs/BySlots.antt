-- The code's harts, slot by slot in the order of the least clock.
use Rattle.std.proofs.Common.{◌≡◌, ◌∙◌, ℕ, suc, ◌+◌, ◌-◌, ◌<◌, [], Option, Some, None, sym, ap, subst, arith}
use Rattle.image_record.specs.Record.{Raw}
use Rattle.sched_table.specs.Schedule.{harts_in}
use Rattle.image_check.specs.Image.{Image}
use Rattle.image_check.specs.Laws.{Runnable}
use Rattle.event_orders.specs.Machine.{Machine}
use Rattle.event_orders.specs.Orders.{first, by_slots}
use Rattle.event_orders.proofs.Slots.{slot_if}
use Rattle.world_view.specs.Harts.{Harts, harts}
use Rattle.hart_orders.specs.Order.{cycles_before}
use Rattle.hart_machine.specs.HartMachine.{machine_of}
use Rattle.hart_machine.specs.Laws.{slot_by_slot}
use Rattle.hart_machine.proofs.IsMachine.{is_machine}
use Rattle.hart_machine.proofs.LeastClock.{cycles_are}
use Rattle.hart_set.specs.declared.set.State.{State}
use Rattle.hart_set.specs.Slots.{EndsSlot}
use Rattle.hart_set.specs.Models.{image_of, harts_after, StandsAfter}
use Rattle.hart_set.specs.Run.{StandsAt}
use Rattle.hart_set.proofs.Paused as paused
use Rattle.hart_set.proofs.Paused.{Paused, its_slot, one_later}

-- of the whole run so many slots are left at most
pub record OnTheWay (v : Raw × State) (n left : ℕ) : Type 0 where
  pub at : Paused v
  pub leads : (by_slots (machine_of (image_of v)) n left (harts_after v at.order)).world
      ≡ (slot_by_slot (image_of v) n).world

pub at_first : (v : Raw × State) (n most : ℕ) → Runnable (image_of v)
    → most ≡ cycles_before (image_of v) n (harts_in (image_of v).all.schedule) → StandsAfter v [] → OnTheWay v n most
at_first v n most r same stands =
    let i = image_of v in
    let enough = cycles_are i n (harts_in i.all.schedule) (omega arith) in
    record {
      at = paused.at_first v r stands;
      leads = ap (λ (f : ℕ). (by_slots (machine_of i) n f (harts i [])).world) (same ∙ sym enough);
    }

-- one slot is fewer
pub one_fewer : (v : Raw × State) (n most counter : ℕ) → counter < most → OnTheWay v n (most - counter)
    → OnTheWay v n (suc (most - (counter + 1)))
one_fewer v n most counter l way =
    let one : most - counter ≡ suc (most - (counter + 1)) = omega (arith, l) in subst (OnTheWay v n) one way

-- all that there may be have been
pub at_last : (v : Raw × State) (n : ℕ) → OnTheWay v n 0 → StandsAt v (slot_by_slot (image_of v) n).world
unfolding by_slots
at_last v n way =
    record { order = way.at.order; of_harts = way.at.of_harts; leads = way.leads; stands = way.at.stands }

module _ (v : Raw × State) (n f : ℕ) (way : OnTheWay v n (suc f)) where
  abbrev i : Image
  i = image_of v

  abbrev m : Machine
  m = machine_of i

  abbrev s : Harts
  s = harts_after v way.at.order

  next_is : (o : Option ℕ) → first m n s (harts_in i.all.schedule) ≡ o
      → by_slots m n (suc f) s ≡ slot_if m (is_machine i way.at.accepted) n f s o
  unfolding by_slots
  next_is o is = ap (slot_if m (is_machine i way.at.accepted) n f s) is

  -- nobody is next
  pub over : first m n s (harts_in i.all.schedule) ≡ None → StandsAt v (slot_by_slot i n).world
  over none = record {
    order = way.at.order;
    of_harts = way.at.of_harts;
    leads = ap (λ r. r.world) (sym (next_is None none)) ∙ way.leads;
    stands = way.at.stands;
  }

  -- somebody is: it has its slot
  pub one_more : (h : ℕ) → h < harts_in i.all.schedule → (t : State) → t.off ≡ None → EndsSlot i way.at.order h t
      → first m n s (harts_in i.all.schedule) ≡ Some h → OnTheWay (v.0, t) n f
  one_more h there t all ends is = record {
    at = one_later v way.at h there t all ends;
    leads =
        ap (λ (x : Harts). (by_slots m n f x).world) (its_slot v way.at h there t all ends).comes_to
        ∙ ap (λ r. r.world) (sym (next_is (Some h) is)) ∙ way.leads;
  }
