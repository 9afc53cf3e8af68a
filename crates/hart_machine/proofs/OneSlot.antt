-- Events of a hart alone that end its next slot.
use Rattle.std.proofs.Common.{◌≡◌, ◌∙◌, ℕ, zero, suc, ◌<◌, Bool, true, false, None, List, ◌++◌, replicate, ap, subst, refl, arith}
use Rattle.std.proofs.lemmas.List.Elements.{All-append, All-replicate}
use Rattle.event_orders.specs.Orders.{run, slot_events, run_slot}
use Rattle.event_orders.proofs.OneSlot.{one_slot_law}
use Rattle.image_check.specs.Image.{Image}
use Rattle.image_check.specs.Laws.{Runnable}
use Rattle.sched_table.specs.Schedule.{harts_in}
use Rattle.world_view.specs.Harts.{Harts, progress_of, slots_of, next, after, harts, after_by}
use Rattle.world_view.specs.HartLaws.{AreHartsOf, IsBetween}
use Rattle.world_view.proofs.harts.Clocks.{hart_begun}
use Rattle.hart_orders.proofs.Through.{harts_appended}
use Rattle.hart_machine.specs.HartMachine.{IsReached, machine_of}
use Rattle.hart_machine.specs.Laws.{OneSlotLaw}
use Rattle.hart_machine.proofs.IsMachine.{is_machine}

module _ (i : Image) (h : ℕ) where
  run_is : (k : ℕ) (s : Harts) → after i (replicate k h) s ≡ run (machine_of i) h k s
  unfolding run after_by
  run_is zero s = refl
  run_is (suc k) s = run_is k (next i h s)

  pub harts_run : (k : ℕ) (order : List ℕ) → harts i (order ++ replicate k h) ≡ run (machine_of i) h k (harts i order)
  harts_run k order = harts_appended None i order (replicate k h) ∙ run_is k (harts i order)

  -- a hart before its next slot is in none
  out_if : (order : List ℕ) → Runnable i → AreHartsOf i order → h < harts_in i.all.schedule → IsBetween i h (harts i order)
      → (b : Bool) → (progress_of h (harts i order)).inside ≡ b → (progress_of h (harts i order)).inside ≡ false
  out_if order r below there early true now =
      let begun = hart_begun i h order r below there now in absurd (omega (arith, begun, early))
  out_if order r below there early false out = out

  pub is_out : (order : List ℕ) → Runnable i → AreHartsOf i order → h < harts_in i.all.schedule → IsBetween i h (harts i order)
      → (progress_of h (harts i order)).inside ≡ false
  is_out order r below there early = out_if order r below there early (progress_of h (harts i order)).inside refl

pub reached : (i : Image) (order : List ℕ) → AreHartsOf i order → IsReached i (harts i order)
reached i order below = record { order = order; of_harts = below; comes_to = refl }

slot_is : (i : Image) (h k : ℕ) (s : Harts) → k ≡ suc (slot_events (machine_of i) h s)
    → run (machine_of i) h k s ≡ run_slot (machine_of i) h s
unfolding run run_slot
slot_is i h k s is = ap (λ (n : ℕ). run (machine_of i) h n s) is

pub one_slot : OneSlotLaw
one_slot i h k order r below there out early one =
    let m = machine_of i in
    let s = harts i order in
    let more =
    All-append (λ (g : ℕ). g < harts_in i.all.schedule) order (replicate k h) below
    (All-replicate (λ (g : ℕ). g < harts_in i.all.schedule) k h there) in
    let is = harts_run i h k order in
    let then = is_out i h (order ++ replicate k h) r more there early in
    let count =
    one_slot_law m (is_machine i r) h k s there (reached i order below) out
    (subst (λ (t : Harts). (progress_of h t).inside ≡ false) is then)
    (subst (λ (t : Harts). slots_of h t ≡ suc (slots_of h s)) is one) in
    record { count = count; comes_to = is ∙ slot_is i h k s count }
