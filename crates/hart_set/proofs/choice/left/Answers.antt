use Rattle.std.proofs.Common.{◌≡◌, ◌∙◌, ℕ, ◌<◌, List, [], ◌∷◌, ◌++◌, length, true, false, refl, sym, ap, ap₂, arith}
use Rattle.std.specs.Prelude.{take, slice_index}
use Rattle.std.proofs.lemmas.List.{take_more_set, length-set}
use Rattle.sched_table.specs.Schedule.{harts_in}
use Rattle.event_orders.specs.Orders.{passing, is_owed_or, is_owed_or_left, has_left}
use Rattle.hart_machine.specs.HartMachine.{machine_of}
use Rattle.hart_set.specs.Models.{image_of, harts_after}
use Rattle.hart_set.specs.Choosers.{counted_after}
use Rattle.hart_set.proofs.LeftHarts.{one_more, no_more}
use Rattle.hart_set.proofs.choice.left.Goals.{then-is_left, else-is_left}
use Rattle.hart_set.proofs.choice.left.Goals as goal

pub loop-h-init : goal.loop-h-init
unfolding passing
loop-h-init c = record { names = λ order table stands owes. refl; few = omega arith; four = refl }

pub loop-h-preserved : goal.loop-h-preserved
loop-h-preserved c =
    let inv = c.loop-h.invariant in
    let v = c.args.harts.now in
    let h = c.loop-h.h in
    let there : h < harts_in (image_of v).all.schedule = omega (arith, c.loop-h-test.true, c.harts-h-end.ensures.value) in
    let within : c.loop-h.many < length c.loop-h.numbers =
    omega (arith, c.loop-h-test.true, c.harts-h-end.ensures.few, inv.few, inv.four) in
    elim c.if-is_left.branch [
      | then-is_left w ↦ record {
        names = λ order table stands owes.
            let m = machine_of (image_of v) in
            let test = is_owed_or_left m c.args.slots (counted_after v order table) in
            let yes : test h ≡ true =
            ap (is_owed_or (has_left m c.args.slots (harts_after v order) h))
            (sym (ap (slice_index c.args.owed) c.from.ensures ∙ owes h there))
            ∙ sym (c.is_left.ensures.left order stands) ∙ w.if-is_left.true in
            ap₂ (λ (k : ℕ) (xs : List ℕ). take k xs) w.many-is w.numbers-is
            ∙ take_more_set c.loop-h.numbers c.loop-h.many h within
            ∙ ap (λ (hs : List ℕ). hs ++ h ∷ []) (inv.names order table stands owes) ∙ sym (one_more test h yes);
        few = omega (arith, inv.few, w.many-is);
        four = ap length w.numbers-is ∙ length-set c.loop-h.numbers c.loop-h.many h ∙ inv.four;
      }
      | else-is_left w ↦ record {
        names = λ order table stands owes.
            let m = machine_of (image_of v) in
            let test = is_owed_or_left m c.args.slots (counted_after v order table) in
            let no : test h ≡ false =
            ap (is_owed_or (has_left m c.args.slots (harts_after v order) h))
            (sym (ap (slice_index c.args.owed) c.from.ensures ∙ owes h there))
            ∙ sym (c.is_left.ensures.left order stands) ∙ w.if-is_left.false in
            ap₂ (λ (k : ℕ) (xs : List ℕ). take k xs) w.many-is w.numbers-is
            ∙ inv.names order table stands owes ∙ sym (no_more test h no);
        few = omega (arith, inv.few, w.many-is);
        four = ap length w.numbers-is ∙ inv.four;
      }
    ]
