use Rattle.std.proofs.Common.{◌≡◌, ◌∙◌, ℕ, ◌+◌, ◌-◌, ◌<◌, Option, IfSome, refl, sym, ap, subst, arith}
use Rattle.image_record.specs.Record.{Raw}
use Rattle.image_check.specs.Image.{image_from}
use Rattle.image_check.specs.Laws.{Runnable}
use Rattle.sched_table.specs.Schedule.{harts_in}
use Rattle.hart_orders.specs.Order.{cycles_before}
use Rattle.guards.specs.declared.Guard.{Guard}
use Rattle.world_view.specs.Harts.{harts_by}
use Rattle.hart_set.specs.Standing.{StandsFor, AtHart}
use Rattle.hart_set.specs.Models.{image_of}
use Rattle.hart_set.proofs.BySlots.{OnTheWay, at_first, one_fewer, at_last, over, one_more}
use Rattle.hart_set.proofs.run.run_by_slots.Goals as goal

pub loop-init : goal.loop-init
loop-init c =
    let v = c.args.harts.now in
    let n = c.args.slots in
    let accepted = subst (λ (x : Raw). Runnable (image_from x)) c.image.ensures.value c.runnable.ensures.runnable in
    let most =
    c.cycles_before-most.ensures.value
    ∙ ap (λ (x : Raw). cycles_before (image_from x) n (harts_in (image_from x).all.schedule)) c.image-2.ensures.value in
    record { image = refl; all = c.requires.all; way = at_first v n (c.cycles_before-most.result - 0) accepted (omega (arith, most)) c.requires.first }

pub returns-in_default-clause-slots : goal.returns-in_default-clause-slots
returns-in_default-clause-slots c =
    let v = c.loop.harts in
    let n = c.args.slots in
    let most = c.cycles_before-most.result in
    let way = one_fewer v n most c.loop.counter c.loop-test.true c.loop.invariant.way in
    over v n (most - (c.loop.counter + 1)) way (sym (c.first.ensures.first way.at.order way.at.stands) ∙ c.in_default.is)

pub run_slot-requires : goal.run_slot-requires
run_slot-requires c = record {
  hart = subst (λ (o : Option ℕ). IfSome o (λ h. h < harts_in (image_of c.loop.harts).all.schedule)) c.in-Some.is c.first.ensures.hart;
  slots =
      subst (λ (o : Option ℕ). IfSome o (λ h. AtHart c.loop.harts.1 h (λ x. x.slots < 65536))) c.in-Some.is c.first.ensures.slots;
}

pub loop-preserved : goal.loop-preserved
loop-preserved c =
    let v = c.loop.harts in
    let n = c.args.slots in
    let most = c.cycles_before-most.result in
    let f = most - (c.loop.counter + 1) in
    let h = c.in-Some.h in
    let t = c.run_slot.new.self.1 in
    let way = one_fewer v n most c.loop.counter c.loop-test.true c.loop.invariant.way in
    let there = subst (λ (o : Option ℕ). IfSome o (λ g. g < harts_in (image_of v).all.schedule)) c.in-Some.is c.first.ensures.hart in
    let all = c.loop.invariant.all in
    let still = c.run_slot.ensures.off ∙ all in
    let ends = c.run_slot.ensures.ends way.at.order way.at.of_harts
    (subst (λ (o : Option Guard). StandsFor (image_of v) (harts_by o (image_of v) way.at.order) v.1) (sym all) way.at.stands) in
    record {
      image = c.run_slot.ensures.image ∙ c.loop.invariant.image;
      all = still;
      way = subst (λ (x : Raw). OnTheWay (x, t) n f) (sym c.run_slot.ensures.image)
          (one_more v n f way h there t still ends (sym (c.first.ensures.first way.at.order way.at.stands) ∙ c.in-Some.is));
    }

pub returns-clause-slots : goal.returns-clause-slots
returns-clause-slots c =
    let v = c.loop.harts in
    let n = c.args.slots in
    let none : c.cycles_before-most.result - c.loop.counter ≡ 0 = omega arith in
    at_last v n (subst (OnTheWay v n) none c.loop.invariant.way)
