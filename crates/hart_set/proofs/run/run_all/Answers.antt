use Rattle.std.proofs.Common.{◌∙◌, sym, subst}
use Rattle.image_record.specs.Record.{Raw}
use Rattle.image_check.specs.Image.{image_from}
use Rattle.image_check.specs.Laws.{Runnable}
use Rattle.world_view.specs.Harts.{IsOnOneHart}
use Rattle.hart_set.specs.Models.{image_of}
use Rattle.hart_orders.specs.declared.choice.Choice.{Choice}
use Rattle.hart_orders.specs.declared.choice.Choice.TheVariants.{Drawn}
use Rattle.hart_set.specs.Run.{HasRun}
use Rattle.hart_set.proofs.RunSeen.{run_slots, run_drawn, run_one}
use Rattle.hart_set.proofs.run.run_all.Goals as goal

pub returns-in-LeastClock : goal.returns-in-LeastClock
returns-in-LeastClock c =
    let v = c.run_by_slots.new.harts in
    let image = sym c.run_by_slots.ensures.image in
    let accepted = subst (λ (x : Raw). Runnable (image_from x)) (c.image.ensures.value ∙ image) c.runnable.ensures.runnable in
    record {
      image = c.run_by_slots.ensures.image;
      run =
          subst (λ (choice : Choice). HasRun v choice c.args.slots) (sym c.in-LeastClock.is)
          (run_slots v c.args.slots accepted c.run_by_slots.ensures.slots);
    }

pub returns-then-harts-eq1 : goal.returns-then-harts-eq1
returns-then-harts-eq1 c =
    let v = c.run_by_slots-then-harts-eq1.new.harts in
    let n = c.args.slots in
    let image = sym c.run_by_slots-then-harts-eq1.ensures.image in
    let accepted = subst (λ (x : Raw). Runnable (image_from x)) (c.image.ensures.value ∙ image) c.runnable.ensures.runnable in
    let one : IsOnOneHart (image_of v) =
    subst (λ (x : Raw). IsOnOneHart (image_from x)) image (sym c.harts.ensures.value ∙ c.if-harts-eq1.true) in
    record {
      image = c.run_by_slots-then-harts-eq1.ensures.image;
      run =
          subst (λ (choice : Choice). HasRun v choice n) (sym c.in-Drawn.is)
          (run_one v (Drawn c.in-Drawn.seed) n one (run_slots v n accepted c.run_by_slots-then-harts-eq1.ensures.slots));
    }

pub returns-else-harts-eq1 : goal.returns-else-harts-eq1
returns-else-harts-eq1 c =
    let v = c.run_drawn.new.harts in
    let n = c.args.slots in
    let image = sym c.run_drawn.ensures.image in
    let accepted = subst (λ (x : Raw). Runnable (image_from x)) (c.image.ensures.value ∙ image) c.runnable.ensures.runnable in
    record {
      image = c.run_drawn.ensures.image;
      run =
          subst (λ (choice : Choice). HasRun v choice n) (sym c.in-Drawn.is)
          (run_drawn v c.in-Drawn.seed n accepted c.run_drawn.ensures.slots);
    }
