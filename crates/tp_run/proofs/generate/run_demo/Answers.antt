use Rattle.std.proofs.Common.{◌∙◌, ap, subst}
use Rattle.sched_table.specs.Schedule.{harts_in}
use Rattle.image_gen.proofs.OneHart.{one_hart}
use Rattle.image_check.specs.Image.{Image}
use Rattle.tp_io.specs.Sink.{state}
use Rattle.tp_report.specs.Demo.{demo_text}
use Rattle.tp_answer.specs.declared.status.Status.TheVariants.{Done}
use Rattle.tp_answer.specs.TopCall.{Delivers}
use Rattle.tp_answer.proofs.Answers.{nothing_held}
use Rattle.tp_run.proofs.generate.run_demo.Goals as goal

pub returns-in-Err : goal.returns-in-Err
returns-in-Err g c = record { delivers = nothing_held _ _ }

pub returns-in-Ok : goal.returns-in-Ok
returns-in-Ok g c = record {
  delivers =
      subst (λ (i : Image). Delivers (Done, demo_text i c.args.seed) c.run_image_of-status.result
      (state g.K.Sink c.args.out.now) (state g.K.Sink c.run_image_of-status.new.out)) c.in-Ok.ensures.made
      c.run_image_of-status.ensures.delivers;
}

pub run_image_of-status-requires : goal.run_image_of-status-requires
run_image_of-status-requires g c = record {
  one = ap (λ (i : Image). harts_in i.all.schedule) c.in-Ok.ensures.made ∙ one_hart c.args.seed;
}
