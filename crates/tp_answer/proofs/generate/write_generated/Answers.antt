use Rattle.std.proofs.Common.{ap, ◌∙◌}
use Rattle.tp_io.specs.Sink.{state}
use Rattle.image_gen.specs.Text.{text}
use Rattle.tp_answer.specs.declared.status.Status.TheVariants.{Done}
use Rattle.tp_answer.proofs.Answers.{delivered, nothing_held}
use Rattle.tp_answer.proofs.generate.write_generated.Goals as goal

pub returns-in-Err-clause-delivers : goal.returns-in-Err-clause-delivers
returns-in-Err-clause-delivers g c = nothing_held _ _

pub returns-in-Ok-clause-delivers : goal.returns-in-Ok-clause-delivers
returns-in-Ok-clause-delivers g c =
    delivered Done c.status_unless_failed.result (text c.args.seed) (state g.K.Sink c.args.out.now)
    (state g.K.Sink c.write_all_of.new.out) c.write_all_of.result tt
    (rw (c.as_bytes.ensures.value ∙ c.in-Ok.ensures.text ∙ ap text c.from.ensures) at
    c.write_all_of.ensures.sends) c.status_unless_failed.ensures.ok c.status_unless_failed.ensures.err
