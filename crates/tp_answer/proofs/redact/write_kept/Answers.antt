use Rattle.std.proofs.Common.{◌∙◌}
use Rattle.tp_io.specs.Sink.{state}
use Rattle.image_redact.specs.Redacted.{redacted}
use Rattle.image_writing.specs.Text.{text_of}
use Rattle.tp_answer.specs.declared.status.Status.TheVariants.{Done}
use Rattle.tp_answer.proofs.Answers.{delivered, nothing_held}
use Rattle.tp_answer.proofs.redact.write_kept.Goals as goal

pub returns-in-Err-clause-delivers : goal.returns-in-Err-clause-delivers
returns-in-Err-clause-delivers g c i read = nothing_held _ _

pub returns-in-Ok-clause-delivers : goal.returns-in-Ok-clause-delivers
returns-in-Ok-clause-delivers g c i read =
    delivered Done c.status_unless_failed.result (text_of (redacted i c.args.domain)) (state g.K.Sink c.args.out.now)
    (state g.K.Sink c.write_all_of.new.out) c.write_all_of.result tt
    (rw (c.as_bytes.ensures.value ∙ c.in-Ok.ensures.text i read) at
    c.write_all_of.ensures.sends) c.status_unless_failed.ensures.ok c.status_unless_failed.ensures.err
