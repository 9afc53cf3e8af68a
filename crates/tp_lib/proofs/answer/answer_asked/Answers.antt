use Rattle.tp_io.specs.Sink.{state}
use Rattle.tp_answer.specs.Answer.{answer_by}
use Rattle.tp_answer.proofs.Answers.{usage_sent}
use Rattle.tp_lib.proofs.answer.answer_asked.Goals as goal

pub returns-in-Some-clause-delivers : goal.returns-in-Some-clause-delivers
unfolding answer_by
returns-in-Some-clause-delivers g c = rw c.in-Some.is c.answer_bytes.ensures.delivers

pub returns-in-None-clause-delivers : goal.returns-in-None-clause-delivers
unfolding answer_by
returns-in-None-clause-delivers g c =
    rw c.in-None.is
    (usage_sent c.status_unless_failed.result (state g.K.Sink c.args.out.now) (state g.K.Sink c.write_usage.new.out)
    c.write_usage.result c.write_usage.ensures.sends c.status_unless_failed.ensures.ok c.status_unless_failed.ensures.err)
