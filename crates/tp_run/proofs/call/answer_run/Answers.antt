use Rattle.std.proofs.Common.{◌∙◌, sym, ap, subst}
use Rattle.tp_io.specs.Sink.{state}
use Rattle.image_check.specs.Image.{image_from}
use Rattle.hart_orders.specs.declared.choice.Choice.{Choice}
use Rattle.tp_answer.specs.Answer.{Answer, answer_of_record}
use Rattle.tp_answer.specs.Reading.{record_for}
use Rattle.tp_answer.specs.Runs.{report}
use Rattle.tp_answer.specs.TopCall.{Delivers}
use Rattle.tp_answer.specs.declared.status.Status.TheVariants.{Done}
use Rattle.tp_words.specs.declared.Command.TheVariants.{Run, Harts}
use Rattle.tp_answer.proofs.Answers.{found_due}
use Rattle.tp_run.proofs.call.answer_run.Goals as goal

pub returns-in-Ok-clause-run : goal.returns-in-Ok-clause-run
unfolding answer_of_record
returns-in-Ok-clause-run g c least =
    let n = c.args.slots in
    let i = image_from c.in-Ok.image in
    let due =
    ap (λ (x : Choice). (Done, report i x n)) least
    ∙ sym (found_due (Run n) (record_for (Run n) c.args.bytes.now) _ (c.in-Ok.ensures.run n)) in
    subst (λ (a : Answer). Delivers a c.run_image-status.result (state g.K.Sink c.args.out.now)
    (state g.K.Sink c.run_image-status.new.out)) due c.run_image-status.ensures.delivers

pub returns-in-Ok-clause-harts : goal.returns-in-Ok-clause-harts
unfolding answer_of_record
returns-in-Ok-clause-harts g c seed drawn =
    let n = c.args.slots in
    let i = image_from c.in-Ok.image in
    let due =
    ap (λ (x : Choice). (Done, report i x n)) drawn
    ∙ sym (found_due (Harts n seed) (record_for (Harts n seed) c.args.bytes.now) _
    (c.in-Ok.ensures.harts n seed)) in
    subst (λ (a : Answer). Delivers a c.run_image-status.result (state g.K.Sink c.args.out.now)
    (state g.K.Sink c.run_image-status.new.out)) due c.run_image-status.ensures.delivers
