use Rattle.std.proofs.Common.{◌≢◌, ◌∙◌, true≢false, eq-eqb, eqb-true, sym, subst}
use Rattle.tp_io.specs.Sink.{state}
use Rattle.sched_table.specs.Schedule.{harts_in}
use Rattle.image_check.specs.Image.{image_from}
use Rattle.tp_report.specs.Report.{usage_text}
use Rattle.tp_answer.specs.Answer.{Answer, answer_of_record}
use Rattle.tp_answer.specs.Reading.{record_for}
use Rattle.tp_answer.specs.TopCall.{Delivers}
use Rattle.tp_words.specs.declared.Command.TheVariants.{Ablate}
use Rattle.tp_answer.specs.declared.status.Status.TheVariants.{Usage}
use Rattle.tp_answer.proofs.Answers.{delivered, found_due, off_due, many_due}
use Rattle.tp_run.proofs.call.answer_off.Goals as goal

pub returns-then-has_one_hart : goal.returns-then-has_one_hart
unfolding answer_of_record
returns-then-has_one_hart g c =
    let i = image_from c.in-Ok.image in
    let asked = Ablate c.args.off c.args.slots in
    let one = eqb-true (harts_in i.all.schedule) 1 (sym c.has_one_hart.ensures.value ∙ c.if-has_one_hart.true) in
    let due =
    found_due asked (record_for asked c.args.bytes.now) _
    (c.in-Ok.ensures.ablate c.args.off c.args.slots) ∙ off_due c.args.off c.args.slots i one in
    record {
      delivers =
          subst (λ (a : Answer). Delivers a c.run_off-status.result (state g.K.Sink c.args.out.now)
          (state g.K.Sink c.run_off-status.new.out))
          (sym due) c.run_off-status.ensures.delivers;
    }

pub returns-else-has_one_hart : goal.returns-else-has_one_hart
unfolding answer_of_record
returns-else-has_one_hart g c =
    let i = image_from c.in-Ok.image in
    let asked = Ablate c.args.off c.args.slots in
    let is = sym c.has_one_hart.ensures.value ∙ c.if-has_one_hart.false in
    let many : harts_in i.all.schedule ≢ 1 = λ e. true≢false (sym (eq-eqb (harts_in i.all.schedule) 1 e) ∙ is) in
    let due =
    found_due asked (record_for asked c.args.bytes.now) _
    (c.in-Ok.ensures.ablate c.args.off c.args.slots) ∙ many_due c.args.off c.args.slots i many in
    let usage =
    delivered Usage c.status_unless_failed.result usage_text (state g.K.Sink c.args.out.now)
    (state g.K.Sink c.write_usage.new.out) c.write_usage.result tt c.write_usage.ensures.sends
    c.status_unless_failed.ensures.ok c.status_unless_failed.ensures.err in
    record {
      delivers =
          subst (λ (a : Answer). Delivers a c.status_unless_failed.result (state g.K.Sink c.args.out.now)
          (state g.K.Sink c.write_usage.new.out))
          (sym due) usage;
    }
