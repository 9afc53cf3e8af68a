use Rattle.std.proofs.Common.{◌<◌, ◌≤◌, ◌∙◌, sym, subst, arith}
use Rattle.tp_io.specs.Sink.{state}
use Rattle.image_check.specs.Image.{image_from}
use Rattle.tp_report.specs.Report.{usage_text}
use Rattle.tp_answer.specs.Answer.{Answer, answer_of_record}
use Rattle.tp_answer.specs.Reading.{record_for}
use Rattle.tp_answer.specs.TopCall.{Delivers}
use Rattle.tp_words.specs.declared.Command.TheVariants.{Alone}
use Rattle.tp_answer.specs.declared.status.Status.TheVariants.{Usage}
use Rattle.tp_answer.proofs.Answers.{delivered, found_due, alone_due, lacks_due}
use Rattle.tp_run.proofs.call.answer_alone.Goals as goal

pub returns-then-domain-domains_of : goal.returns-then-domain-domains_of
unfolding answer_of_record
returns-then-domain-domains_of g c =
    let asked = Alone c.args.domain c.args.slots in
    let has : c.args.domain < (image_from c.in-Ok.image).all.domains = omega arith in
    let due =
    found_due asked (record_for asked c.args.bytes.now) _
    (c.in-Ok.ensures.alone c.args.domain c.args.slots)
    ∙ alone_due c.args.domain c.args.slots (image_from c.in-Ok.image) has in
    record {
      delivers =
          subst (λ (a : Answer). Delivers a c.run_domain-status.result (state g.K.Sink c.args.out.now)
          (state g.K.Sink c.run_domain-status.new.out)) (sym due) c.run_domain-status.ensures.delivers;
    }

pub returns-else-domain-domains_of : goal.returns-else-domain-domains_of
unfolding answer_of_record
returns-else-domain-domains_of g c =
    let asked = Alone c.args.domain c.args.slots in
    let lacks : (image_from c.in-Ok.image).all.domains ≤ c.args.domain = omega arith in
    let due =
    found_due asked (record_for asked c.args.bytes.now) _
    (c.in-Ok.ensures.alone c.args.domain c.args.slots)
    ∙ lacks_due c.args.domain c.args.slots (image_from c.in-Ok.image) lacks in
    let usage =
    delivered Usage c.status_unless_failed.result usage_text (state g.K.Sink c.args.out.now)
    (state g.K.Sink c.write_usage.new.out) c.write_usage.result tt c.write_usage.ensures.sends
    c.status_unless_failed.ensures.ok c.status_unless_failed.ensures.err in
    record {
      delivers =
          subst (λ (a : Answer). Delivers a c.status_unless_failed.result (state g.K.Sink c.args.out.now)
          (state g.K.Sink c.write_usage.new.out)) (sym due) usage;
    }
