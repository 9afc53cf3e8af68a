use Rattle.std.proofs.Common.{◌<◌, ◌≤◌, ◌∙◌, length, sym, subst, arith}
use Rattle.tp_io.specs.Sink.{state}
use Rattle.image_check.proofs.Owns.{owns_length}
use Rattle.tp_report.specs.Report.{usage_text}
use Rattle.tp_answer.specs.Answer.{Answer}
use Rattle.tp_answer.specs.Reading.{record_for}
use Rattle.tp_answer.specs.TopCall.{Delivers}
use Rattle.tp_words.specs.declared.Command.TheVariants.{Redact}
use Rattle.tp_answer.specs.declared.status.Status.TheVariants.{Usage}
use Rattle.tp_answer.proofs.Answers.{delivered, found_due, kept_due, none_kept_due}
use Rattle.tp_answer.proofs.Kept.{record_is, has_kept}
use Rattle.tp_answer.proofs.redact.answer_redact.Goals as goal

pub write_kept-requires : goal.write_kept-requires
write_kept-requires g c = record {
  domain =
      has_kept c.args.domain c.domains_of-domains.result c.args.bytes.now c.in-Ok.image
      (c.in-Ok.ensures.redact c.args.domain) c.domains_of-domains.ensures.value c.if-domain-domains.true;
}

pub returns-then-domain-domains-clause-delivers : goal.returns-then-domain-domains-clause-delivers
returns-then-domain-domains-clause-delivers g c =
    let d = c.args.domain in
    let i = c.in-Ok.image in
    let found = c.in-Ok.ensures.redact d in
    let read = record_is d c.args.bytes.now i found in
    let has : d < length i.domains =
    has_kept d c.domains_of-domains.result c.args.bytes.now i found c.domains_of-domains.ensures.value
    c.if-domain-domains.true i read in
    let due = found_due (Redact d) (record_for (Redact d) c.args.bytes.now) i found ∙ kept_due d i has in
    subst (λ (a : Answer). Delivers a c.write_kept.result (state g.K.Sink c.args.out.now) (state g.K.Sink c.write_kept.new.out))
    (sym due) (c.write_kept.ensures.delivers i read)

pub returns-else-domain-domains-clause-delivers : goal.returns-else-domain-domains-clause-delivers
returns-else-domain-domains-clause-delivers g c =
    let d = c.args.domain in
    let i = c.in-Ok.image in
    let lacks : length i.domains ≤ d =
    omega (arith, c.if-domain-domains.false, c.domains_of-domains.ensures.value, owns_length i) in
    let due =
    found_due (Redact d) (record_for (Redact d) c.args.bytes.now) i (c.in-Ok.ensures.redact d) ∙ none_kept_due d i lacks in
    let usage =
    delivered Usage c.status_unless_failed.result usage_text (state g.K.Sink c.args.out.now)
    (state g.K.Sink c.write_usage.new.out) c.write_usage.result tt c.write_usage.ensures.sends
    c.status_unless_failed.ensures.ok c.status_unless_failed.ensures.err in
    subst (λ (a : Answer). Delivers a c.status_unless_failed.result (state g.K.Sink c.args.out.now)
    (state g.K.Sink c.write_usage.new.out)) (sym due) usage
