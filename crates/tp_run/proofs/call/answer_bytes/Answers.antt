use Rattle.std.proofs.Common.{◌≤◌, ◌<◌, length, refl, sym, ap, ◌∙◌, subst, rules}
use Rattle.image_reading.specs.Reading.{most_bytes}
use Rattle.tp_io.specs.Sink.{state}
use Rattle.tp_words.specs.declared.Command.{Command}
use Rattle.tp_words.specs.declared.Command.TheVariants.{Check, Bound, Run, Alone, Ablate, Harts, Redact}
use Rattle.tp_answer.specs.Answer.{Answer, answer_of_bytes}
use Rattle.tp_answer.specs.TopCall.{Delivers}
use Rattle.tp_answer.specs.declared.status.Status.TheVariants.{TooLong}
use Rattle.tp_answer.proofs.Answers.{delivered, longer_reads, too_long_due, image_due, gen_due, demo_due}
use Rattle.tp_run.proofs.call.answer_bytes.Goals as goal

pub returns-then-bytes-gt-MOST_BYTES-clause-delivers : goal.returns-then-bytes-gt-MOST_BYTES-clause-delivers
returns-then-bytes-gt-MOST_BYTES-clause-delivers g c =
    let over : most_bytes < length c.args.bytes.now = search rules in
    let reads = longer_reads c.args.command c.args.bytes.now c.requires.none over in
    rw (too_long_due c.args.bytes.now c.args.command reads over)
    (delivered TooLong c.status_unless_failed.result _ _ _ c.write_too_long.result tt
    c.write_too_long.ensures.sends c.status_unless_failed.ensures.ok c.status_unless_failed.ensures.err)

pub returns-in-Check-clause-delivers : goal.returns-in-Check-clause-delivers
returns-in-Check-clause-delivers g c =
    let few : length c.args.bytes.now ≤ most_bytes = search rules in
    subst (λ (due : Answer). Delivers due c.answer_check.result (state g.K.Sink c.args.out.now) (state g.K.Sink c.answer_check.new.out))
    (sym (ap (λ (k : Command). answer_of_bytes k c.args.bytes.now) c.in-Check.is
    ∙ image_due c.args.bytes.now Check tt few)) c.answer_check.ensures.delivers

pub returns-in-Bound-clause-delivers : goal.returns-in-Bound-clause-delivers
returns-in-Bound-clause-delivers g c =
    let few : length c.args.bytes.now ≤ most_bytes = search rules in
    subst (λ (due : Answer). Delivers due c.answer_bound.result (state g.K.Sink c.args.out.now) (state g.K.Sink c.answer_bound.new.out))
    (sym (ap (λ (k : Command). answer_of_bytes k c.args.bytes.now) c.in-Bound.is
    ∙ image_due c.args.bytes.now Bound tt few)) c.answer_bound.ensures.delivers

pub returns-in-Run-clause-delivers : goal.returns-in-Run-clause-delivers
returns-in-Run-clause-delivers g c =
    let few : length c.args.bytes.now ≤ most_bytes = search rules in
    subst (λ (due : Answer). Delivers due c.answer_run.result (state g.K.Sink c.args.out.now) (state g.K.Sink c.answer_run.new.out))
    (sym (ap (λ (k : Command). answer_of_bytes k c.args.bytes.now) c.in-Run.is
    ∙ image_due c.args.bytes.now (Run c.in-Run.slots) tt few)) (c.answer_run.ensures.run refl)

pub returns-in-Alone-clause-delivers : goal.returns-in-Alone-clause-delivers
returns-in-Alone-clause-delivers g c =
    let few : length c.args.bytes.now ≤ most_bytes = search rules in
    subst (λ (due : Answer). Delivers due c.answer_alone.result (state g.K.Sink c.args.out.now) (state g.K.Sink c.answer_alone.new.out))
    (sym (ap (λ (k : Command). answer_of_bytes k c.args.bytes.now) c.in-Alone.is
    ∙ image_due c.args.bytes.now (Alone c.in-Alone.domain c.in-Alone.slots) tt few))
    c.answer_alone.ensures.delivers

pub returns-in-Ablate-clause-delivers : goal.returns-in-Ablate-clause-delivers
returns-in-Ablate-clause-delivers g c =
    let few : length c.args.bytes.now ≤ most_bytes = search rules in
    let asked = Ablate c.in-Ablate.off c.in-Ablate.slots in
    let due = ap (λ (k : Command). answer_of_bytes k c.args.bytes.now) c.in-Ablate.is
    ∙ image_due c.args.bytes.now asked tt few in
    subst (λ (d : Answer). Delivers d c.answer_off.result (state g.K.Sink c.args.out.now) (state g.K.Sink c.answer_off.new.out))
    (sym due) c.answer_off.ensures.delivers

pub returns-in-Harts-clause-delivers : goal.returns-in-Harts-clause-delivers
returns-in-Harts-clause-delivers g c =
    let few : length c.args.bytes.now ≤ most_bytes = search rules in
    let asked = Harts c.in-Harts.slots c.in-Harts.seed in
    let due = ap (λ (k : Command). answer_of_bytes k c.args.bytes.now) c.in-Harts.is
    ∙ image_due c.args.bytes.now asked tt few in
    subst (λ (d : Answer). Delivers d c.answer_run-in-Harts.result (state g.K.Sink c.args.out.now)
    (state g.K.Sink c.answer_run-in-Harts.new.out))
    (sym due) (c.answer_run-in-Harts.ensures.harts c.in-Harts.seed refl)

pub returns-in-Redact-clause-delivers : goal.returns-in-Redact-clause-delivers
returns-in-Redact-clause-delivers g c =
    let few : length c.args.bytes.now ≤ most_bytes = search rules in
    let due = ap (λ (k : Command). answer_of_bytes k c.args.bytes.now) c.in-Redact.is
    ∙ image_due c.args.bytes.now (Redact c.in-Redact.domain) tt few in
    subst (λ (d : Answer). Delivers d c.answer_redact.result (state g.K.Sink c.args.out.now)
    (state g.K.Sink c.answer_redact.new.out))
    (sym due) c.answer_redact.ensures.delivers

pub returns-in-Gen-clause-delivers : goal.returns-in-Gen-clause-delivers
returns-in-Gen-clause-delivers g c =
    subst (λ (due : Answer). Delivers due c.write_generated.result (state g.K.Sink c.args.out.now)
    (state g.K.Sink c.write_generated.new.out))
    (sym (ap (λ (k : Command). answer_of_bytes k c.args.bytes.now) c.in-Gen.is
    ∙ gen_due c.args.bytes.now c.in-Gen.seed)) c.write_generated.ensures.delivers

pub returns-in-Demo-clause-delivers : goal.returns-in-Demo-clause-delivers
returns-in-Demo-clause-delivers g c =
    subst (λ (due : Answer). Delivers due c.run_demo.result (state g.K.Sink c.args.out.now) (state g.K.Sink c.run_demo.new.out))
    (sym (ap (λ (k : Command). answer_of_bytes k c.args.bytes.now) c.in-Demo.is
    ∙ demo_due c.args.bytes.now c.in-Demo.seed)) c.run_demo.ensures.delivers
