use Rattle.image_record.specs.Models.{raw_model}
use Rattle.image_text.specs.Record.{image_of}
use Rattle.tp_words.specs.declared.Command.TheVariants.{Check, Run, Alone, Ablate, Harts, Redact}
use Rattle.tp_answer.specs.Reading.{broken_for, record_for}
use Rattle.tp_answer.proofs.Accepting.{accepts_checked}
use Rattle.tp_answer.proofs.accept.accepted.Goals as goal

pub returns-in-Ok : goal.returns-in-Ok
unfolding record_for broken_for
returns-in-Ok c = record {
  check =
      accepts_checked Check (raw_model c.in-Ok.raw) (image_of c.args.bytes.now) c.check.result
      c.in-Ok.ensures.found c.check.ensures.refused c.check.ensures.accepted c.check.ensures.same;
  alone =
      λ d n. accepts_checked (Alone d n) (raw_model c.in-Ok.raw) (image_of c.args.bytes.now) c.check.result
      c.in-Ok.ensures.found c.check.ensures.refused c.check.ensures.accepted c.check.ensures.same;
  ablate =
      λ off n. accepts_checked (Ablate off n) (raw_model c.in-Ok.raw) (image_of c.args.bytes.now)
      c.check.result c.in-Ok.ensures.found c.check.ensures.refused c.check.ensures.accepted
      c.check.ensures.same;
  harts =
      λ n s. accepts_checked (Harts n s) (raw_model c.in-Ok.raw) (image_of c.args.bytes.now) c.check.result
      c.in-Ok.ensures.found c.check.ensures.refused c.check.ensures.accepted c.check.ensures.same;
  redact =
      λ d. accepts_checked (Redact d) (raw_model c.in-Ok.raw) (image_of c.args.bytes.now) c.check.result
      c.in-Ok.ensures.found c.check.ensures.refused c.check.ensures.accepted c.check.ensures.same;
  run =
      λ n. accepts_checked (Run n) (raw_model c.in-Ok.raw) (image_of c.args.bytes.now) c.check.result
      c.in-Ok.ensures.found c.check.ensures.refused c.check.ensures.accepted c.check.ensures.same;
}
