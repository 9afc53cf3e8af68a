use Rattle.image_record.specs.Models.{raw_model}
use Rattle.image_text.specs.Record.{image_of}
use Rattle.tp_words.specs.declared.Command.TheVariants.{Bound}
use Rattle.tp_answer.specs.Reading.{broken_for, record_for}
use Rattle.tp_answer.proofs.Accepting.{accepts_checked}
use Rattle.tp_answer.proofs.accept.accepted_but_pads.Goals as goal

pub returns-in-Ok : goal.returns-in-Ok
unfolding record_for broken_for
returns-in-Ok c = record {
  accepts =
      accepts_checked Bound (raw_model c.in-Ok.raw) (image_of c.args.bytes.now) c.check_but_pads.result
      c.in-Ok.ensures.found c.check_but_pads.ensures.refused c.check_but_pads.ensures.accepted
      c.check_but_pads.ensures.same;
}
