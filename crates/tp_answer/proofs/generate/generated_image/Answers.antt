use Rattle.std.proofs.Common.{◌∙◌, ap, arith}
use Rattle.image_gen.proofs.Kept.{accepted_law}
use Rattle.image_gen.specs.Generated.{generated}
use Rattle.image_text.specs.Record.{image_of}
use Rattle.tp_answer.proofs.Accepting.{accepting_made, accepting_unbroken, checks_unbroken}
use Rattle.tp_answer.proofs.generate.generated_image.Goals as goal

pub returns-in-Ok : goal.returns-in-Ok
returns-in-Ok c =
    let s = c.args.seed in
    let found =
    checks_unbroken _ (generated s)
    (ap image_of c.as_bytes.ensures.value ∙ rw c.from.ensures at c.in-Ok.ensures.reads)
    (accepted_law s (omega arith)) in
    record {
      made = accepting_made c.accepted.result _ (generated s) found c.accepted.ensures.check;
      never_broken = accepting_unbroken c.accepted.result _ (generated s) found c.accepted.ensures.check;
    }
