use Rattle.std.proofs.Common.{ap, ◌∙◌, ◌++◌, flat_map}
use Rattle.std.specs.Int.{to_le_bytes, w32}
use Rattle.std.proofs.lemmas.List.{take_all}
use Rattle.image_record.proofs.Loops.{no_value}
use Rattle.image_gen.proofs.Pieces.{mapped_more}
use Rattle.image_gen.proofs.program.bytes_of.Goals as goal

pub loop-word-init : goal.loop-word-init
loop-word-init c = c.new-bytes.ensures.items

pub returns-in_err-extend_from_slice : goal.returns-in_err-extend_from_slice
returns-in_err-extend_from_slice c = record { bytes = no_value c.from_residual.result _ c.from_residual.ensures.0 }

pub loop-word-preserved : goal.loop-word-preserved
loop-word-preserved c =
    mapped_more (to_le_bytes w32) c.args.program.now c.loop-word.word-index 0 c.loop-word.bytes.items _
    c.loop-word-test.true c.loop-word.invariant
    (c.in_ok-extend_from_slice.ensures.items ∙ ap (λ ys. c.loop-word.bytes.items ++ ys) c.to_le_bytes.ensures)

pub returns : goal.returns
returns c = record {
  bytes =
      c.loop-word.invariant
      ∙ ap (flat_map (to_le_bytes w32))
      (take_all c.loop-word.word-index c.args.program.now c.loop-word-test.false);
}
