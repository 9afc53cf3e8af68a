use Rattle.std.proofs.Common.{◌≡◌, take, flat_map}
use Rattle.std.specs.Int.{to_le_bytes, w32}
use Rattle.image_gen.proofs.program.bytes_of.Given as goal

abbrev pub invariant-loop-word : goal.invariant-loop-word
invariant-loop-word l = l.bytes.items ≡ flat_map (to_le_bytes w32) (take l.word-index l.program)
