-- The law that both tables are one.
use Rattle.std.proofs.Common.{◌≡◌, Some}
use Rattle.rv_decode.specs.Table.{decode_of}
use Rattle.rv_decode.proofs.WordLaws.{decode_of-word}
use Rattle.rv_decode.proofs.table.words_decode.Goals as goal

pub returns-clause-some : goal.returns-clause-some
returns-clause-some c = λ instr h. decode_of-word c.args.muldiv instr c.args.word c.ranges.word.fits h

pub returns-clause-none : goal.returns-clause-none
returns-clause-none c = λ e instr h.
    let t : decode_of c.args.muldiv c.args.word ≡ Some instr = decode_of-word c.args.muldiv instr c.args.word c.ranges.word.fits h in cc
