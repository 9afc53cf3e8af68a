-- What a machine without products and divisions makes of a word.
use Rattle.rv_decode.proofs.WithoutMuldiv.{decode_of-without_muldiv}
use Rattle.rv_decode.proofs.table.words_without_muldiv.Goals as goal

pub returns : goal.returns
returns c = record { rest = decode_of-without_muldiv c.args.word }
