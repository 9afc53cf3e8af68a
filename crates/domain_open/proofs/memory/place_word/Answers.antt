-- A word that stands there already.
use Rattle.std.proofs.Common.{◌∙◌, sym}
use Rattle.phys_mem.specs.Address.{frame_of, word_place}
use Rattle.domain_open.proofs.Loading.{holds_kept}
use Rattle.domain_open.proofs.memory.place_word.Goals as goal

pub returns-then-read_word-word-clause-placed : goal.returns-then-read_word-word-clause-placed
returns-then-read_word-word-clause-placed c = λ m holds.
    holds_kept c.args.memory.now m (frame_of c.args.at) (word_place c.args.at) c.args.word holds
    (sym c.if-read_word-word.true ∙ c.read_word.ensures.holds m holds)
