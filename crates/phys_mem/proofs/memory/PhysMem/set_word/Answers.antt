-- A word that was written.
use Rattle.std.proofs.Common.{rules, ◌≡◌, sym, subst}
use Rattle.phys_mem.specs.Address.{frame_of, word_place}
use Rattle.phys_mem.specs.Contents.{Contents, with_word}
use Rattle.phys_mem.specs.Holds.{Holds}
use Rattle.phys_mem.specs.Mem.{written}
use Rattle.phys_mem.proofs.HoldsLemmas.{holds-with_word}
use Rattle.phys_mem.proofs.memory.PhysMem.set_word.Goals as goal

pub returns-clause-holds : goal.returns-clause-holds
returns-clause-holds c = λ mem holds.
    let becomes : c.put.new.self ≡ with_word c.args.self.now c.args.at c.args.word = search rules in
    subst (λ (memory : Contents). Holds memory (written mem (frame_of c.args.at) (word_place c.args.at) c.args.word)) (sym becomes)
    (holds-with_word c.args.self.now mem c.args.at c.args.word c.requires.within holds)
