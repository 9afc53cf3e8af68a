-- A half that was written.
use Rattle.std.proofs.Common.{arith, rules, ◌≡◌, ◌∙◌, ap, subst, ℕ, ◌%◌}
use Rattle.phys_mem.specs.Address.{frame_of, word_place}
use Rattle.phys_mem.specs.Mem.{written}
use Rattle.phys_mem.specs.Holds.{Holds}
use Rattle.phys_mem.specs.Bytes.{half_in, with_half_in}
use Rattle.phys_mem.specs.Contents.{word_at}
use Rattle.phys_mem.proofs.ByteLemmas.{half_in-with_same, half_place, other_halves}
use Rattle.phys_mem.proofs.memory.PhysMem.write_half.Goals as goal

pub returns-clause-stored : goal.returns-clause-stored
returns-clause-stored c =
    let stored : word_at c.set_word.new.self c.args.at
    ≡ with_half_in (word_at c.args.self.now c.args.at) (c.args.at % 4) c.args.half =
    search rules in
    ap (λ (word : ℕ). half_in word (c.args.at % 4)) stored
    ∙ half_in-with_same (word_at c.args.self.now c.args.at) (c.args.at % 4) c.args.half
    (half_place c.args.at c.requires.aligned) (omega arith)

pub returns-clause-bytes : goal.returns-clause-bytes
returns-clause-bytes c =
    let stored : word_at c.set_word.new.self c.args.at
    ≡ with_half_in (word_at c.args.self.now c.args.at) (c.args.at % 4) c.args.half =
    search rules in
    other_halves c.args.self.now c.set_word.new.self c.args.at c.args.half c.requires.aligned (omega arith) stored c.set_word.ensures.words

pub returns-clause-holds : goal.returns-clause-holds
returns-clause-holds c = λ mem holds.
    subst (λ (value : ℕ). Holds c.set_word.new.self (written mem (frame_of c.args.at) (word_place c.args.at) value))
    (c.with_half_of.ensures.value ∙ ap (λ (word : ℕ). with_half_in word (c.args.at % 4) c.args.half) (c.word-word.ensures.holds mem holds))
    (c.set_word.ensures.holds mem holds)
