-- A frame that was zeroed.
use Rattle.std.proofs.Common.{arith, rules, ◌≡◌, ◌∙◌, ap, sym, subst}
use Rattle.phys_mem.specs.Contents.{Contents, word_of, zeroed}
use Rattle.phys_mem.specs.Mem.{zeroed_frame}
use Rattle.phys_mem.specs.Holds.{Holds}
use Rattle.phys_mem.proofs.FrameLemmas.{word_of-zeroed_same, word_of-zeroed_other}
use Rattle.phys_mem.proofs.HoldsLemmas.{holds-zeroed}
use Rattle.phys_mem.proofs.memory.PhysMemZero.zero_frame.Goals as goal

pub returns-clause-zero : goal.returns-clause-zero
returns-clause-zero c = λ i.
    let becomes : c.give_slot.new.self ≡ zeroed c.args.self.now c.args.frame = search rules in
    ap (λ (memory : Contents). word_of memory c.args.frame i) becomes
    ∙ word_of-zeroed_same c.args.self.now c.args.frame i (omega arith)

pub returns-clause-others : goal.returns-clause-others
returns-clause-others c = λ f i apart.
    let becomes : c.give_slot.new.self ≡ zeroed c.args.self.now c.args.frame = search rules in
    ap (λ (memory : Contents). word_of memory f i) becomes
    ∙ word_of-zeroed_other c.args.self.now c.args.frame f i (omega arith) apart

pub returns-clause-holds : goal.returns-clause-holds
returns-clause-holds c = λ mem holds.
    let becomes : c.give_slot.new.self ≡ zeroed c.args.self.now c.args.frame = search rules in
    subst (λ (memory : Contents). Holds memory (zeroed_frame mem c.args.frame)) (sym becomes)
    (holds-zeroed c.args.self.now mem c.args.frame c.requires.within holds)
