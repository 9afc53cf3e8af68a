-- What is given is zeroed.
use Rattle.std.proofs.Common.{rules, ◌≡◌, sym, subst}
use Rattle.phys_mem.specs.Contents.{Contents, zeroed}
use Rattle.phys_mem.specs.Mem.{zeroed_frame}
use Rattle.phys_mem.specs.Holds.{Holds}
use Rattle.phys_mem.proofs.HoldsLemmas.{holds-zeroed}
use Rattle.kernel_call.proofs.frames.given_of.Goals as goal

pub returns-then-b-eq0-clause-zeroed : goal.returns-then-b-eq0-clause-zeroed
returns-then-b-eq0-clause-zeroed c = λ m holds.
    let becomes : c.hold.new.memory ≡ zeroed c.args.memory.now c.args.frame = search rules in
    subst (λ (memory : Contents). Holds memory (zeroed_frame m c.args.frame)) (sym becomes)
    (holds-zeroed c.args.memory.now m c.args.frame c.requires.there holds)

pub returns-clause-zeroed : goal.returns-clause-zeroed
returns-clause-zeroed c = λ m holds.
    let becomes : c.table.new.memory ≡ zeroed c.args.memory.now c.args.frame = search rules in
    subst (λ (memory : Contents). Holds memory (zeroed_frame m c.args.frame)) (sym becomes)
    (holds-zeroed c.args.memory.now m c.args.frame c.requires.there holds)
