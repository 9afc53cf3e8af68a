use Rattle.std.proofs.Common.{refl, sym, ◌∙◌, ◌+◌}
use Rattle.domain_step.specs.Kept.{Kept}
use Rattle.domain_step.proofs.Accesses.{looked, translated, faulted, walk_there}
use Rattle.mem_system.specs.Contents.{system}
use Rattle.domain_step.proofs.access.translate.Goals as goal

pub returns-in-Ok-clause-finds : goal.returns-in-Ok-clause-finds
returns-in-Ok-clause-finds g c w caps d s r k =
    let K = Kept g.P.Policy.rule g.P.Policy.stands_for w caps c.args.root c.args.memory.now in
    let found = c.translate-found in
    let spent = c.args.spent.now + found.result.cycles in
    let keeps =
    looked g.P.Policy.rule g.P.Policy.stands_for w caps c.args.root c.args.memory.now c.args.access
    c.args.va c.args.spent.now spent found.result.cycles
    (system c.args.core.now c.args.l2.now) (system found.new.self found.new.l2) s r k refl
    (rw c.number.ensures.same at found.ensures.makes) (rw c.number.ensures.same at found.ensures.kept) in
    translated w c.args.root d c.args.access c.args.va s r (K (system found.new.self found.new.l2) spent) keeps c.in-Ok.at
    (sym c.in-Ok.is
    ∙ walk_there g.P.Policy.rule g.P.Policy.stands_for w caps c.args.root c.args.memory.now c.args.access
    c.args.va c.args.spent.now found.result.result (system c.args.core.now c.args.l2.now) s r k
    (rw c.number.ensures.same at found.ensures.result))

pub returns-in-Err-clause-finds : goal.returns-in-Err-clause-finds
returns-in-Err-clause-finds g c w caps d s r k =
    let K = Kept g.P.Policy.rule g.P.Policy.stands_for w caps c.args.root c.args.memory.now in
    let found = c.translate-found in
    let spent = c.args.spent.now + found.result.cycles in
    let keeps =
    looked g.P.Policy.rule g.P.Policy.stands_for w caps c.args.root c.args.memory.now c.args.access
    c.args.va c.args.spent.now spent found.result.cycles
    (system c.args.core.now c.args.l2.now) (system found.new.self found.new.l2) s r k refl
    (rw c.number.ensures.same at found.ensures.makes) (rw c.number.ensures.same at found.ensures.kept) in
    faulted w c.args.root d c.args.access c.args.va s r (K (system found.new.self found.new.l2) spent) keeps
    c.in-Err.fault (record { exception = c.fault_of.result; value = c.args.va })
    (sym c.in-Err.is
    ∙ walk_there g.P.Policy.rule g.P.Policy.stands_for w caps c.args.root c.args.memory.now c.args.access
    c.args.va c.args.spent.now found.result.result (system c.args.core.now c.args.l2.now) s r k
    (rw c.number.ensures.same at found.ensures.result)) (rw c.fault_of.ensures.value refl)
