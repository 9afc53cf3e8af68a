use Rattle.std.proofs.Common.{sym, ap, ◌∙◌, arith}
use Rattle.rv_core.specs.Memory.{misalignment_of}
use Rattle.kernel_call.specs.Models.{dom_model}
use Rattle.domain_step.specs.Kept.{Kept}
use Rattle.domain_step.proofs.Points.{Point}
use Rattle.domain_step.proofs.Instructions.{execute_misaligned, execute_faulted, execute_settled}
use Rattle.mem_system.specs.Contents.{system}
use Rattle.domain_step.proofs.slot.execute.Goals as goal

pub loaded-requires : goal.loaded-requires
loaded-requires g c = record {
  address = c.address-at.ensures.address;
  aligned = sym c.in_default.ensures.trap;
  frames = c.requires.frames;
  leaves = c.requires.leaves;
  spent = omega (arith, c.requires.spent);
}

pub settle-requires : goal.settle-requires
settle-requires g c = record {
  registers = c.requires.registers;
  room = c.requires.room;
  frames = c.requires.frames;
  leaves = c.in-Ok.ensures.leaves;
  spent = omega (arith, c.requires.spent, c.in-Ok.ensures.few);
}

pub returns-in-Some-clause-leaves : goal.returns-in-Some-clause-leaves
returns-in-Some-clause-leaves g c w s r readings replies k h q =
    let d = dom_model c.args.domain.now readings replies in
    let p : Point =
    record { setting = w; clock = c.args.begun.now.clock; root = c.args.begun.now.root; dom = d; storage = s; reached = r } in
    let K = Kept g.P.Policy.rule g.P.Policy.stands_for w c.args.domain.now.caps p.root in
    let i = c.args.begun.now.instr in
    let misaligned =
    ap (misalignment_of i) (sym c.address-at.ensures.address) ∙ sym c.in-Some.ensures.trap in
    execute_misaligned p (K c.args.memory.now (system c.args.core.now c.args.l2.now) c.args.spent.now) i
    c.stop.new.domain k
    c.in-Some.trap misaligned (c.stop.ensures.becomes readings replies h q)

pub returns-in-Ok-clause-leaves : goal.returns-in-Ok-clause-leaves
returns-in-Ok-clause-leaves g c w s r readings replies k h q =
    let caps = c.args.domain.now.caps in
    let d = dom_model c.args.domain.now readings replies in
    let p : Point =
    record { setting = w; clock = c.args.begun.now.clock; root = c.args.begun.now.root; dom = d; storage = s; reached = r } in
    let K = Kept g.P.Policy.rule g.P.Policy.stands_for w caps p.root in
    let i = c.args.begun.now.instr in
    let aligned =
    ap (misalignment_of i) (sym c.address-at.ensures.address) ∙ sym c.in_default.ensures.trap in
    execute_settled p (K c.args.memory.now (system c.args.core.now c.args.l2.now) c.args.spent.now) i c.settle.new.domain
    k
    c.in-Ok.value (K c.args.memory.now (system c.loaded.new.core c.loaded.new.l2) c.loaded.new.spent)
    (K c.settle.new.memory (system c.settle.new.core c.settle.new.l2) c.settle.new.spent) aligned
    (λ u z n. c.in-Ok.ensures.finds w caps u z readings replies n)
    (λ u z n. c.settle.ensures.leaves w u z readings replies n h q)

pub returns-in-Err-clause-leaves : goal.returns-in-Err-clause-leaves
returns-in-Err-clause-leaves g c w s r readings replies k h q =
    let caps = c.args.domain.now.caps in
    let d = dom_model c.args.domain.now readings replies in
    let p : Point =
    record { setting = w; clock = c.args.begun.now.clock; root = c.args.begun.now.root; dom = d; storage = s; reached = r } in
    let K = Kept g.P.Policy.rule g.P.Policy.stands_for w caps p.root in
    let i = c.args.begun.now.instr in
    let aligned =
    ap (misalignment_of i) (sym c.address-at.ensures.address) ∙ sym c.in_default.ensures.trap in
    execute_faulted p (K c.args.memory.now (system c.args.core.now c.args.l2.now) c.args.spent.now) i
    c.stop-in-Err.new.domain k
    (K c.args.memory.now (system c.loaded.new.core c.loaded.new.l2) c.loaded.new.spent) c.in-Err.trap aligned
    (λ u z n. c.in-Err.ensures.finds w caps u z readings replies n)
    (c.stop-in-Err.ensures.becomes readings replies h q)
