use Rattle.std.proofs.Common.{arith}
use Rattle.kernel_call.specs.Models.{dom_model}
use Rattle.domain_step.specs.Kept.{Kept}
use Rattle.domain_step.proofs.Points.{Point}
use Rattle.domain_step.proofs.Instructions.{loaded_load, loaded_counter, loaded_other}
use Rattle.mem_system.specs.Contents.{system}
use Rattle.domain_step.proofs.slot.loaded.Goals as goal

pub returns-in-Load-clause-finds : goal.returns-in-Load-clause-finds
returns-in-Load-clause-finds g c w caps s r readings replies k =
    let d = dom_model c.args.domain.now readings replies in
    let p : Point =
    record { setting = w; clock = c.args.begun.now.clock; root = c.args.begun.now.root; dom = d; storage = s; reached = r } in
    let K = Kept g.P.Policy.rule g.P.Policy.stands_for w caps p.root c.args.memory.now in
    loaded_load p (K (system c.load.new.core c.load.new.l2) c.load.new.spent) c.args.begun.now.instr c.args.at c.load.result
    c.in-Load.is
    c.requires.address (c.load.ensures.finds w caps d s r k)

pub returns-in-ReadCounter-clause-finds : goal.returns-in-ReadCounter-clause-finds
returns-in-ReadCounter-clause-finds g c w caps s r readings replies k =
    let d = dom_model c.args.domain.now readings replies in
    let p : Point =
    record { setting = w; clock = c.args.begun.now.clock; root = c.args.begun.now.root; dom = d; storage = s; reached = r } in
    let K = Kept g.P.Policy.rule g.P.Policy.stands_for w caps p.root c.args.memory.now in
    loaded_counter p (K (system c.args.core.now c.args.l2.now) c.args.spent.now) c.args.begun.now.instr c.counter_value.result k
    c.in-ReadCounter.is
    (c.counter_value.ensures.value readings replies)

pub returns-in_default : goal.returns-in_default
returns-in_default g c = record {
  finds = λ w caps s r readings replies k.
      let d = dom_model c.args.domain.now readings replies in
      let p : Point =
      record { setting = w; clock = c.args.begun.now.clock; root = c.args.begun.now.root; dom = d; storage = s; reached = r } in
      let K = Kept g.P.Policy.rule g.P.Policy.stands_for w caps p.root c.args.memory.now in
      loaded_other p (K (system c.args.core.now c.args.l2.now) c.args.spent.now) c.args.begun.now.instr k c.in_default.not-Load
      c.in_default.not-ReadCounter;
  leaves = c.requires.leaves;
  few = omega arith;
}
