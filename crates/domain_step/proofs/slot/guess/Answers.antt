use Rattle.std.proofs.Common.{refl, arith}
use Rattle.mem_system.specs.Cost.{Branch, Jump}
use Rattle.world_view.specs.Event.{guessed}
use Rattle.domain_step.specs.Kept.{Kept}
use Rattle.domain_step.proofs.Points.{Point}
use Rattle.domain_step.proofs.Instructions.{OneTouch, yields_touch, guesses_branch, guesses_jal, guesses_jalr, guessed_none}
use Rattle.mem_system.specs.Contents.{system}
use Rattle.domain_step.proofs.slot.guess.Goals as goal

pub returns-in_default : goal.returns-in_default
returns-in_default g c = record {
  finds = λ w l2 caps root memory d s r k.
      let p : Point =
      record { setting = w; clock = 0; root = root; dom = d; storage = s; reached = r } in
      let K =
      Kept g.P.Policy.rule g.P.Policy.stands_for w caps root memory (system c.args.core.now l2)
      c.args.spent.now in
      guessed_none p K c.args.instr c.args.pc c.args.effect k c.in_default.not-Branch
      c.in_default.not-Jal c.in_default.not-Jalr;
  buffer = refl;
  few = omega arith;
}

pub returns-in-Branch-clause-finds : goal.returns-in-Branch-clause-finds
returns-in-Branch-clause-finds g c w l2 caps root memory d s r k =
    let p : Point =
    record { setting = w; clock = 0; root = root; dom = d; storage = s; reached = r } in
    let once : OneTouch _ = record {
      touch = Branch c.args.pc c.args.effect.taken c.args.effect.next;
      before = (system c.args.core.now l2);
      later = system c.branch-spent.new.self l2;
      spent = c.args.spent.now;
      cycles = c.branch-spent.result;
    } in
    yields_touch g.P.Policy.rule g.P.Policy.stands_for p caps memory once
    (guessed c.args.instr c.args.pc c.args.effect)
    (guesses_branch c.args.instr c.args.pc c.args.effect c.in-Branch.is)
    (c.branch-spent.ensures.makes l2) c.branch-spent.ensures.buffer k

pub returns-in-Jal-clause-finds : goal.returns-in-Jal-clause-finds
returns-in-Jal-clause-finds g c w l2 caps root memory d s r k =
    let p : Point =
    record { setting = w; clock = 0; root = root; dom = d; storage = s; reached = r } in
    let once : OneTouch _ = record {
      touch = Jump c.args.pc c.args.effect.next;
      before = (system c.args.core.now l2);
      later = system c.jump.new.self l2;
      spent = c.args.spent.now;
      cycles = c.jump.result;
    } in
    yields_touch g.P.Policy.rule g.P.Policy.stands_for p caps memory once
    (guessed c.args.instr c.args.pc c.args.effect)
    (guesses_jal c.args.instr c.args.pc c.args.effect c.in-Jal.is)
    (c.jump.ensures.makes l2) c.jump.ensures.buffer k

pub returns-in-Jalr-clause-finds : goal.returns-in-Jalr-clause-finds
returns-in-Jalr-clause-finds g c w l2 caps root memory d s r k =
    let p : Point =
    record { setting = w; clock = 0; root = root; dom = d; storage = s; reached = r } in
    let once : OneTouch _ = record {
      touch = Jump c.args.pc c.args.effect.next;
      before = (system c.args.core.now l2);
      later = system c.jump-in-Jalr.new.self l2;
      spent = c.args.spent.now;
      cycles = c.jump-in-Jalr.result;
    } in
    yields_touch g.P.Policy.rule g.P.Policy.stands_for p caps memory once
    (guessed c.args.instr c.args.pc c.args.effect)
    (guesses_jalr c.args.instr c.args.pc c.args.effect c.in-Jalr.is)
    (c.jump-in-Jalr.ensures.makes l2) c.jump-in-Jalr.ensures.buffer k
