use Rattle.std.proofs.Common.{arith}
use Rattle.domain_step.proofs.Instructions.{finish_read, finish_other}
use Rattle.domain_step.proofs.instruction.finish.Goals as goal

pub returns-in-ReadCounter-clause-becomes : goal.returns-in-ReadCounter-clause-becomes
returns-in-ReadCounter-clause-becomes c =
    rw c.in-ReadCounter.is
    (finish_read c.args.next c.args.value c.args.domain.now c.retire.new.domain c.in-ReadCounter.counter
    c.in-ReadCounter.rd c.read_out.new.domain c.read_out.ensures.becomes c.retire.ensures.becomes)

pub returns : goal.returns
returns c = record {
  becomes =
      finish_other c.args.next c.args.value c.args.domain.now c.retire-2.new.domain c.args.instr
      c.in_default.not-ReadCounter c.retire-2.ensures.becomes;
  grows =
      let g = c.retire-2.ensures.grows in
      let few = g.readings in
      record { retired = g.retired; readings = omega (arith, few); replies = g.replies };
  keeps = c.retire-2.ensures.keeps;
  goes_on = c.retire-2.ensures.goes_on;
}
