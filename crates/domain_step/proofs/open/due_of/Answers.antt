use Rattle.domain_step.proofs.Moments.{due_is}
use Rattle.domain_step.proofs.open.due_of.Goals as goal

pub returns : goal.returns
returns c = record {
  due = due_is c.args.owner c.in_ok-at.at c.in_ok-line.line c.args.now c.args.domain.now.interrupts
      c.in_ok-at.ensures.next c.in_ok-line.ensures.due;
}
