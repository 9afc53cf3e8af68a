use Rattle.std.proofs.Common.{◌∙◌, arith}
use Rattle.domain_step.proofs.Opens.{along_more, along_over, stands_on}
use Rattle.mem_system.specs.Contents.{system}
use Rattle.domain_step.proofs.open.open_slot.Goals as goal

pub loop-clock-preserved : goal.loop-clock-preserved
loop-clock-preserved c =
    let here = c.loop-clock in
    let inv = here.invariant in
    let next = c.step_among-clock in
    record {
      same = next.ensures.same ∙ inv.same;
      few = next.ensures.few;
      over = omega (arith, inv.over, next.ensures.later);
      soon = λ h. next.ensures.soon;
      still = λ h. absurd (omega (arith, h, inv.still h, c.loop-clock-test.true));
      stands =
          stands_on c.args.d here.memory next.new.memory here.mail next.new.mail
          (system here.core here.l2) (system next.new.core next.new.l2) here.domains next.new.domains
          here.clock next.result c.args.end next.ensures.becomes inv.stands;
      so_far =
          along_more c.args.d c.args.end c.args.memory.now here.memory next.new.memory
          c.args.mail.now here.mail next.new.mail (system c.args.core.now c.args.l2.now)
          (system here.core here.l2) (system next.new.core next.new.l2)
          c.args.domains.now here.domains next.new.domains c.args.now here.clock next.result
          c.loop-clock-test.true inv.so_far next.ensures.becomes;
    }

pub step_among-clock-requires : goal.step_among-clock-requires
step_among-clock-requires c =
    let inv = c.loop-clock.invariant in
    record {
      domain = omega (arith, c.requires.domain, inv.same);
      stands = inv.stands;
      before = c.loop-clock-test.true;
      end = c.requires.end;
      few = inv.few;
    }

pub loop-clock-smaller : goal.loop-clock-smaller
loop-clock-smaller c = omega (arith, c.loop-clock-test.true, c.step_among-clock.ensures.later)

pub returns : goal.returns
returns c =
    let here = c.loop-clock in
    record {
      becomes =
          along_over c.args.d c.args.end c.args.memory.now here.memory c.args.mail.now here.mail
          (system c.args.core.now c.args.l2.now) (system here.core here.l2)
          c.args.domains.now here.domains
          c.args.now here.clock here.invariant.so_far c.loop-clock-test.false;
      few = here.invariant.few;
      same = here.invariant.same;
      over = here.invariant.over;
      past = omega (arith, c.loop-clock-test.false);
      soon = here.invariant.soon;
      done = here.invariant.still;
    }
