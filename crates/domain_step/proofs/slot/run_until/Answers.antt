use Rattle.std.proofs.Common.{◌+◌, ◌<◌, ◌≤◌, ◌^◌, ℕ, refl, ap, sym, subst, ◌∙◌, arith}
use Rattle.cycle_cost.specs.Costs.{CostTable}
use Rattle.domain_step.proofs.Moved.{along_none, along_then, along_step, along_whole, along_once}
use Rattle.mem_system.specs.Contents.{system}
use Rattle.domain_step.proofs.slot.run_until.Goals as goal

pub loop-clock-init : goal.loop-clock-init
loop-clock-init g c = record {
  few = c.requires.few;
  soon = λ h. omega (arith, h, c.requires.within);
  still = λ h. refl;
  frames = refl;
  hierarchy = refl;
  pinned = refl;
  runs = c.requires.runs;
  so_far =
      along_none g.P.Policy.rule g.P.Policy.stands_for c.args.end c.args.until c.args.memory.now c.args.mail.now c.args.domain.now
      (system c.args.core.now c.args.l2.now) c.args.now;
  apart = omega arith;
}

pub run_plain-ran-requires : goal.run_plain-ran-requires
run_plain-ran-requires g c =
    let inv = c.loop-clock.invariant in
    let plain = c.plain_until-plain.ensures in
    record {
      frames = subst (λ (n : ℕ). n ≤ 2 ^ 15) (sym inv.frames) c.requires.frames;
      runs = inv.runs;
      plain = plain.plain;
      before = c.if-clock-plain.true;
      until = omega (arith, plain.within, c.requires.within, c.requires.end);
      few = inv.few;
    }

-- no instruction comes next before `until`, so none before the end
pub wait_or_deliver-clock-requires : goal.wait_or_deliver-clock-requires
wait_or_deliver-clock-requires g c =
    let inv = c.loop-clock.invariant in
    let here = c.loop-clock-test.true in
    let other = c.plain_until-plain.ensures.other c.loop-clock.clock (omega (arith, c.if-clock-plain.false)) in
    record {
      runs = inv.runs;
      before = omega (arith, here, c.requires.within);
      end = c.requires.end;
      few = inv.few;
      other = λ plain. absurd (omega (arith, here, other plain));
    }

pub loop-clock-smaller-then-clock-plain : goal.loop-clock-smaller-then-clock-plain
loop-clock-smaller-then-clock-plain g c =
    omega (arith, c.run_plain-ran.ensures.later, c.loop-clock-test.true)

pub loop-clock-smaller : goal.loop-clock-smaller
loop-clock-smaller g c =
    omega (arith, c.wait_or_deliver-clock.ensures.later, c.loop-clock-test.true)

pub loop-clock-preserved-then-clock-plain : goal.loop-clock-preserved-then-clock-plain
loop-clock-preserved-then-clock-plain g c =
    let here = c.loop-clock in
    let inv = here.invariant in
    let ran = c.run_plain-ran in
    let within = c.plain_until-plain.ensures.within in
    record {
      few = ran.ensures.few;
      soon = λ h. omega (arith, ran.ensures.soon, within, c.requires.within);
      still = λ h. absurd (omega (arith, h, inv.still h, c.loop-clock-test.true));
      frames = ran.ensures.frames ∙ inv.frames;
      hierarchy = ran.ensures.hierarchy ∙ inv.hierarchy;
      pinned = ran.ensures.pinned ∙ inv.pinned;
      runs = ran.ensures.runs;
      so_far =
          along_then g.P.Policy.rule g.P.Policy.stands_for c.args.end c.args.until c.args.memory.now here.memory ran.new.memory
          c.args.mail.now here.mail ran.new.mail
          c.args.domain.now here.domain ran.new.domain (system c.args.core.now c.args.l2.now)
          (system here.core here.l2) (system ran.new.core ran.new.l2)
          c.args.now here.clock ran.result.clock c.plain_until-plain.result here.events ran.result.events
          (here.events + ran.result.events) within refl inv.so_far (ran.ensures.along c.args.end);
      apart = omega (arith, inv.apart, ran.ensures.apart);
    }

pub loop-clock-preserved : goal.loop-clock-preserved
loop-clock-preserved g c =
    let here = c.loop-clock in
    let inv = here.invariant in
    let next = c.wait_or_deliver-clock in
    record {
      few = next.ensures.few;
      soon = λ h. next.ensures.soon;
      still = λ h. absurd (omega (arith, h, inv.still h, c.loop-clock-test.true));
      frames = inv.frames;
      hierarchy = next.ensures.hierarchy ∙ inv.hierarchy;
      pinned = next.ensures.pinned ∙ inv.pinned;
      runs = next.ensures.runs;
      so_far =
          along_then g.P.Policy.rule g.P.Policy.stands_for c.args.end c.args.until c.args.memory.now here.memory here.memory
          c.args.mail.now here.mail here.mail
          c.args.domain.now here.domain next.new.domain (system c.args.core.now c.args.l2.now)
          (system here.core here.l2) (system next.new.core next.new.l2)
          c.args.now here.clock next.result c.args.until here.events 1 (here.events + 1) (omega arith) refl inv.so_far
          (along_step g.P.Policy.rule g.P.Policy.stands_for c.args.end c.args.until here.memory here.mail here.domain
          (system here.core here.l2) here.clock
          here.memory here.mail next.new.domain (system next.new.core next.new.l2) next.result c.loop-clock-test.true next.ensures.becomes);
      apart = omega (arith, inv.apart, next.ensures.later);
    }

pub returns : goal.returns
returns g c =
    let costs = c.costs-costs in
    let base : 0 < c.args.core.now.costs.base =
    subst (λ (n : ℕ). 0 < n) (ap (λ (t : CostTable). t.base) costs.ensures.table) costs.result.base_range.some in
    let trap : 0 < c.args.core.now.costs.trap =
    subst (λ (n : ℕ). 0 < n) (ap (λ (t : CostTable). t.trap) costs.ensures.table) costs.result.trap_range.some in
    let here = c.loop-clock in
    let inv = here.invariant in
    let over : c.args.until ≤ here.clock = omega (arith, c.loop-clock-test.false) in
    record {
      along = inv.so_far;
      once =
          along_once g.P.Policy.rule g.P.Policy.stands_for c.args.end c.args.until c.args.memory.now c.args.mail.now c.args.domain.now
          (system c.args.core.now c.args.l2.now) c.args.now base trap
          here.memory here.mail here.domain (system here.core here.l2) here.clock here.events inv.so_far over c.requires.within;
      whole =
          along_whole g.P.Policy.rule g.P.Policy.stands_for c.args.end c.args.until c.args.memory.now c.args.mail.now c.args.domain.now
          (system c.args.core.now c.args.l2.now) c.args.now base trap
          here.memory here.mail here.domain (system here.core here.l2) here.clock here.events inv.so_far over;
      frames = inv.frames;
      hierarchy = inv.hierarchy;
      pinned = inv.pinned;
      runs = inv.runs;
      few = inv.few;
      over = over;
      soon = inv.soon;
      done = inv.still;
      apart = inv.apart;
    }
