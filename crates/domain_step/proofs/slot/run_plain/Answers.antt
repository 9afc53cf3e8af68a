-- One instruction more, and as much of the slot is left.
use Rattle.std.proofs.Common.{◌≡◌, ◌+◌, ◌≤◌, ◌^◌, ℕ, true, refl, sym, subst, ◌∙◌, arith}
use Rattle.domain_step.proofs.Moved.{plain_on, along_none, along_then, along_step}
use Rattle.mem_system.specs.Contents.{system}
use Rattle.domain_step.specs.Moves.{MovesAlong}
use Rattle.domain_step.proofs.Retired.{so_many, none_yet, one_more, all_retired, but_one}
use Rattle.domain_step.proofs.slot.run_plain.Goals as goal

pub loop-goes_on-init : goal.loop-goes_on-init
loop-goes_on-init g c = record {
  few = c.requires.few;
  soon = omega (arith, c.requires.before);
  begun = omega arith;
  some = λ same. refl;
  plain = λ goes. c.requires.plain;
  frames = refl;
  hierarchy = refl;
  pinned = refl;
  runs = c.requires.runs;
  more = omega arith;
  apart = omega arith;
  along = λ end.
      subst (λ (n : ℕ). MovesAlong g.P.Policy.rule g.P.Policy.stands_for end c.args.until n
      c.args.memory.now c.args.mail.now c.args.domain.now
      (system c.args.core.now c.args.l2.now) c.args.now c.args.memory.now c.args.mail.now c.args.domain.now
      (system c.args.core.now c.args.l2.now) c.args.now) (sym (none_yet c.args.domain.now true refl))
      (along_none g.P.Policy.rule g.P.Policy.stands_for end c.args.until c.args.memory.now c.args.mail.now c.args.domain.now
      (system c.args.core.now c.args.l2.now) c.args.now);
}

pub run-ran-requires : goal.run-ran-requires
run-ran-requires g c =
    let inv = c.loop-goes_on.invariant in
    record {
      frames = subst (λ (n : ℕ). n ≤ 2 ^ 15) (sym inv.frames) c.requires.frames;
      runs = inv.runs;
      plain = inv.plain c.loop-goes_on-test.true c.loop-goes_on.clock c.if-clock-until.true;
      early = omega (arith, c.if-clock-until.true, c.requires.until);
      few = inv.few;
    }

pub loop-goes_on-smaller : goal.loop-goes_on-smaller
loop-goes_on-smaller g c = omega (arith, c.run-ran.ensures.later, c.if-clock-until.true)

pub loop-goes_on-preserved : goal.loop-goes_on-preserved
loop-goes_on-preserved g c =
    let here = c.loop-goes_on in
    let inv = here.invariant in
    let ran = c.run-ran in
    let sum : so_many c.args.domain.now ran.new.domain ran.result.goes_on
    ≡ so_many c.args.domain.now here.domain here.goes_on + 1 =
    one_more c.args.domain.now here.domain ran.new.domain here.goes_on ran.result.goes_on c.loop-goes_on-test.true inv.more
    ran.ensures.retired in
    record {
      few = ran.ensures.few;
      soon = omega (arith, ran.ensures.soon, c.if-clock-until.true);
      begun = omega (arith, inv.begun, ran.ensures.later);
      some = λ same. absurd (omega (arith, same, inv.begun, ran.ensures.later));
      plain = λ goes t early.
          plain_on here.domain ran.new.domain t (ran.ensures.goes_on goes) (inv.plain c.loop-goes_on-test.true t early);
      frames = ran.ensures.frames ∙ inv.frames;
      hierarchy = ran.ensures.hierarchy ∙ inv.hierarchy;
      pinned = ran.ensures.pinned ∙ inv.pinned;
      runs = ran.ensures.runs;
      more = omega (arith, inv.more, ran.ensures.retired);
      apart = omega (arith, sum, inv.apart, ran.ensures.later);
      along = λ end.
          along_then g.P.Policy.rule g.P.Policy.stands_for end c.args.until c.args.memory.now here.memory ran.new.memory
          c.args.mail.now here.mail ran.new.mail
          c.args.domain.now here.domain ran.new.domain (system c.args.core.now c.args.l2.now)
          (system here.core here.l2) (system ran.new.core ran.new.l2)
          c.args.now here.clock ran.result.clock c.args.until (so_many c.args.domain.now here.domain here.goes_on) 1
          (so_many c.args.domain.now ran.new.domain ran.result.goes_on) (omega arith) sum (inv.along end)
          (along_step g.P.Policy.rule g.P.Policy.stands_for end c.args.until here.memory here.mail here.domain
          (system here.core here.l2) here.clock
          ran.new.memory ran.new.mail ran.new.domain (system ran.new.core ran.new.l2) ran.result.clock c.if-clock-until.true
          (ran.ensures.becomes end));
    }

pub returns-then-goes_on-clause-along : goal.returns-then-goes_on-clause-along
returns-then-goes_on-clause-along g c end =
    let here = c.loop-goes_on in
    let inv = here.invariant in
    subst (λ (n : ℕ). MovesAlong g.P.Policy.rule g.P.Policy.stands_for end c.args.until n
    c.args.memory.now c.args.mail.now c.args.domain.now
    (system c.args.core.now c.args.l2.now) c.args.now here.memory here.mail here.domain (system here.core here.l2) here.clock)
    (all_retired c.args.domain.now here.domain here.goes_on c.if-goes_on.true) (inv.along end)

pub returns-clause-along : goal.returns-clause-along
returns-clause-along g c end =
    let here = c.loop-goes_on in
    let inv = here.invariant in
    subst (λ (n : ℕ). MovesAlong g.P.Policy.rule g.P.Policy.stands_for end c.args.until n
    c.args.memory.now c.args.mail.now c.args.domain.now
    (system c.args.core.now c.args.l2.now) c.args.now here.memory here.mail here.domain (system here.core here.l2) here.clock)
    (but_one c.args.domain.now here.domain here.goes_on c.if-goes_on.false) (inv.along end)
