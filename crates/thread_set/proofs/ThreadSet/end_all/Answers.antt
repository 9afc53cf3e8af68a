use Rattle.std.proofs.Common.{arith, rules, ◌∙◌, ap, ℕ, ◌≤◌, length}
use Rattle.thread_set.specs.declared.ThreadSet.{ThreadSet}
use Rattle.thread_set.proofs.Parts.{seen}
use Rattle.thread_set.proofs.Ended.{none-ended, seen-ended}
use Rattle.thread_set.proofs.ThreadSet.end_all.Goals as goal

pub loop-t-init : goal.loop-t-init
loop-t-init c = record { others = none-ended c.args.self.now.others; active = c.ended-self.ensures.ended; number = search rules }

pub returns : goal.returns
returns c =
    let s : ThreadSet = c.args.self.now in
    let e : ThreadSet = c.loop-t.self in
    let past : length s.others ≤ c.loop-t.t = omega (arith, c.loop-t-test.false, s.eight) in
    record {
      ended = ap (λ (n : ℕ). seen n e.others e.active) c.loop-t.invariant.number
          ∙ seen-ended s.number c.loop-t.t s.others e.others s.active e.active c.loop-t.invariant.others past c.loop-t.invariant.active;
    }
