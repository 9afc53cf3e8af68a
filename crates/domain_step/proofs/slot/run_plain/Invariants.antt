use Rattle.std.proofs.Common.{◌≡◌, ◌+◌, ◌<◌, ◌≤◌, ◌-◌, ℕ, true}
use Rattle.cycle_cost.specs.Ranges.{most_event}
use Rattle.kernel_call.specs.Models.{CountsUpTo}
use Rattle.mem_system.specs.Contents.{system, hierarchy_of}
use Rattle.domain_step.specs.Stands.{IsPlain}
use Rattle.domain_step.specs.Moves.{Runs, MovesAlong}
use Rattle.domain_step.proofs.Retired.{so_many}
use Rattle.domain_step.proofs.slot.run_plain.Given as goal

abbrev pub invariant-loop-goes_on : goal.invariant-loop-goes_on
invariant-loop-goes_on g l = record {
  few : CountsUpTo l.clock l.domain;
  soon : l.clock < l.until + most_event;
  begun : l.now ≤ l.clock;
  some : l.clock ≡ l.now → l.goes_on ≡ true;
  plain : l.goes_on ≡ true → (t : ℕ) → t < l.until → IsPlain l.domain t;
  frames : l.memory.frames ≡ l.fn.memory.frames;
  hierarchy : hierarchy_of g.P.Policy.rule (system l.core l.l2)
      ≡ hierarchy_of g.P.Policy.rule (system l.fn.core l.fn.l2);
  pinned : l.core.pinned ≡ l.fn.core.pinned;
  runs : Runs g.P.Policy.rule g.P.Policy.stands_for l.memory l.mail l.domain (system l.core l.l2) l.clock;
  more : l.fn.domain.retired ≤ l.domain.retired;
  apart : l.now + so_many l.fn.domain l.domain l.goes_on ≤ l.clock;
  along : (end : ℕ) → MovesAlong g.P.Policy.rule g.P.Policy.stands_for end l.until (so_many l.fn.domain l.domain l.goes_on)
      l.fn.memory l.fn.mail l.fn.domain (system l.fn.core l.fn.l2) l.now l.memory l.mail l.domain (system l.core l.l2) l.clock;
}

abbrev pub decreases-loop-goes_on : goal.decreases-loop-goes_on
decreases-loop-goes_on g l = l.until - l.clock
