use Rattle.std.proofs.Common.{◌≡◌, ◌+◌, ◌<◌, ◌≤◌, ◌-◌}
use Rattle.kernel_call.specs.Models.{CountsUpTo}
use Rattle.mem_system.specs.Contents.{system, hierarchy_of}
use Rattle.cycle_cost.specs.Ranges.{most_event}
use Rattle.domain_step.specs.Moves.{Runs, MovesAlong}
use Rattle.domain_step.proofs.slot.run_until.Given as goal

abbrev pub invariant-loop-clock : goal.invariant-loop-clock
invariant-loop-clock g l = record {
  few : CountsUpTo l.clock l.domain;
  soon : l.now < l.until → l.clock < l.end + most_event;
  still : l.until ≤ l.now → l.clock ≡ l.now;
  frames : l.memory.frames ≡ l.fn.memory.frames;
  hierarchy : hierarchy_of g.P.Policy.rule (system l.core l.l2)
      ≡ hierarchy_of g.P.Policy.rule (system l.fn.core l.fn.l2);
  pinned : l.core.pinned ≡ l.fn.core.pinned;
  runs : Runs g.P.Policy.rule g.P.Policy.stands_for l.memory l.mail l.domain (system l.core l.l2) l.clock;
  so_far : MovesAlong g.P.Policy.rule g.P.Policy.stands_for l.end l.until l.events l.fn.memory l.fn.mail l.fn.domain
      (system l.fn.core l.fn.l2) l.now l.memory l.mail l.domain (system l.core l.l2) l.clock;
  apart : l.now + l.events ≤ l.clock;
}

abbrev pub decreases-loop-clock : goal.decreases-loop-clock
decreases-loop-clock g l = l.until - l.clock
