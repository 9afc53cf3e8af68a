use Rattle.std.proofs.Common.{◌≡◌, ◌-◌, ◌+◌, ◌<◌, ◌≤◌, length}
use Rattle.cycle_cost.specs.Ranges.{most_event}
use Rattle.domain_step.specs.OpenSlot.{CountUpTo, Stands}
use Rattle.domain_step.proofs.Opens.{OpensAlong}
use Rattle.mem_system.specs.Contents.{system}
use Rattle.domain_step.proofs.open.open_slot.Given as goal

abbrev pub invariant-loop-clock : goal.invariant-loop-clock
invariant-loop-clock l = record {
  same : length l.domains ≡ length l.fn.domains;
  few : CountUpTo l.clock l.domains;
  over : l.now ≤ l.clock;
  soon : l.now < l.end → l.clock < l.end + most_event;
  still : l.end ≤ l.now → l.clock ≡ l.now;
  stands : Stands l.d l.memory l.mail (system l.core l.l2) l.domains l.clock;
  so_far : OpensAlong l.d l.end l.fn.memory l.fn.mail (system l.fn.core l.fn.l2) l.fn.domains l.now l.memory l.mail
      (system l.core l.l2) l.domains
      l.clock;
}

abbrev pub decreases-loop-clock : goal.decreases-loop-clock
decreases-loop-clock l = l.end - l.clock
