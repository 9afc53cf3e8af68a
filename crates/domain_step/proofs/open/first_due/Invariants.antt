use Rattle.std.proofs.Common.{◌≡◌, option_map}
use Rattle.domain_step.specs.OpenSlot.{first_among, owned}
use Rattle.domain_step.proofs.open.first_due.Given as goal

abbrev pub invariant-loop-owner : goal.invariant-loop-owner
invariant-loop-owner l = record { so_far : option_map owned l.first ≡ first_among l.now l.domains l.owner }
