use Rattle.std.proofs.Common.{refl}
use Rattle.hart_set.proofs.off.share_clone.Goals as goal

pub bounds-domains-0 : goal.bounds-domains-0
bounds-domains-0 c = c.requires.some

pub bounds-domains-0-then-not-is_on : goal.bounds-domains-0-then-not-is_on
bounds-domains-0-then-not-is_on c x = c.requires.some

pub returns-then-not-is_on-clause-kept : goal.returns-then-not-is_on-clause-kept
returns-then-not-is_on-clause-kept c other = absurd (other (c.is_on.ensures.off c.if-not-is_on.true))

pub returns-else-not-is_on : goal.returns-else-not-is_on
returns-else-not-is_on c = record {
  kept = λ other. refl;
  shared = λ x shares first. absurd (c.is_on.ensures.on c.if-not-is_on.false shares);
}
