use Rattle.set_cache.proofs.Places.{IsClean-none}
use Rattle.l1_cache.proofs.instructions.L1I.new.Goals as goal

pub invariant_of-result : goal.invariant_of-result
invariant_of-result g c = IsClean-none c.in_ok-cache.cache c.in_ok-cache.ensures.made.none
