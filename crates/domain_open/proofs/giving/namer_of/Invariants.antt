use Rattle.std.proofs.Common.{◌≡◌, ℕ, ◌<◌, None}
use Rattle.image_check.specs.Models.{own_model}
use Rattle.image_check.specs.Own.{cap_at}
use Rattle.domain_open.specs.Giving.{page_at}
use Rattle.domain_open.proofs.giving.namer_of.Given as goal

abbrev pub invariant-loop-slot : goal.invariant-loop-slot
invariant-loop-slot l = (i : ℕ) → i < l.slot → page_at (own_model l.own).segments l.place (cap_at (own_model l.own) i) ≡ None
