use Rattle.std.proofs.Common.{◌≡◌, take, drop}
use Rattle.image_record.specs.Cases.{first_case, first_in}
use Rattle.schedule_check.specs.Harts as spec
use Rattle.schedule_check.proofs.harts.k19_domains.Given as goal

abbrev pub invariant-loop-place : goal.invariant-loop-place
invariant-loop-place l = first_case spec.k19_domain (take l.place l.entries) (drop l.place l.entries) ≡ first_in spec.k19_domain l.entries
