use Rattle.std.proofs.Common.{◌≡◌, take, drop}
use Rattle.image_record.specs.Cases.{first_case, first_in}
use Rattle.hardware_check.specs.Rules as spec
use Rattle.hardware_check.proofs.rules.first_dear.Given as goal

abbrev pub invariant-loop-place : goal.invariant-loop-place
invariant-loop-place l = first_case spec.k6_cost (take l.place l.costs) (drop l.place l.costs) ≡ first_in spec.k6_cost l.costs
