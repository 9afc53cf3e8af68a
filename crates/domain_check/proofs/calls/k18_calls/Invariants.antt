use Rattle.std.proofs.Common.{◌≡◌, take, drop}
use Rattle.image_record.specs.Cases.{first_case, first_in}
use Rattle.domain_check.specs.Calls as spec
use Rattle.domain_check.proofs.calls.k18_calls.Given as goal

abbrev pub invariant-loop-place : goal.invariant-loop-place
invariant-loop-place l =
    first_case (spec.k18_call l.d) (take l.place l.calls) (drop l.place l.calls) ≡ first_in (spec.k18_call l.d) l.calls
