use Rattle.std.proofs.Common.{◌≡◌, ◌++◌, take, drop, map}
use Rattle.image_record.specs.Cases.{first_case, first_in}
use Rattle.image_record.specs.Numbers.{natural_of}
use Rattle.domain_check.specs.Colours as spec
use Rattle.domain_check.proofs.colours.k8_colours.Given as goal

abbrev pub invariant-loop-place : goal.invariant-loop-place
invariant-loop-place l =
    (first_case (spec.k8_colour l.colours l.d) (take l.place l.own) (drop l.place l.own) ≡ first_in (spec.k8_colour l.colours l.d) l.own)
    × (l.found.items ++ map natural_of (drop l.place l.own) ≡ map natural_of l.own)
