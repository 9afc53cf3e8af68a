use Rattle.std.proofs.Common.{◌≡◌, take, drop, map}
use Rattle.image_record.specs.Parts.{domain_model}
use Rattle.image_record.specs.Cases.{first_case, first_in}
use Rattle.domain_check.specs.Colours as spec
use Rattle.domain_check.proofs.colours.k9_colours.Given as goal

abbrev pub invariant-loop-colour : goal.invariant-loop-colour
invariant-loop-colour l =
    first_case (spec.k9_colour (map domain_model l.earlier)) (take l.colour-index l.colours) (drop l.colour-index l.colours)
    ≡ first_in (spec.k9_colour (map domain_model l.earlier)) l.colours
