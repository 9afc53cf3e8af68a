use Rattle.std.proofs.Common.{◌≡◌, take, drop, map}
use Rattle.frame_colours.specs.Colours.{whole_of}
use Rattle.image_record.specs.Parts.{domain_model}
use Rattle.image_record.specs.Cases.{first_case, first_in}
use Rattle.domain_check.specs.Colours as spec
use Rattle.domain_check.proofs.colours.k10_domains.Given as goal

abbrev pub invariant-loop-d : goal.invariant-loop-d
invariant-loop-d l =
    first_case (spec.k10_domain (whole_of l.frames l.colours)) (map domain_model (take l.d l.domains))
    (map domain_model (drop l.d l.domains))
    ≡ first_in (spec.k10_domain (whole_of l.frames l.colours)) (map domain_model l.domains)
