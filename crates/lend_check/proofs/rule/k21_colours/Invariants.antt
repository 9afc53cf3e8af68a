use Rattle.std.proofs.Common.{◌≡◌, take, drop, map}
use Rattle.frame_colours.specs.Colours.{whole_of}
use Rattle.image_record.specs.Cases.{first_case, first_in}
use Rattle.lend_check.specs.Lending.{said, lent_from}
use Rattle.lend_check.specs.Models.{domain_model}
use Rattle.lend_check.specs.Rule as spec
use Rattle.lend_check.proofs.rule.k21_colours.Given as goal

abbrev pub invariant-loop-d : goal.invariant-loop-d
invariant-loop-d l =
    let case = spec.k21_colour (whole_of l.frames l.colours) (map domain_model l.domains) in
    first_case case (said (map domain_model (take l.d l.domains))) (lent_from l.d (map domain_model (drop l.d l.domains)))
    ≡ first_in case (said (map domain_model l.domains))
