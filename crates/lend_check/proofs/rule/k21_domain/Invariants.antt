use Rattle.std.proofs.Common.{◌≡◌, ◌++◌, take, drop, map}
use Rattle.frame_colours.specs.Colours.{whole_of}
use Rattle.image_record.specs.Cases.{first_case}
use Rattle.lend_check.specs.Lending.{said, lent_by}
use Rattle.lend_check.specs.Models.{domain_model}
use Rattle.lend_check.specs.Rule as spec
use Rattle.lend_check.proofs.rule.k21_domain.Given as goal

abbrev pub invariant-loop-place : goal.invariant-loop-place
invariant-loop-place l =
    let case = spec.k21_colour (whole_of l.frames l.colours) (map domain_model l.domains) in
    let before = said (map domain_model (take l.d l.domains)) in
    first_case (λ es x. case (before ++ es) x) (lent_by l.d (take l.place l.lend)) (lent_by l.d (drop l.place l.lend))
    ≡ first_case case before (lent_by l.d l.lend)
