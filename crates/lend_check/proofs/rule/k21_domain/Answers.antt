use Rattle.std.proofs.Common.{map, take}
use Rattle.frame_colours.specs.Colours.{whole_of}
use Rattle.lend_check.specs.Lending.{said, lent_by}
use Rattle.lend_check.specs.Models.{domain_model}
use Rattle.lend_check.specs.Rule.{k21_colour}
use Rattle.lend_check.proofs.Firsts.{in_after}
use Rattle.lend_check.proofs.rule.k21_domain.Goals as goal

pub loop-place-init : goal.loop-place-init
loop-place-init c =
    in_after (k21_colour (whole_of c.args.frames c.args.colours) (map domain_model c.args.domains.now))
    (said (map domain_model (take c.args.d c.args.domains.now))) (lent_by c.args.d c.args.lend.now)
