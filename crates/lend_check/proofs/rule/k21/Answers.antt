use Rattle.std.proofs.Common.{◌<◌, ◌^◌, length, map, arith}
use Rattle.std.proofs.lemmas.List.{length-map}
use Rattle.frame_colours.specs.Colours.{whole_of}
use Rattle.lend_check.specs.Models.{domain_model}
use Rattle.lend_check.proofs.Counts.{few}
use Rattle.lend_check.proofs.rule.k21.Goals as goal

pub k21_parties-requires : goal.k21_parties-requires
k21_parties-requires c =
    let domains = c.as_slice-domains.result.now in
    let size = c.as_slice-domains.type_inv.1 in
    let many : length (map domain_model domains) < 2 ^ 62 = omega (arith, size, length-map domains domain_model) in
    record {
      few = few (whole_of c.args.frames c.args.colours) (map domain_model domains) c.in_ok-k21_colours.ensures.verdict c.requires.few many;
    }
