use Rattle.image_record.specs.Models.{raw_model}
use Rattle.image_check.proofs.Kept.{kept_before_pads, domains_within}
use Rattle.image_check.proofs.unpadded.later_of.Goals as goal

pub k19-requires : goal.k19-requires
k19-requires c =
    let i = raw_model c.args.raw.now in
    let rules = kept_before_pads i c.requires.before in
    record { domains = (domains_within i rules.domains).most; schedule = rules.schedule }

pub k20-requires : goal.k20-requires
k20-requires c =
    let i = raw_model c.args.raw.now in
    record { domains = (domains_within i (kept_before_pads i c.requires.before).domains).most }
