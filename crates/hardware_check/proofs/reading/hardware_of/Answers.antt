use Rattle.std.proofs.Common.{rules}
use Rattle.image_record.specs.Models.{raw_model}
use Rattle.hardware_check.proofs.Parts.{fits, frames_natural, line_natural, predictor_natural, history_natural, some_line, natural_region, region_fits}
use Rattle.hardware_check.proofs.reading.hardware_of.Goals as goal

pub overflow_cast-result : goal.overflow_cast-result
overflow_cast-result c = let small = (fits (raw_model c.args.raw.now) c.requires.parts).frames in search (rules, small)

pub overflow_cast-result-3 : goal.overflow_cast-result-3
overflow_cast-result-3 c = let small = (fits (raw_model c.args.raw.now) c.requires.parts).line in search (rules, small)

pub overflow_cast-result-4 : goal.overflow_cast-result-4
overflow_cast-result-4 c = let small = (fits (raw_model c.args.raw.now) c.requires.parts).predictor in search (rules, small)

pub overflow_cast-result-5 : goal.overflow_cast-result-5
overflow_cast-result-5 c = let small = (fits (raw_model c.args.raw.now) c.requires.parts).history in search (rules, small)

pub costs_of-requires : goal.costs_of-requires
costs_of-requires c = record { ranges = (fits (raw_model c.args.raw.now) c.requires.parts).costs }

pub invariant_of-result : goal.invariant_of-result
invariant_of-result c =
    let few = (fits (raw_model c.args.raw.now) c.requires.parts).few_colours in
    record { few_colours = search (rules, few) }

pub natural_of-requires : goal.natural_of-requires
natural_of-requires c =
    let natural = frames_natural (raw_model c.args.raw.now) c.requires.parts.frames in
    record { natural = search (rules, natural) }

pub natural_of-requires-2 : goal.natural_of-requires-2
natural_of-requires-2 c =
    let i = raw_model c.args.raw.now in
    let natural = natural_region i.line i.shared (some_line i c.requires.parts) c.requires.region in
    record { natural = search (rules, natural) }

pub natural_of-requires-3 : goal.natural_of-requires-3
natural_of-requires-3 c =
    let natural = line_natural (raw_model c.args.raw.now) c.requires.parts.parts in
    record { natural = search (rules, natural) }

pub natural_of-requires-4 : goal.natural_of-requires-4
natural_of-requires-4 c =
    let natural = predictor_natural (raw_model c.args.raw.now) c.requires.parts.parts in
    record { natural = search (rules, natural) }

pub natural_of-requires-5 : goal.natural_of-requires-5
natural_of-requires-5 c =
    let natural = history_natural (raw_model c.args.raw.now) c.requires.parts.parts in
    record { natural = search (rules, natural) }

pub overflow_cast-result-2 : goal.overflow_cast-result-2
overflow_cast-result-2 c =
    let i = raw_model c.args.raw.now in
    let small = region_fits i.line i.shared c.requires.region in
    search (rules, small)
