use Rattle.std.proofs.Common.{rules, ◌≤◌, arith}
use Rattle.image_record.specs.Models.{raw_model}
use Rattle.hardware_check.proofs.Parts.{few_sets, short_line, few_bytes, l2_natural, line_natural}
use Rattle.hardware_check.proofs.rules.colours_in.Goals as goal

sets : (c : goal.After-natural_of-2) → c.natural_of.result ≤ 16384
sets c = let most = few_sets (raw_model c.args.raw.now) c.requires.parts in search (rules, most)

line : (c : goal.After-natural_of-2) → c.natural_of-2.result ≤ 128
line c = let most = short_line (raw_model c.args.raw.now) c.requires.parts in search (rules, most)

pub overflow_mul-result : goal.overflow_mul-result
overflow_mul-result c = let few = few_bytes c.natural_of.result c.natural_of-2.result (sets c) (line c) in omega (arith, few)

pub overflow_cast-result : goal.overflow_cast-result
overflow_cast-result c = let few = few_bytes c.natural_of.result c.natural_of-2.result (sets c) (line c) in omega (arith, few)

pub natural_of-requires : goal.natural_of-requires
natural_of-requires c = let natural = l2_natural (raw_model c.args.raw.now) c.requires.parts in record { natural = search (rules, natural) }

pub natural_of-requires-2 : goal.natural_of-requires-2
natural_of-requires-2 c =
    let natural = line_natural (raw_model c.args.raw.now) c.requires.parts in
    record { natural = search (rules, natural) }
