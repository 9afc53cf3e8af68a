use Rattle.std.proofs.Common.{◌∙◌}
use Rattle.std.proofs.lemmas.Int.{to_z-of_z}
use Rattle.std.specs.Int.{w64}
use Rattle.image_text.proofs.Parts.{no_first, first_is}
use Rattle.image_text.proofs.reading.first_item.Goals as goal

pub returns-in-len1-up : goal.returns-in-len1-up
returns-in-len1-up c = record {
  value = to_z-of_z w64 c.integer_of.result (record { sfits = c.integer_of.type_inv })
      ∙ c.integer_of.ensures.value
      ∙ first_is c.args.values.now c.first-item.result c.first-item.result c.in-len1-up.len_at_least
      c.first-item.is;
}

pub returns-in-empty : goal.returns-in-empty
returns-in-empty c = record { value = no_first c.args.values.now c.in-empty.len_below }
