use Rattle.std.proofs.Common.{◌∙◌}
use Rattle.std.proofs.lemmas.Int.{to_z-of_z}
use Rattle.std.proofs.lemmas.List.{take_rest}
use Rattle.std.specs.Int.{w64}
use Rattle.image_text.proofs.Parts.{no_second, second_is}
use Rattle.image_text.proofs.reading.second_item.Goals as goal

pub returns-in-len1-up : goal.returns-in-len1-up
returns-in-len1-up c = record {
  value =
      to_z-of_z w64 c.first_item.result (record { sfits = c.first_item.type_inv })
      ∙ c.first_item.ensures.value
      ∙ second_is c.args.values.now _ (take_rest c.args.values.now 1) c.in-len1-up.len_at_least;
}

pub returns-in-empty : goal.returns-in-empty
returns-in-empty c = record { value = no_second c.args.values.now c.in-empty.len_below }
