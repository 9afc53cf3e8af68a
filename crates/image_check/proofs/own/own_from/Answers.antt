use Rattle.std.proofs.Common.{sym, subst}
use Rattle.std.specs.List.{All}
use Rattle.domain_check.specs.Capabilities.{IsSmallCap}
use Rattle.domain_check.specs.Models.{named_model}
use Rattle.domain_check.proofs.Slots.{all_of_map}
use Rattle.image_check.proofs.own.own_from.Goals as goal

pub caps_from-requires : goal.caps_from-requires
caps_from-requires c =
    let all = subst (All IsSmallCap) (sym c.requires.part.caps) c.requires.small.caps in
    let small = all_of_map IsSmallCap named_model c.args.part.caps.items all in
    record { small = subst (All (λ n. IsSmallCap (named_model n))) (sym c.as_slice.ensures.value) small }
