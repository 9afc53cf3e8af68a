use Rattle.std.proofs.Common.{◌≡◌, ◌<◌, rules, to_z, of_z, w64, Some, length, map, ap, ◌∙◌, arith}
use Rattle.std.proofs.lemmas.List.{length-map}
use Rattle.image_record.specs.Numbers.{natural_of}
use Rattle.lend_check.specs.Parties.{child_number}
use Rattle.lend_check.specs.Models.{domain_model, entry_model}
use Rattle.lend_check.proofs.Numbers.{own_entry, childs_entry}
use Rattle.lend_check.proofs.parties.entry_number.Goals as goal

pub returns-in-None : goal.returns-in-None
returns-in-None c =
    let domains = map domain_model c.args.domains.now in
    let e = entry_model c.args.entry.now in
    let there : natural_of e.domain < length domains =
    omega (arith, c.requires.domain.there, length-map c.args.domains.now domain_model) in
    let same : to_z w64 (of_z w64 e.domain) ≡ e.domain = search rules in
    let number = c.natural_of-domain.ensures.value ∙ ap natural_of same in
    record { value = ap Some c.new.ensures.value ∙ own_entry domains e c.natural_of-domain.result number there c.in-None.is }

pub returns-in-Some : goal.returns-in-Some
returns-in-Some c =
    let domains = map domain_model c.args.domains.now in
    let e = entry_model c.args.entry.now in
    let d = c.natural_of-domain.result in
    let x = c.in-Some.colour in
    let same : to_z w64 (of_z w64 e.domain) ≡ e.domain = search rules in
    let colour : to_z w64 (of_z w64 x) ≡ x = search rules in
    let number = c.natural_of-domain.ensures.value ∙ ap natural_of same in
    record {
      value =
          c.child_number.ensures.value ∙ ap (child_number domains d) colour
          ∙ childs_entry domains e d x number c.in-Some.is;
    }
