use Rattle.std.proofs.Common.{◌≡◌, rules, pos, to_z, of_z, w64, ap, ◌∙◌, arith}
use Rattle.image_record.specs.Parts.{entry_model}
use Rattle.image_record.specs.Cases.{outside}
use Rattle.image_record.specs.Numbers.{natural_of}
use Rattle.image_record.proofs.Ranges.{most_inside, natural_inside}
use Rattle.schedule_check.proofs.EntryCases.{entry_is}
use Rattle.schedule_check.proofs.harts.entry_from.Goals as goal

pub natural_of-requires : goal.natural_of-requires
natural_of-requires c =
    let x = c.args.text.now.domain in
    let same : to_z w64 (of_z w64 x) ≡ x = search rules in
    record { natural = natural_inside 0 255 (to_z w64 (of_z w64 x)) (ap (outside (pos 0) (pos 255)) same ∙ c.requires.small.domain) }

pub overflow_cast-result : goal.overflow_cast-result
overflow_cast-result c =
    let x = c.args.text.now.domain in
    let same : to_z w64 (of_z w64 x) ≡ x = search rules in
    let most = most_inside 0 255 x c.requires.small.domain in
    let is : c.natural_of.result ≡ natural_of x = c.natural_of.ensures.value ∙ ap natural_of same in
    record { fits = omega (arith, most, is) }

pub natural_of-requires-2 : goal.natural_of-requires-2
natural_of-requires-2 c =
    let x = c.args.text.now.length in
    let same : to_z w64 (of_z w64 x) ≡ x = search rules in
    record {
      natural =
          natural_inside 0 1000000 (to_z w64 (of_z w64 x))
          (ap (outside (pos 0) (pos 1000000)) same ∙ c.requires.small.length);
    }

pub overflow_cast-result-2 : goal.overflow_cast-result-2
overflow_cast-result-2 c =
    let x = c.args.text.now.length in
    let same : to_z w64 (of_z w64 x) ≡ x = search rules in
    let most = most_inside 0 1000000 x c.requires.small.length in
    let is : c.natural_of-2.result ≡ natural_of x = c.natural_of-2.ensures.value ∙ ap natural_of same in
    record { fits = omega (arith, most, is) }

pub natural_of-requires-3 : goal.natural_of-requires-3
natural_of-requires-3 c =
    let x = c.args.text.now.pad in
    let same : to_z w64 (of_z w64 x) ≡ x = search rules in
    record { natural = natural_inside 0 1000000 (to_z w64 (of_z w64 x)) (ap (outside (pos 0) (pos 1000000)) same ∙ c.requires.small.pad) }

pub overflow_cast-result-3 : goal.overflow_cast-result-3
overflow_cast-result-3 c =
    let x = c.args.text.now.pad in
    let same : to_z w64 (of_z w64 x) ≡ x = search rules in
    let most = most_inside 0 1000000 x c.requires.small.pad in
    let is : c.natural_of-3.result ≡ natural_of x = c.natural_of-3.ensures.value ∙ ap natural_of same in
    record { fits = omega (arith, most, is) }

pub natural_of-requires-4 : goal.natural_of-requires-4
natural_of-requires-4 c =
    let x = c.args.text.now.hart in
    let same : to_z w64 (of_z w64 x) ≡ x = search rules in
    record { natural = natural_inside 0 3 (to_z w64 (of_z w64 x)) (ap (outside (pos 0) (pos 3)) same ∙ c.requires.small.hart) }

pub overflow_cast-result-4 : goal.overflow_cast-result-4
overflow_cast-result-4 c =
    let x = c.args.text.now.hart in
    let same : to_z w64 (of_z w64 x) ≡ x = search rules in
    let most = most_inside 0 3 x c.requires.small.hart in
    let is : c.natural_of-4.result ≡ natural_of x = c.natural_of-4.ensures.value ∙ ap natural_of same in
    record { fits = omega (arith, most, is) }

pub returns : goal.returns
returns c =
    let e = entry_model c.args.text.now in
    let domain : to_z w64 (of_z w64 e.domain) ≡ e.domain = search rules in
    let length : to_z w64 (of_z w64 e.length) ≡ e.length = search rules in
    let pad : to_z w64 (of_z w64 e.pad) ≡ e.pad = search rules in
    let hart : to_z w64 (of_z w64 e.hart) ≡ e.hart = search rules in
    record {
      value =
          entry_is e _ _ _ _ (c.natural_of.ensures.value ∙ ap natural_of domain) (c.natural_of-2.ensures.value ∙ ap natural_of length)
          (c.natural_of-3.ensures.value ∙ ap natural_of pad) (c.natural_of-4.ensures.value ∙ ap natural_of hart);
    }
