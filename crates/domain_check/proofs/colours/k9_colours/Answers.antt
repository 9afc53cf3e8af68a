use Rattle.std.proofs.Common.{◌≡◌, rules, Some, pos, get_or, to_z, of_z, w64, length, map, sym, ap, ◌∙◌}
use Rattle.std.proofs.lemmas.List.{length-map}
use Rattle.image_record.specs.Parts.{domain_model}
use Rattle.image_record.specs.Cases.{refusal}
use Rattle.domain_check.specs.Colours.{same_colour, k9_colour}
use Rattle.image_record.proofs.Loops.{passed, found, ended}
use Rattle.domain_check.proofs.colours.k9_colours.Goals as goal

pub returns-in-Some : goal.returns-in-Some
returns-in-Some c =
    let domains = map domain_model c.args.earlier.now in
    let colours = c.args.colours.now in
    let k = c.loop-colour.colour-index in
    let x = to_z w64 (of_z w64 (get_or colours k (pos 0))) in
    let same : x ≡ get_or colours k (pos 0) = search rules in
    let numbers : Some (refusal 9 (pos (length c.args.earlier.now)) x (pos c.in-Some.e)) ≡ Some c.refusal.result = search rules in
    let told = ap (λ n. Some (refusal 9 (pos n) x (pos c.in-Some.e))) (length-map c.args.earlier.now domain_model) ∙ numbers in
    let here = ap (same_colour (length domains) x) (sym c.coloured_so.ensures.value ∙ c.in-Some.is) ∙ told in
    record { verdict = sym c.loop-colour.invariant ∙ found (k9_colour domains) colours k x (pos 0) _ c.loop-colour-test.true same here }

pub loop-colour-preserved : goal.loop-colour-preserved
loop-colour-preserved c =
    let domains = map domain_model c.args.earlier.now in
    let colours = c.args.colours.now in
    let k = c.loop-colour.colour-index in
    let x = to_z w64 (of_z w64 (get_or colours k (pos 0))) in
    let same : x ≡ get_or colours k (pos 0) = search rules in
    let here = ap (same_colour (length domains) x) (sym c.coloured_so.ensures.value ∙ c.in_default.is) in
    passed (k9_colour domains) colours k x (pos 0) c.loop-colour-test.true same here ∙ c.loop-colour.invariant

pub returns : goal.returns
returns c =
    let case = k9_colour (map domain_model c.args.earlier.now) in
    record { verdict = sym c.loop-colour.invariant ∙ ended case _ c.args.colours.now c.loop-colour.colour-index c.loop-colour-test.false }
