use Rattle.std.proofs.Common.{◌≡◌, rules, refl, to_z, of_z, w64, Option, sym, ap, subst, ◌∙◌}
use Rattle.image_record.specs.declared.refusal.Refusal.{Refusal}
use Rattle.image_record.specs.Numbers.{natural_of}
use Rattle.image_record.specs.Outcomes.{IsVerdict}
use Rattle.image_record.specs.Parts.{cache_model}
use Rattle.image_record.proofs.Loops.{refused, no_value}
use Rattle.hardware_check.specs.Rules.{size_case, ways_case, cache_case}
use Rattle.hardware_check.proofs.Verdicts.{past, here}
use Rattle.hardware_check.proofs.rules.cache_case.Goals as goal

pub returns-in_err-sets : goal.returns-in_err-sets
unfolding cache_case
returns-in_err-sets c =
    let x = c.args.cache.now.sets in
    let same : x ≡ to_z w64 (of_z w64 x) = search rules in
    let case = here _ _ _ (ap (size_case c.args.part 1 c.args.most_sets) same ∙ c.in_err-sets.ensures.verdict) in
    record {
      verdict = refused c.from_residual.result _ _ c.from_residual.ensures.1 case;
      value = no_value c.from_residual.result _ c.from_residual.ensures.0;
    }

pub ways_case-requires : goal.ways_case-requires
ways_case-requires c =
    let x = c.args.cache.now.sets in
    let same : to_z w64 (of_z w64 x) ≡ x = search rules in
    record { sets = c.in_ok-sets.ensures.value ∙ ap natural_of same }

pub returns-clause-verdict : goal.returns-clause-verdict
unfolding cache_case
returns-clause-verdict c =
    let x = c.args.cache.now.sets in
    let same : x ≡ to_z w64 (of_z w64 x) = search rules in
    let rest = ways_case c.args.part (cache_model c.args.cache.now) in
    let case = past _ rest _ (ap (size_case c.args.part 1 c.args.most_sets) same ∙ c.in_ok-sets.ensures.verdict) refl in
    subst (λ (o : Option Refusal). IsVerdict c.ways_case.result o) (sym case) c.ways_case.ensures.verdict

pub returns-clause-value : goal.returns-clause-value
returns-clause-value c = c.ways_case.ensures.value
