use Rattle.std.proofs.Common.{◌≡◌, rules, refl, Some, pos, to_z, of_z, w64, ℕ, ◌<◌, ◌^◌, sym, ap, ap₂, ◌∙◌, arith}
use Rattle.std.specs.Prelude.{not}
use Rattle.image_record.specs.Cases.{refusal, outside}
use Rattle.image_record.specs.Numbers.{natural_of}
use Rattle.image_record.proofs.Ranges.{natural_inside, most_inside}
use Rattle.hardware_check.specs.declared.hardware.Policy.{Policy}
use Rattle.hardware_check.specs.Hardware.{CacheShape, policy_of, cache_shape_of}
use Rattle.hardware_check.specs.Rules.{ways_case, is_policy}
use Rattle.hardware_check.proofs.Verdicts.{met, unmet}
use Rattle.hardware_check.proofs.rules.ways_case.Goals as goal

pub returns-then-outside-clause-verdict : goal.returns-then-outside-clause-verdict
unfolding ways_case
returns-then-outside-clause-verdict c =
    let ways = c.args.cache.now.ways in
    let same : to_z w64 (of_z w64 ways) ≡ ways = search rules in
    let out = ap (outside (pos 1) (pos 16)) (sym same) ∙ sym c.if-outside.ensures.value in
    let told : Some (refusal 3 (pos c.args.part) ways (pos 2)) ≡ Some c.refusal.result = search rules in
    met _ _ _ _ out told

pub returns-in_default-clause-verdict : goal.returns-in_default-clause-verdict
unfolding ways_case
returns-in_default-clause-verdict c =
    let ways = c.args.cache.now.ways in
    let same : to_z w64 (of_z w64 ways) ≡ ways = search rules in
    let out = ap (outside (pos 1) (pos 16)) (sym same) ∙ sym c.if-outside.ensures.value in
    let unknown = ap (λ s. not (is_policy s)) (sym c.as_str.ensures.value) ∙ ap not (sym c.in_default.ensures.known) in
    let told : Some (refusal 3 (pos c.args.part) ways (pos 3)) ≡ Some c.refusal-in_default.result = search rules in
    unmet _ _ _ _ out (met _ _ _ _ unknown told)

pub returns-then-is_uneven_tree-clause-verdict : goal.returns-then-is_uneven_tree-clause-verdict
unfolding ways_case
returns-then-is_uneven_tree-clause-verdict c =
    let ways = c.args.cache.now.ways in
    let same : to_z w64 (of_z w64 ways) ≡ ways = search rules in
    let out = ap (outside (pos 1) (pos 16)) (sym same) ∙ sym c.if-outside.ensures.value in
    let known = ap (λ s. not (is_policy s)) (sym c.as_str.ensures.value) ∙ ap not (sym c.in-Some.ensures.known) in
    let told : Some (refusal 3 (pos c.args.part) ways (pos 4)) ≡ Some c.refusal-then-is_uneven_tree.result = search rules in
    unmet _ _ _ _ out (unmet _ _ _ _ known (met _ _ _ _ (sym c.if-is_uneven_tree.ensures.value) told))

pub returns-clause-verdict : goal.returns-clause-verdict
unfolding ways_case
returns-clause-verdict c =
    let ways = c.args.cache.now.ways in
    let same : to_z w64 (of_z w64 ways) ≡ ways = search rules in
    let out = ap (outside (pos 1) (pos 16)) (sym same) ∙ sym c.if-outside.ensures.value in
    let known = ap (λ s. not (is_policy s)) (sym c.as_str.ensures.value) ∙ ap not (sym c.in-Some.ensures.known) in
    unmet _ _ _ _ out (unmet _ _ _ _ known (unmet _ _ _ _ (sym c.if-is_uneven_tree.ensures.value) refl))

pub natural_of-requires : goal.natural_of-requires
natural_of-requires c = record {
  natural = natural_inside 1 16 (to_z w64 (of_z w64 c.args.cache.now.ways)) (sym c.if-outside.ensures.value);
}

pub overflow_cast-result : goal.overflow_cast-result
overflow_cast-result c =
    let most = most_inside 1 16 (to_z w64 (of_z w64 c.args.cache.now.ways)) (sym c.if-outside.ensures.value) in
    let small : c.natural_of.result < 2 ^ 32 = omega (arith, most, c.natural_of.ensures.value) in
    search (rules, small)

shape : ℕ → ℕ → Policy → CacheShape
shape sets ways policy = record { sets = sets; ways = ways; policy = policy }

same_shape : {s t v w : ℕ} {p q : Policy} → s ≡ t → v ≡ w → p ≡ q → shape s v p ≡ shape t w q
same_shape {p = p} {q = q} sets ways policy = ap₂ (λ (f : Policy → CacheShape) r. f r) (ap₂ shape sets ways) policy

pub returns-clause-value : goal.returns-clause-value
unfolding cache_shape_of shape
returns-clause-value c =
    let ways = c.args.cache.now.ways in
    let same : to_z w64 (of_z w64 ways) ≡ ways = search rules in
    same_shape c.requires.sets (c.natural_of.ensures.value ∙ ap natural_of same)
    (c.in-Some.ensures.value ∙ ap policy_of c.as_str.ensures.value)
