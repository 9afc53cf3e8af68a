use Rattle.std.proofs.Common.{refl, true}
use Rattle.toml.specs.View.{view, items_view}
use Rattle.image_text.specs.Rows as rows
use Rattle.image_text.specs.Rows.{all_items}
use Rattle.image_text.proofs.Loops.{holds, fails, ended}
use Rattle.image_text.proofs.kinds.all_pairs.Goals as goal

pub loop-value-preserved : goal.loop-value-preserved
loop-value-preserved c =
    holds (λ vs. all_items rows.is_pair_value (items_view vs)) (λ v. rows.is_pair_value (view v))
    c.args.values.now c.loop-value.value-index c.value-item.result c.value-item.result
    c.loop-value-test.true c.value-item.is (λ y ys. refl) c.if-not-is_pair.ensures.value
    c.loop-value.invariant

pub returns-then-not-is_pair : goal.returns-then-not-is_pair
returns-then-not-is_pair c = record {
  value =
      fails (λ vs. all_items rows.is_pair_value (items_view vs)) (λ v. rows.is_pair_value (view v))
      c.args.values.now c.loop-value.value-index c.value-item.result c.value-item.result
      c.loop-value-test.true c.value-item.is (λ y ys. refl) c.if-not-is_pair.ensures.value
      c.loop-value.invariant;
}

pub returns : goal.returns
returns c = record {
  value =
      ended (λ vs. all_items rows.is_pair_value (items_view vs)) true c.args.values.now
      c.loop-value.value-index c.loop-value-test.false refl c.loop-value.invariant;
}
