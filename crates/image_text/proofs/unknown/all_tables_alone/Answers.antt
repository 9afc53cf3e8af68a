use Rattle.std.proofs.Common.{refl, true}
use Rattle.std.specs.Prelude.{is_some, ◌||◌}
use Rattle.toml.specs.Data.{as_table}
use Rattle.toml.specs.View.{view, items_view}
use Rattle.image_text.specs.Rows.{all_items}
use Rattle.image_text.specs.Unknown as unknown
use Rattle.image_text.proofs.Loops.{holds, fails, ended}
use Rattle.image_text.proofs.unknown.all_tables_alone.Goals as goal

pub loop-value-preserved : goal.loop-value-preserved
loop-value-preserved c =
    holds (λ vs. all_items (λ d. is_some (as_table d) || unknown.no_key d) (items_view vs))
    (λ v. is_some (as_table (view v)) || unknown.no_key (view v)) c.args.values.now
    c.loop-value.value-index c.value-item.result c.value-item.result c.loop-value-test.true
    c.value-item.is (λ y ys. refl) c.if-not-is_table_or_holds_no_key.ensures.value c.loop-value.invariant

pub returns-then-not-is_table_or_holds_no_key : goal.returns-then-not-is_table_or_holds_no_key
returns-then-not-is_table_or_holds_no_key c = record {
  value =
      fails (λ vs. all_items (λ d. is_some (as_table d) || unknown.no_key d) (items_view vs))
      (λ v. is_some (as_table (view v)) || unknown.no_key (view v)) c.args.values.now
      c.loop-value.value-index c.value-item.result c.value-item.result c.loop-value-test.true
      c.value-item.is (λ y ys. refl) c.if-not-is_table_or_holds_no_key.ensures.value c.loop-value.invariant;
}

pub returns : goal.returns
returns c = record {
  value =
      ended (λ vs. all_items (λ d. is_some (as_table d) || unknown.no_key d) (items_view vs)) true
      c.args.values.now c.loop-value.value-index c.loop-value-test.false refl c.loop-value.invariant;
}
