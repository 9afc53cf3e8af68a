use Rattle.std.proofs.Common.{refl, true, map}
use Rattle.toml.specs.View.{table_view}
use Rattle.image_text.specs.Models.{field_model}
use Rattle.image_text.specs.Rows as rows
use Rattle.image_text.proofs.Loops.{holds, fails, ended}
use Rattle.image_text.proofs.kinds.has_all.Goals as goal

pub loop-field-preserved : goal.loop-field-preserved
loop-field-preserved c =
    holds (λ fs. rows.has_all (map field_model fs) (table_view c.args.table.now))
    (λ f. rows.has_field (field_model f) (table_view c.args.table.now)) c.args.fields.now
    c.loop-field.field-index _ _ c.loop-field-test.true refl (λ y ys. refl)
    c.if-not-has_field.ensures.value c.loop-field.invariant

pub returns-then-not-has_field : goal.returns-then-not-has_field
returns-then-not-has_field c = record {
  value =
      fails (λ fs. rows.has_all (map field_model fs) (table_view c.args.table.now))
      (λ f. rows.has_field (field_model f) (table_view c.args.table.now)) c.args.fields.now
      c.loop-field.field-index _ _ c.loop-field-test.true refl (λ y ys. refl)
      c.if-not-has_field.ensures.value c.loop-field.invariant;
}

pub returns : goal.returns
returns c = record {
  value =
      ended (λ fs. rows.has_all (map field_model fs) (table_view c.args.table.now)) true c.args.fields.now
      c.loop-field.field-index c.loop-field-test.false refl c.loop-field.invariant;
}
