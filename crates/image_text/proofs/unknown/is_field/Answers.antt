use Rattle.std.proofs.Common.{refl, false, map, sym, ◌∙◌}
use Rattle.std.specs.Str.{bytes_eq}
use Rattle.image_text.specs.Models.{field_model}
use Rattle.image_text.specs.Unknown as unknown
use Rattle.image_text.proofs.Loops.{other, found, ended}
use Rattle.image_text.proofs.unknown.is_field.Goals as goal

pub loop-field-preserved : goal.loop-field-preserved
loop-field-preserved c =
    other (λ fs. unknown.is_field (map field_model fs) c.args.key.now)
    (λ f. bytes_eq f.key.now c.args.key.now) c.args.fields.now c.loop-field.field-index _ _
    c.loop-field-test.true refl (λ y ys. refl) (sym c.if-eq.false ∙ c.eq.ensures) c.loop-field.invariant

pub returns-then-eq : goal.returns-then-eq
returns-then-eq c = record {
  value =
      found (λ fs. unknown.is_field (map field_model fs) c.args.key.now)
      (λ f. bytes_eq f.key.now c.args.key.now) c.args.fields.now c.loop-field.field-index _ _
      c.loop-field-test.true refl (λ y ys. refl) (sym c.if-eq.true ∙ c.eq.ensures) c.loop-field.invariant;
}

pub returns : goal.returns
returns c = record {
  value =
      ended (λ fs. unknown.is_field (map field_model fs) c.args.key.now) false c.args.fields.now
      c.loop-field.field-index c.loop-field-test.false refl c.loop-field.invariant;
}
