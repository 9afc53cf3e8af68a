use Rattle.std.proofs.Common.{refl, false, map}
use Rattle.image_text.specs.Models.{row_model}
use Rattle.image_text.specs.Unknown as unknown
use Rattle.image_text.proofs.Loops.{other, found, ended}
use Rattle.image_text.proofs.unknown.is_known.Goals as goal

pub loop-row-preserved : goal.loop-row-preserved
loop-row-preserved c =
    other (λ rs. unknown.is_known c.args.version c.args.place (map row_model rs) c.args.key.now)
    (λ r. unknown.names c.args.version c.args.place (row_model r) c.args.key.now) c.args.rows.now
    c.loop-row.row-index _ _ c.loop-row-test.true refl (λ y ys. refl) c.if-names.ensures.value
    c.loop-row.invariant

pub returns-then-names : goal.returns-then-names
returns-then-names c = record {
  value =
      found (λ rs. unknown.is_known c.args.version c.args.place (map row_model rs) c.args.key.now)
      (λ r. unknown.names c.args.version c.args.place (row_model r) c.args.key.now) c.args.rows.now
      c.loop-row.row-index _ _ c.loop-row-test.true refl (λ y ys. refl) c.if-names.ensures.value
      c.loop-row.invariant;
}

pub returns : goal.returns
returns c = record {
  value =
      ended (λ rs. unknown.is_known c.args.version c.args.place (map row_model rs) c.args.key.now) false
      c.args.rows.now c.loop-row.row-index c.loop-row-test.false refl c.loop-row.invariant;
}
