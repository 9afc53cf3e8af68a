use Rattle.std.proofs.Common.{refl, true}
use Rattle.toml.specs.View.{view, items_view}
use Rattle.image_text.specs.Rows as rows
use Rattle.image_text.specs.Rows.{all_items}
use Rattle.image_text.proofs.Loops.{holds, fails, ended}
use Rattle.image_text.proofs.kinds.all_fit.Goals as goal

pub loop-value-preserved : goal.loop-value-preserved
loop-value-preserved c =
    holds (λ vs. all_items (rows.fits_one c.args.simple) (items_view vs))
    (λ v. rows.fits_one c.args.simple (view v)) c.args.values.now c.loop-value.value-index
    c.value-item.result c.value-item.result c.loop-value-test.true c.value-item.is (λ y ys. refl)
    c.if-not-fits_one.ensures.value c.loop-value.invariant

pub returns-then-not-fits_one : goal.returns-then-not-fits_one
returns-then-not-fits_one c = record {
  value =
      fails (λ vs. all_items (rows.fits_one c.args.simple) (items_view vs))
      (λ v. rows.fits_one c.args.simple (view v)) c.args.values.now c.loop-value.value-index
      c.value-item.result c.value-item.result c.loop-value-test.true c.value-item.is (λ y ys. refl)
      c.if-not-fits_one.ensures.value c.loop-value.invariant;
}

pub returns : goal.returns
returns c = record {
  value =
      ended (λ vs. all_items (rows.fits_one c.args.simple) (items_view vs)) true c.args.values.now
      c.loop-value.value-index c.loop-value-test.false refl c.loop-value.invariant;
}
