-- The upper word of a product of a signed word and another.
use Rattle.std.proofs.Common.{◌*ℤ◌, ◌∙◌}
use Rattle.rv_core.specs.Products.{upper_word}
use Rattle.rv_core.proofs.Words.{signed-again}
use Rattle.rv_core.proofs.ProductLaws.{handed, upper-signed, upper-mixed, fits-signed, fits-half_signed}
use Rattle.rv_core.proofs.products.compute_product.Goals as goal

pub returns-in-High : goal.returns-in-High
returns-in-High c =
    let f = c.ranges.a.fits in
    let g = c.ranges.b.fits in
    let x = signed-again c.args.a c.cast_signed.result c.from.result f c.cast_signed.ensures c.from.ensures in
    let second = c.cast_signed-in-High in
    let wide = c.from-in-High in
    let y = signed-again c.args.b second.result wide.result g second.ensures wide.ensures in
    record {
      value = rw c.in-High.is (
          c.upper_word.ensures.value
          ∙ (λ i. upper_word (handed (handed (x i) *ℤ handed (y i))))
          ∙ upper-signed c.args.a c.args.b f g
          );
    }

pub returns-in-HighSignedUnsigned : goal.returns-in-HighSignedUnsigned
returns-in-HighSignedUnsigned c =
    let f = c.ranges.a.fits in
    let first = c.from-in-HighSignedUnsigned in
    let cast = c.cast_signed-in-HighSignedUnsigned in
    let x = signed-again c.args.a cast.result first.result f cast.ensures first.ensures in
    let y = c.from-in-HighSignedUnsigned-2.ensures in
    record {
      value = rw c.in-HighSignedUnsigned.is (
          c.upper_word-in-HighSignedUnsigned.ensures.value
          ∙ (λ i. upper_word (handed (handed (x i) *ℤ handed (y i))))
          ∙ upper-mixed c.args.a c.args.b f c.ranges.b.fits
          );
    }

pub overflow_mul-from : goal.overflow_mul-from
overflow_mul-from c =
    let f = c.ranges.a.fits in
    let g = c.ranges.b.fits in
    let second = c.cast_signed-in-High in
    let wide = c.from-in-High in
    fits-signed c.args.a c.args.b c.from.result wide.result f g
    (signed-again c.args.a c.cast_signed.result c.from.result f c.cast_signed.ensures c.from.ensures)
    (signed-again c.args.b second.result wide.result g second.ensures wide.ensures)

pub overflow_mul-from-in-HighSignedUnsigned : goal.overflow_mul-from-in-HighSignedUnsigned
overflow_mul-from-in-HighSignedUnsigned c =
    let f = c.ranges.a.fits in
    let first = c.from-in-HighSignedUnsigned in
    let cast = c.cast_signed-in-HighSignedUnsigned in
    let second = c.from-in-HighSignedUnsigned-2 in
    fits-half_signed c.args.a c.args.b first.result second.result f c.ranges.b.fits
    (signed-again c.args.a cast.result first.result f cast.ensures first.ensures) second.ensures
