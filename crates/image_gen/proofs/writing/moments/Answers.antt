use Rattle.std.proofs.Common.{◌≡◌, ◌+◌, [], string_bytes, refl, ap, sym, ◌∙◌, arith}
use Rattle.seed_words.specs.Words.{word}
use Rattle.image_gen.specs.Text.{moment_text, moments_text}
use Rattle.seed_words.proofs.Draws.{after_none, after_next, word_here}
use Rattle.image_record.proofs.Loops.{no_value}
use Rattle.image_gen.proofs.Pieces.{written_more}
use Rattle.image_gen.proofs.writing.moments.Goals as goal

pub loop-place-preserved : goal.loop-place-preserved
loop-place-preserved c =
    let g = c.args.words.now in
    let k = c.loop-place.place in
    let h = c.loop-place.words in
    let drawn = c.draw.ensures.value ∙ word_here k g h c.loop-place.invariant.1 in
    let bytes = rw c.separator-separator.ensures.value at c.in_ok-write.ensures.bytes in
    let piece = moment_text c.args.number k c.draw.result in (
      written_more (λ j. moment_text c.args.number j (word g j)) k [] (string_bytes c.loop-place.text) _ piece
          c.loop-place.invariant.0 (ap (moment_text c.args.number k) drawn) bytes,
      c.draw.ensures.drawn ∙ after_next k 1 (k + 1) g h c.loop-place.invariant.1 refl,
    )

pub loop-place-init : goal.loop-place-init
loop-place-init c = (c.new-text.ensures.bytes, sym (after_none c.args.words.now))

pub overflow_mul-at : goal.overflow_mul-at
overflow_mul-at c = omega (arith, c.loop-place-test.true)

pub overflow_add-at : goal.overflow_add-at
overflow_add-at c = omega (arith, c.loop-place-test.true)

pub returns-in_err-write-clause-text : goal.returns-in_err-write-clause-text
returns-in_err-write-clause-text c = no_value c.from_residual.result _ c.from_residual.ensures.0

pub returns-in_err-write-clause-drawn : goal.returns-in_err-write-clause-drawn
returns-in_err-write-clause-drawn c = no_value c.from_residual.result _ c.from_residual.ensures.0

pub returns-clause-text : goal.returns-clause-text
unfolding moments_text
returns-clause-text c =
    let all : c.loop-place.place ≡ 8 = omega (arith, c.loop-place-test.false, c.loop-place.auto.place-end) in
    rw all at c.loop-place.invariant.0

pub returns-clause-drawn : goal.returns-clause-drawn
returns-clause-drawn c =
    let all : c.loop-place.place ≡ 8 = omega (arith, c.loop-place-test.false, c.loop-place.auto.place-end) in
    rw all at c.loop-place.invariant.1
