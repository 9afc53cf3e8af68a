use Rattle.std.proofs.Common.{◌≡◌, ◌+◌, ◌++◌, refl, ap, sym, ◌∙◌, arith}
use Rattle.image_gen.specs.Program.{instruction, last_words, program, program_bytes}
use Rattle.seed_words.specs.Words.{word}
use Rattle.seed_words.proofs.Draws.{after_none, after_next, word_here}
use Rattle.image_record.proofs.Loops.{no_value}
use Rattle.image_gen.proofs.Pieces.{program_more, whatever_comes}
use Rattle.image_gen.proofs.program.program.Goals as goal

pub loop-drawn-preserved : goal.loop-drawn-preserved
loop-drawn-preserved c =
    let g = c.args.words.now in
    let k = c.loop-drawn.drawn in
    let h = c.loop-drawn.words in
    let drawn = c.draw.ensures.value ∙ word_here k g h c.loop-drawn.invariant.1 in (
      program_more (λ j. instruction (word g j)) k c.loop-drawn.program.items _ c.instruction.result
          c.loop-drawn.invariant.0 (c.instruction.ensures.value ∙ ap instruction drawn)
          c.in_ok-push.ensures.items,
      c.draw.ensures.drawn ∙ after_next k 1 (k + 1) g h c.loop-drawn.invariant.1 refl,
    )

pub returns-clause-bytes : goal.returns-clause-bytes
unfolding program program_bytes
returns-clause-bytes c =
    let all : c.loop-drawn.drawn ≡ 64 = omega (arith, c.loop-drawn-test.false, c.loop-drawn.auto.drawn-end) in
    let drawn = rw all at c.loop-drawn.invariant.0 in
    let whole : c.as_slice.result.now ≡ program c.args.words.now =
    c.as_slice.ensures.value ∙ c.in_ok-extend_from_slice.ensures.items
    ∙ ap (λ xs. xs ++ last_words) drawn in
    rw whole at c.bytes_of.ensures.bytes

pub loop-drawn-init : goal.loop-drawn-init
loop-drawn-init c = (c.in_ok-program.ensures.items, sym (after_none c.args.words.now))

pub returns-in_err-program-clause-bytes : goal.returns-in_err-program-clause-bytes
returns-in_err-program-clause-bytes c = no_value c.from_residual.result _ c.from_residual.ensures.0

pub returns-in_err-program-clause-drawn : goal.returns-in_err-program-clause-drawn
returns-in_err-program-clause-drawn c = no_value c.from_residual.result _ c.from_residual.ensures.0

pub returns-in_err-push-clause-bytes : goal.returns-in_err-push-clause-bytes
returns-in_err-push-clause-bytes c = no_value c.from_residual-in_err-push.result _ c.from_residual-in_err-push.ensures.0

pub returns-in_err-push-clause-drawn : goal.returns-in_err-push-clause-drawn
returns-in_err-push-clause-drawn c = no_value c.from_residual-in_err-push.result _ c.from_residual-in_err-push.ensures.0

pub returns-in_err-extend_from_slice-clause-bytes : goal.returns-in_err-extend_from_slice-clause-bytes
returns-in_err-extend_from_slice-clause-bytes c =
    no_value c.from_residual-in_err-extend_from_slice.result _
    c.from_residual-in_err-extend_from_slice.ensures.0

pub returns-in_err-extend_from_slice-clause-drawn : goal.returns-in_err-extend_from_slice-clause-drawn
returns-in_err-extend_from_slice-clause-drawn c =
    no_value c.from_residual-in_err-extend_from_slice.result _
    c.from_residual-in_err-extend_from_slice.ensures.0

pub returns-clause-drawn : goal.returns-clause-drawn
returns-clause-drawn c =
    let all : c.loop-drawn.drawn ≡ 64 = omega (arith, c.loop-drawn-test.false, c.loop-drawn.auto.drawn-end) in
    whatever_comes c.bytes_of.result _ (rw all at c.loop-drawn.invariant.1)
