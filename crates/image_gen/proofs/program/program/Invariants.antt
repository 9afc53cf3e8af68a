use Rattle.std.proofs.Common.{◌≡◌, map, ◌++◌}
use Rattle.std.specs.List.{range_with_len}
use Rattle.seed_words.specs.Words.{after, word}
use Rattle.image_gen.specs.Program.{instruction, first_words}
use Rattle.image_gen.proofs.program.program.Given as goal

abbrev pub invariant-loop-drawn : goal.invariant-loop-drawn
invariant-loop-drawn l =
    (l.program.items ≡ first_words ++ map (λ k. instruction (word l.fn.words k)) (range_with_len 0 l.drawn))
    × (l.words ≡ after l.drawn l.fn.words)
