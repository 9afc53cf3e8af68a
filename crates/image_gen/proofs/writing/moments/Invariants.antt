use Rattle.std.proofs.Common.{◌≡◌, flat_map, string_bytes}
use Rattle.std.specs.List.{range_with_len}
use Rattle.seed_words.specs.Words.{after, word}
use Rattle.image_gen.specs.Text.{moment_text}
use Rattle.image_gen.proofs.writing.moments.Given as goal

abbrev pub invariant-loop-place : goal.invariant-loop-place
invariant-loop-place l =
    (string_bytes l.text ≡ flat_map (λ k. moment_text l.number k (word l.fn.words k)) (range_with_len 0 l.place))
    × (l.words ≡ after l.place l.fn.words)
