-- Words of which a frame was filled with zeros.
use Rattle.std.proofs.Common.{arith, ◌≡◌, ◌≤◌, ◌∙◌, ap, length, List, take, drop, replicate, ◌++◌, ℕ, ◌+◌, ◌*◌}
use Rattle.std.proofs.lemmas.List.{drop-drop, length-take, length-drop}
use Rattle.phys_mem.specs.Contents.{zeros, zeroed_words}
use Rattle.phys_mem.proofs.memory.zero_words.Goals as goal

-- a part of 1,024 words that was filled with zeros
filled : (start count : ℕ) (words part : List ℕ) → count ≡ 1024 → start + 1024 ≤ length words
    → part ≡ replicate (length (take count (drop start words))) 0
    → take start words ++ (part ++ drop count (drop start words)) ≡ take start words ++ (replicate 1024 0 ++ drop (start + 1024) words)
filled start count words part is within filled_part =
    let size : length (take count (drop start words)) ≡ 1024 = simp (length-take, length-drop) (omega arith) in
    let part_is : part ≡ replicate 1024 0 = filled_part ∙ ap (λ (n : ℕ). replicate n 0) size in
    let rest : drop count (drop start words) ≡ drop (start + 1024) words =
    drop-drop count start words ∙ ap (λ (n : ℕ). drop (start + n) words) is in
    rw (part_is, rest)

pub returns : goal.returns
unfolding zeros zeroed_words
returns c = record {
  becomes =
      filled (1024 * c.args.slot) _ c.args.words.now c.fill.new.self (omega arith) c.requires.within
      (c.fill.ensures.after (λ y e. e));
}
