-- Sums of the words of a pool's frames.
use Rattle.std.proofs.Common.{◌≡◌, ℕ, ◌+◌, ◌%◌, ◌^◌, ◌<◌, ◌≤◌, List, [], ◌∷◌, ◌++◌, length, take, replicate, get_or, ap, ◌*◌, ◌∙◌, arith}
use Rattle.std.specs.Prelude.{sum, slice_index_or}
use Rattle.std.specs.List.{concat}
use Rattle.std.proofs.lemmas.List.{append-nil, take_more, take_all}
use Rattle.std.proofs.lemmas.List.Sums.{sum_by-append}
use Rattle.std.proofs.lemmas.List.Folds.{sum_by-replicate}
use Rattle.phys_mem.specs.Contents.{zeros}
use Rattle.world_view.specs.View.{memory_sum}

sum_concat_more : (xss : List (List ℕ)) (ys : List ℕ)
    → sum (concat (xss ++ ys ∷ [])) ≡ sum (concat xss) + sum ys
sum_concat_more [] ys = let same = ap sum (append-nil ys) in omega (arith, same)
sum_concat_more (xs ∷ xss) ys =
    let rest = sum_concat_more xss ys in
    let left = sum_by-append (λ x. x) xs (concat (xss ++ ys ∷ [])) in
    let right = sum_by-append (λ x. x) xs (concat xss) in
    omega (arith, rest, left, right)

-- a frame of zeros
pub frame_sum_blank : (words : List ℕ) → words ≡ zeros 1 → 0 ≡ sum words % 2 ^ 32
unfolding zeros
frame_sum_blank words blank =
    let none : sum (replicate 1024 0) ≡ 1024 * 0 = sum_by-replicate (λ x. x) 1024 0 in
    let same : sum words ≡ sum (replicate 1024 0) = ap sum blank in
    omega (arith, none, same)

-- the sum of the words of frames in turn, and the next
pub memory_sum_more : (frames : List (List ℕ)) (i part total : ℕ) → i < length frames
    → part ≡ sum (slice_index_or frames i []) % 2 ^ 32 → total ≡ memory_sum (take i frames)
    → (total + part) % 2 ^ 32 ≡ memory_sum (take (i + 1) frames)
unfolding memory_sum
memory_sum_more frames i part total within is so_far =
    let all : sum (concat (take (i + 1) frames)) ≡ sum (concat (take i frames)) + sum (slice_index_or frames i []) =
    ap (λ xs. sum (concat xs)) (take_more frames i [] within) ∙ sum_concat_more (take i frames) (get_or frames i []) in
    omega (arith, is, all, so_far)

-- all of them
pub memory_sum_all : (frames : List (List ℕ)) (i total : ℕ) → length frames ≤ i
    → total ≡ memory_sum (take i frames) → total ≡ memory_sum frames
memory_sum_all frames i total h so_far = so_far ∙ ap memory_sum (take_all i frames h)
