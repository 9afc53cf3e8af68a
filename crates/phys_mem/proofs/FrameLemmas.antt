-- Frames of a list of words after a frame was zeroed.
use Rattle.std.proofs.Common.{arith, ◌≡◌, ◌≢◌, ◌∙◌, ap, sym, ℕ, ◌+◌, ◌-◌, ◌*◌, ◌<◌, ◌≤◌, List, ◌++◌, length, take, drop, replicate, inl, inr}
use Rattle.std.proofs.lemmas.Bool.{cases_lt}
use Rattle.std.proofs.lemmas.List.{drop-drop, length-append, length-take, length-drop, length-replicate, get_or-replicate, get_or_past}
use Rattle.std.proofs.lemmas.List.Edits.{get_or-between}
use Rattle.std.proofs.lemmas.Slice.{between-put_mid, between_is, take-put_mid_below, drop-put_mid}
use borrow.Rule.Slice.PartMut.{put_mid}
use Rattle.std.specs.Prelude.{slice_range, slice_index}
use Rattle.phys_mem.specs.Contents.{Contents, frame_words, word_of, zeros, zeroed_words, zeroed}

pub word_of-index : (memory : Contents) (frame place : ℕ) → place < 1024
    → word_of memory frame place ≡ slice_index memory.words (1024 * frame + place)
word_of-index memory frame place within =
    get_or-between memory.words (1024 * frame) (1024 * frame + 1024) place 0 (omega arith)

pub length-zeros : (frames : ℕ) → length (zeros frames) ≡ 1024 * frames
unfolding zeros
length-zeros frames = length-replicate {A = ℕ} (1024 * frames) 0

pub index-replicate : (count i : ℕ) → slice_index (replicate count 0) i ≡ 0
index-replicate count i = elim (cases_lt i count) [
  | inl within ↦ get_or-replicate count i 0 0 within
  | inr past ↦ get_or_past (replicate count 0) i 0 (omega (arith, length-replicate {A = ℕ} count 0))
]

pub index-zeros : (frames i : ℕ) → slice_index (zeros frames) i ≡ 0
unfolding zeros
index-zeros frames i = index-replicate (1024 * frames) i

zeroed_words-is : (words : List ℕ) (frame : ℕ)
    → zeroed_words words frame ≡ put_mid (1024 * frame) 1024 words (zeros 1)
unfolding zeroed_words
zeroed_words-is words frame =
    ap (λ (rest : List ℕ). take (1024 * frame) words ++ (zeros 1 ++ rest)) (sym (drop-drop 1024 (1024 * frame) words))

pub length-zeroed_words : (words : List ℕ) (frame : ℕ) → 1024 * frame + 1024 ≤ length words
    → length (zeroed_words words frame) ≡ length words
unfolding zeroed_words
length-zeroed_words words frame within =
    simp (length-append, length-take, length-drop) (omega (arith, length-zeros 1))

-- the frame itself
pub frame_words-zeroed_same : (memory : Contents) (frame : ℕ) → 1024 * frame + 1024 ≤ length memory.words
    → frame_words (zeroed memory frame) frame ≡ zeros 1
frame_words-zeroed_same memory frame within =
    ap (λ (words : List ℕ). slice_range words (1024 * frame) (1024 * frame + 1024)) (zeroed_words-is memory.words frame)
    ∙ between-put_mid (1024 * frame) 1024 memory.words (zeros 1) (1024 * frame + 1024) (omega arith) (omega (arith, length-zeros 1))

-- any other
pub frame_words-zeroed_other : (memory : Contents) (frame other : ℕ)
    → 1024 * frame + 1024 ≤ length memory.words → other ≢ frame
    → frame_words (zeroed memory frame) other ≡ frame_words memory other
frame_words-zeroed_other memory frame other within apart =
    let all = memory.words in
    let start = 1024 * frame in
    let first = 1024 * other in
    ap (λ (words : List ℕ). slice_range words first (first + 1024)) (zeroed_words-is all frame)
    ∙ elim (cases_lt other frame) [
      | inl below ↦
          between_is (put_mid start 1024 all (zeros 1)) first (first + 1024)
          ∙ ap (drop first) (take-put_mid_below start 1024 all (zeros 1) (first + 1024) (omega arith) (omega arith))
          ∙ sym (between_is all first (first + 1024))
      | inr above ↦
          ap (take (first + 1024 - first)) (drop-put_mid start 1024 all (zeros 1) first (omega arith) (omega arith) (length-zeros 1))
    ]

pub word_of-zeroed_same : (memory : Contents) (frame i : ℕ) → 1024 * frame + 1024 ≤ length memory.words
    → word_of (zeroed memory frame) frame i ≡ 0
word_of-zeroed_same memory frame i within =
    ap (λ (words : List ℕ). slice_index words i) (frame_words-zeroed_same memory frame within) ∙ index-zeros 1 i

pub word_of-zeroed_other : (memory : Contents) (frame other i : ℕ) → 1024 * frame + 1024 ≤ length memory.words
    → other ≢ frame
    → word_of (zeroed memory frame) other i ≡ word_of memory other i
word_of-zeroed_other memory frame other i within apart =
    ap (λ (words : List ℕ). slice_index words i) (frame_words-zeroed_other memory frame other within apart)
