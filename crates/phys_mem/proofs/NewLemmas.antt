-- A new memory: each frame has slot 0.
use Rattle.std.proofs.Common.{arith, ◌≡◌, ◌∙◌, ap, sym, refl, true, ℕ, zero, suc, ◌+◌, ◌-◌, ◌*◌, ◌/◌, ◌%◌, ◌^◌, ◌<◌, ◌≤◌, Bool, List, [], ◌∷◌, ◌++◌, length, map, take, replicate}
use Rattle.std.proofs.lemmas.Bool.Decides.{nat_tests}
use Rattle.std.proofs.lemmas.Grind.{same_number_lists}
use Rattle.std.proofs.lemmas.List.{length-replicate, take_all}
use Rattle.std.specs.Prelude.{slice_index}
use Rattle.phys_mem.specs.Contents.{all_zero, zeros}
use Rattle.phys_mem.specs.Slots.{words_in, held, is_zero_slot, times, once_made, AreSlots}
use Rattle.phys_mem.proofs.FrameLemmas.{index-zeros, length-zeros}
use Rattle.phys_mem.proofs.TimesLemmas.{one-same, one-other, times-first, times-none_in}
use Rattle.phys_mem.proofs.SlotLemmas.{length-words_in, index-words_in}
use Rattle.phys_mem.proofs.GivingLemmas.{same_contents}

times-zeros : (count : ℕ) → times 0 (replicate count 0) ≡ count
times-zeros zero = times-none_in 0
times-zeros (suc count) = omega (arith, times-first 0 0 (replicate count 0), one-same 0 0 refl, times-zeros count)

times-own : (slot count : ℕ) → 0 < slot → times slot (replicate count 0) ≡ 0
times-own slot zero own = times-none_in slot
times-own slot (suc count) own =
    omega (arith, times-first slot 0 (replicate count 0), one-other slot 0 (omega (arith, own)), times-own slot count own)

marked-zeros : (count : ℕ) → map is_zero_slot (replicate count 0) ≡ replicate count true
marked-zeros zero = refl
marked-zeros (suc count) = ap (λ (marks : List Bool). true ∷ marks) (marked-zeros count)

-- words that grow from none to those of a slot
pub first_slot : (none words : List ℕ) (size : ℕ) → none ≡ [] → size ≡ 0
    → words ≡ take 1024 none ++ replicate (1024 - size) 0 → words ≡ replicate 1024 0
first_slot none words size is_none is_zero is =
    let front : take 1024 none ≡ [] =
    take_all 1024 none
    (let empty : length none ≡ 0 = ap (λ (xs : List ℕ). length xs) is_none in omega (arith, empty))
    ∙ is_none in
    is ∙ ap (λ (xs : List ℕ). xs ++ replicate (1024 - size) 0) front ∙ ap (λ (n : ℕ). replicate (1024 - n) 0) is_zero

none_made : (slot : ℕ) → 0 < slot → once_made 1 slot ≡ 0
none_made slot own = grind (arith, nat_tests)

module _ (frames : ℕ) (words : List ℕ) (size : length words ≡ 1024) (blank : (place : ℕ) → slice_index words place ≡ 0) where
  count : length {A = ℕ} (replicate frames 0) ≡ frames
  count = length-replicate {A = ℕ} frames 0

  pub new_slots : frames ≤ 2 ^ 20 → AreSlots (replicate frames 0) [] words
  new_slots few = record {
    few = omega (arith, count, few);
    zero = λ place in_zero. blank place;
    zero_used = times-none_in 0;
    once = λ slot own.
        let first : length words / 1024 ≡ 1 = omega (arith, size) in
        omega (arith, times-own slot frames own, times-none_in slot)
        ∙ sym (none_made slot own)
        ∙ ap (λ (n : ℕ). once_made n slot) (sym first);
    made = omega (arith, size, count, times-zeros frames);
    enough = omega (arith, size);
  }

  words_in-new : words_in (replicate frames 0) words ≡ zeros frames
  words_in-new =
      same_number_lists (words_in (replicate frames 0) words) (zeros frames)
      (omega (arith, length-words_in (replicate frames 0) words, length-zeros frames, count))
      (λ i below.
      index-words_in (replicate frames 0) words i (omega (arith, below, length-words_in (replicate frames 0) words))
      ∙ blank (1024 * slice_index (replicate frames 0) (i / 1024) + i % 1024)
      ∙ sym (index-zeros frames i))

  pub held-new : held (replicate frames 0) words ≡ all_zero frames
  held-new =
      same_contents (length (replicate frames 0)) frames (words_in (replicate frames 0) words) (zeros frames)
      (map is_zero_slot (replicate frames 0)) (replicate frames true)
      count words_in-new (marked-zeros frames)
