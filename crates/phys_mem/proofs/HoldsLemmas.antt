-- A memory goes on standing for a map of frames when both are changed alike.
use Rattle.std.proofs.Common.{arith, ◌≡◌, ◌≢◌, ◌∙◌, ap, sym, ℕ, ◌+◌, ◌*◌, ◌/◌, ◌<◌, inl, inr, get_or-set_same, get_or-set_other, length-set}
use Rattle.std.proofs.lemmas.Bool.{cases_eq}
use Rattle.std.specs.Prelude.{slice_index, slice_set}
use Rattle.tp_base.specs.Table.{empty}
use Rattle.phys_mem.specs.Address.{frame_of, word_place}
use Rattle.phys_mem.specs.Contents.{Contents, word_of, word_at, with_word, zeroed, all_zero}
use Rattle.phys_mem.specs.Mem.{Mem, word, written, zeroed_frame, word-empty, word-written_same, word-written_place, word-written_frame, word-zeroed_same, word-zeroed_other}
use Rattle.phys_mem.specs.Holds.{Holds}
use Rattle.phys_mem.proofs.FrameLemmas.{word_of-index, index-zeros, length-zeros, length-zeroed_words, word_of-zeroed_same, word_of-zeroed_other}

pub holds-word_at : (memory : Contents) (mem : Mem) (at : ℕ) → frame_of at < memory.frames → Holds memory mem
    → word_at memory at ≡ word mem (frame_of at) (word_place at)
holds-word_at memory mem at within holds =
    let here : at / 4 ≡ 1024 * frame_of at + word_place at = omega arith in
    ap (λ (i : ℕ). slice_index memory.words i) here
    ∙ sym (word_of-index memory (frame_of at) (word_place at) (omega arith))
    ∙ holds.same (frame_of at) (word_place at) within (omega arith)

pub holds-all_zero : (frames : ℕ) → Holds (all_zero frames) empty
holds-all_zero frames = record {
  size = length-zeros frames;
  same = λ frame place in_memory in_frame.
      word_of-index (all_zero frames) frame place in_frame
      ∙ index-zeros frames (1024 * frame + place)
      ∙ sym (word-empty frame place);
}

pub holds-with_word : (memory : Contents) (mem : Mem) (at value : ℕ)
    → frame_of at < memory.frames → Holds memory mem
    → Holds (with_word memory at value) (written mem (frame_of at) (word_place at) value)
holds-with_word memory mem at value within holds = record {
  size = length-set memory.words (at / 4) value ∙ holds.size;
  same = λ frame place in_memory in_frame.
      word_of-index (with_word memory at value) frame place in_frame
      ∙ elim (cases_eq frame (frame_of at)) [
        | inl same_frame ↦ elim (cases_eq place (word_place at)) [
          | inl same_place ↦
              let here : 1024 * frame + place ≡ at / 4 = omega arith in
              ap (λ (i : ℕ). slice_index (slice_set memory.words (at / 4) value) i) here
              ∙ get_or-set_same memory.words (at / 4) value 0 (omega arith)
              ∙ sym (word-written_same mem (frame_of at) (word_place at) value)
              ∙ ap (λ (f : ℕ). word (written mem (frame_of at) (word_place at) value) f (word_place at)) (sym same_frame)
              ∙ ap (λ (p : ℕ). word (written mem (frame_of at) (word_place at) value) frame p) (sym same_place)
          | inr other_place ↦
              let apart : 1024 * frame + place ≢ at / 4 = λ e. other_place (omega arith) in
              get_or-set_other memory.words (at / 4) (1024 * frame + place) value 0 apart
              ∙ sym (word_of-index memory frame place in_frame)
              ∙ holds.same frame place in_memory in_frame
              ∙ ap (λ (f : ℕ). word mem f place) same_frame
              ∙ sym (word-written_place mem (frame_of at) (word_place at) value place other_place)
              ∙ ap (λ (f : ℕ). word (written mem (frame_of at) (word_place at) value) f place) (sym same_frame)
        ]
        | inr other_frame ↦
            let apart : 1024 * frame + place ≢ at / 4 = λ e. other_frame (omega arith) in
            get_or-set_other memory.words (at / 4) (1024 * frame + place) value 0 apart
            ∙ sym (word_of-index memory frame place in_frame)
            ∙ holds.same frame place in_memory in_frame
            ∙ sym (word-written_frame mem (frame_of at) (word_place at) value frame place other_frame)
      ];
}

pub holds-zeroed : (memory : Contents) (mem : Mem) (blank : ℕ)
    → blank < memory.frames → Holds memory mem → Holds (zeroed memory blank) (zeroed_frame mem blank)
holds-zeroed memory mem blank within holds = record {
  size = length-zeroed_words memory.words blank (omega (arith, holds.size)) ∙ holds.size;
  same = λ frame place in_memory in_frame. elim (cases_eq frame blank) [
    | inl same ↦
        ap (λ (f : ℕ). word_of (zeroed memory blank) f place) same
        ∙ word_of-zeroed_same memory blank place (omega arith)
        ∙ sym (word-zeroed_same mem blank place)
        ∙ ap (λ (f : ℕ). word (zeroed_frame mem blank) f place) (sym same)
    | inr other ↦
        word_of-zeroed_other memory blank frame place (omega arith) other
        ∙ holds.same frame place in_memory in_frame
        ∙ sym (word-zeroed_other mem blank frame place other)
  ];
}
