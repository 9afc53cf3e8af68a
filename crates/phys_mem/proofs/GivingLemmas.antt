-- A frame is zeroed: no frame has its slot from then on.
use Rattle.std.proofs.Common.{arith, ◌≡◌, ◌∙◌, ap, sym, subst, refl, ℕ, ◌+◌, ◌*◌, ◌/◌, ◌%◌, ◌<◌, ◌≤◌, Bool, true, false, List, [], ◌∷◌, ◌++◌, length, map, inl, inr, get_or-set_same, get_or-set_other, length-set}
use Rattle.std.proofs.lemmas.Bool.{cases_eq, cases_lt}
use Rattle.std.proofs.lemmas.Grind.{same_number_lists}
use Rattle.std.proofs.lemmas.List.{map-set, set-get_or, length-append, length-map, get_or_past}
use Rattle.std.specs.Prelude.{slice_index, slice_set}
use Rattle.phys_mem.specs.Contents.{Contents, frame_words, zeroed_words, zeroed, zeros, is_marked}
use Rattle.phys_mem.specs.Slots.{word_in, words_in, held, is_zero_slot, times, AreSlots}
use Rattle.phys_mem.proofs.FrameLemmas.{length-zeroed_words, frame_words-zeroed_same}
use Rattle.phys_mem.proofs.TimesLemmas.{one, one-same, one-other, times-set, times-last, times-le-length}
use Rattle.phys_mem.proofs.SlotLemmas.{marked_slot, length-words_in, index-words_in, index-zeroed_same, index-zeroed_other, by_place}

-- memories of as many frames are one if their words and their marks are
pub same_contents : (frames frames' : ℕ) (words words' : List ℕ) (marked marked' : List Bool)
    → frames ≡ frames' → words ≡ words' → marked ≡ marked'
    → ◌≡◌ {A = Contents} (record { frames = frames; words = words; marked = marked })
    (record { frames = frames'; words = words'; marked = marked' })
same_contents frames frames' words words' marked marked' same same_words same_marks = rw (same, same_words, same_marks)

module _ (slots unused words : List ℕ) (are : AreSlots slots unused words) (frame : ℕ) (within : frame < length slots) where
  -- the slots of the frames after it
  abbrev pub given : List ℕ
  given = slice_set slots frame 0

  frame_within : 1024 * frame + 1024 ≤ length (words_in slots words)
  frame_within = omega (arith, within, length-words_in slots words)

  zeroed_at : (i : ℕ) → i < 1024 * length slots
      → word_in given words i ≡ slice_index (zeroed_words (words_in slots words) frame) i
  zeroed_at i below = elim (cases_eq (i / 1024) frame) [
    | inl same ↦
        let zero : slice_index given (i / 1024) ≡ 0 =
        ap (λ (f : ℕ). slice_index given f) same ∙ get_or-set_same slots frame 0 0 within
        in
        ap (λ (k : ℕ). slice_index words k) (omega (arith, zero))
        ∙ are.zero (i % 1024) (omega arith)
        ∙ sym (index-zeroed_same (words_in slots words) frame (i % 1024) frame_within (omega arith))
        ∙ ap (λ (k : ℕ). slice_index (zeroed_words (words_in slots words) frame) k) (omega (arith, same))
    | inr other ↦
        ap (λ (slot : ℕ). slice_index words (1024 * slot + i % 1024)) (get_or-set_other slots frame (i / 1024) 0 0 other)
        ∙ sym (index-words_in slots words i below)
        ∙ by_place (words_in slots words) i
        ∙ sym (index-zeroed_other (words_in slots words) frame (i / 1024) (i % 1024) frame_within (omega arith) other)
        ∙ sym (by_place (zeroed_words (words_in slots words) frame) i)
  ]

  words_in-given : words_in given words ≡ zeroed_words (words_in slots words) frame
  words_in-given =
      let size : length given ≡ length slots = length-set slots frame 0 in
      same_number_lists (words_in given words) (zeroed_words (words_in slots words) frame)
      (omega (
        arith,
        size,
        length-words_in given words,
        length-words_in slots words,
        length-zeroed_words
            (words_in slots words) frame frame_within,
      ))
      (λ i below.
      let below' : i < 1024 * length given = omega (arith, below, length-words_in given words) in
      index-words_in given words i below' ∙ zeroed_at i (omega (arith, below', size)))

  pub held-given : held given words ≡ zeroed (held slots words) frame
  held-given =
      same_contents (length given) (length slots) (words_in given words) (zeroed_words (words_in slots words) frame)
      (map is_zero_slot given) (slice_set (map is_zero_slot slots) frame true)
      (length-set slots frame 0) words_in-given (map-set is_zero_slot slots frame 0)

  -- a frame that has the mark stays as it is
  pub held-marked : slice_index slots frame ≡ 0 → held slots words ≡ zeroed (held slots words) frame
  held-marked zero =
      let same : given ≡ slots = ap (λ (slot : ℕ). slice_set slots frame slot) (sym zero) ∙ set-get_or slots frame 0 in
      ap (λ (of_frames : List ℕ). held of_frames words) (sym same) ∙ held-given

  -- it reads zero
  pub zero_slot_words : slice_index slots frame ≡ 0 → frame_words (held slots words) frame ≡ zeros 1
  zero_slot_words zero =
      ap (λ (memory : Contents). frame_words memory frame) (held-marked zero)
      ∙ frame_words-zeroed_same (held slots words) frame frame_within

  module _ (own : 0 < slice_index slots frame) where
    abbrev pub slot : ℕ
    slot = slice_index slots frame

    times-given : (other : ℕ) → times other given + one other slot ≡ times other slots + one other 0
    times-given other = times-set other slots frame 0 within

    apart : one 0 slot ≡ 0
    apart = one-other 0 slot (omega (arith, own))

    -- there is room for it among the unused ones
    pub unused_few : length unused < length slots
    unused_few =
        omega (
          arith,
          apart,
          times-given 0,
          one-same 0 0 refl,
          are.made,
          are.enough,
          times-le-length 0 given,
          length-set slots frame 0,
        )

    pub given_slots : AreSlots given (unused ++ slot ∷ []) words
    given_slots =
        let size : length given ≡ length slots = length-set slots frame 0 in
        let more : length (unused ++ slot ∷ []) ≡ length unused + 1 = length-append unused (slot ∷ []) in
        record {
          few = omega (arith, size, are.few);
          zero = are.zero;
          zero_used = omega (arith, times-last 0 slot unused, are.zero_used, apart);
          once = λ other some.
              omega (arith, times-given other, one-other other 0 (omega (arith, some)), times-last other slot unused, are.once other some);
          made = omega (arith, size, more, are.made, times-given 0, apart, one-same 0 0 refl, times-le-length 0 given);
          enough = omega (arith, size, are.enough);
        }

-- each frame that has the mark reads zero
pub marked_words : (slots unused words : List ℕ) (memory : Contents) (frame : ℕ) → AreSlots slots unused words
    → held slots words ≡ memory
    → is_marked memory frame ≡ true → frame_words memory frame ≡ zeros 1
marked_words slots unused words memory frame are is marked = elim (cases_lt frame (length slots)) [
  | inl within ↦
      subst (λ (all : Contents). frame_words all frame ≡ zeros 1) is
      (zero_slot_words slots unused words are frame within (marked_slot slots words memory frame is within marked))
  | inr past ↦
      let none : is_marked (held slots words) frame ≡ false =
      get_or_past (map is_zero_slot slots) frame false (omega (arith, past, length-map slots is_zero_slot))
      in
      let both : true ≡ false = sym marked ∙ ap (λ (all : Contents). is_marked all frame) (sym is) ∙ none in
      absurd (cc both)
]
