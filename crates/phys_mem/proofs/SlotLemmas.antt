-- What frames hold by their slots.
use Rattle.std.proofs.Common.{arith, ◌≡◌, ◌≢◌, ◌∙◌, ap, sym, subst, refl, zero-add, ℕ, ◌+◌, ◌*◌, ◌/◌, ◌%◌, ◌<◌, ◌≤◌, true, false, List, [], length, inl, inr, get_or-set_same, get_or-set_other, length-set}
use Rattle.std.proofs.lemmas.Bool.{cases_eq, cases_lt}
use Rattle.std.proofs.lemmas.Grind.{same_number_lists}
use Rattle.std.proofs.lemmas.List.Edits.{length-between, get_or-between}
use Rattle.std.proofs.lemmas.List.FromFn.{length-map-range_with_len, get_or-map-range_with_len}
use Rattle.std.proofs.lemmas.Bool.Decides.{nat_tests}
use Rattle.std.proofs.lemmas.List.{get_or_default, get_or-map}
use Rattle.std.specs.Prelude.{slice_index, slice_index_or, slice_set, slice_range}
use Rattle.phys_mem.specs.Contents.{Contents, frame_words, zeroed_words, is_marked}
use Rattle.phys_mem.specs.Slots.{word_in, words_in, held, is_zero_slot, times, once_made, AreSlots}
use Rattle.phys_mem.proofs.FrameLemmas.{word_of-index, word_of-zeroed_same, word_of-zeroed_other}
use Rattle.phys_mem.proofs.TimesLemmas.{times-there, times-apart, once_made-made, once_made-most}

pub length-words_in : (slots words : List ℕ) → length (words_in slots words) ≡ 1024 * length slots
unfolding words_in
length-words_in slots words = length-map-range_with_len (word_in slots words) 0 (1024 * length slots)

pub index-words_in : (slots words : List ℕ) (i : ℕ) → i < 1024 * length slots
    → slice_index (words_in slots words) i ≡ word_in slots words i
unfolding words_in
index-words_in slots words i within = get_or-map-range_with_len (word_in slots words) 0 (1024 * length slots) i i 0 within (zero-add i)

pub frames_size : (slots words : List ℕ) (memory : Contents) → held slots words ≡ memory
    → length memory.words ≡ 1024 * memory.frames
frames_size slots words memory is =
    subst (λ (all : Contents). length all.words ≡ 1024 * all.frames) is (length-words_in slots words)

pub frames_within : (slots words : List ℕ) (memory : Contents) (frame : ℕ) → held slots words ≡ memory
    → frame < memory.frames → frame < length slots
frames_within slots words memory frame is within = subst (λ (all : Contents). frame < all.frames) (sym is) within

-- a read within a list is by no default
pub read_is : (numbers : List ℕ) (i x : ℕ) → i < length numbers → x ≡ slice_index_or numbers i x
    → x ≡ slice_index numbers i
read_is numbers i x within is = is ∙ get_or_default numbers i x 0 within

pub is_marked-slot : (slots words : List ℕ) (frame : ℕ) → frame < length slots
    → is_marked (held slots words) frame ≡ is_zero_slot (slice_index slots frame)
is_marked-slot slots words frame within = get_or-map is_zero_slot slots frame 0 false within

-- a frame has the mark as far as its slot is 0
pub marked_slot : (slots words : List ℕ) (memory : Contents) (frame : ℕ) → held slots words ≡ memory
    → frame < length slots
    → is_marked memory frame ≡ true → slice_index slots frame ≡ 0
marked_slot slots words memory frame is within marked =
    let test : is_zero_slot (slice_index slots frame) ≡ true =
    sym (is_marked-slot slots words frame within) ∙ ap (λ (all : Contents). is_marked all frame) is ∙ marked
    in
    grind (arith, nat_tests, test)

pub unmarked_slot : (slots words : List ℕ) (memory : Contents) (frame : ℕ) → held slots words ≡ memory
    → frame < length slots
    → is_marked memory frame ≡ false → 0 < slice_index slots frame
unmarked_slot slots words memory frame is within marked =
    let test : is_zero_slot (slice_index slots frame) ≡ false =
    sym (is_marked-slot slots words frame within) ∙ ap (λ (all : Contents). is_marked all frame) is ∙ marked
    in
    grind (arith, nat_tests, test)

-- ---- a frame of zeros among words

abbrev only_words : List ℕ → Contents
only_words words = record { frames = 0; words = words; marked = [] }

pub index-zeroed_same : (words : List ℕ) (frame place : ℕ) → 1024 * frame + 1024 ≤ length words → place < 1024
    → slice_index (zeroed_words words frame) (1024 * frame + place) ≡ 0
index-zeroed_same words frame place within in_frame =
    sym (word_of-index (only_words (zeroed_words words frame)) frame place in_frame)
    ∙ word_of-zeroed_same (only_words words) frame place within

pub index-zeroed_other : (words : List ℕ) (frame other place : ℕ) → 1024 * frame + 1024 ≤ length words
    → place < 1024 → other ≢ frame
    → slice_index (zeroed_words words frame) (1024 * other + place) ≡ slice_index words (1024 * other + place)
index-zeroed_other words frame other place within in_frame apart =
    sym (word_of-index (only_words (zeroed_words words frame)) other place in_frame)
    ∙ word_of-zeroed_other (only_words words) frame other place within apart
    ∙ word_of-index (only_words words) other place in_frame

-- an index by its frame and its place
pub by_place : (words : List ℕ) (i : ℕ)
    → slice_index words i ≡ slice_index words (1024 * (i / 1024) + i % 1024)
by_place words i = ap (λ (k : ℕ). slice_index words k) (omega arith)

-- ---- slots of a memory

module _ (slots unused words : List ℕ) (are : AreSlots slots unused words) where
  pub made_whole : length words ≡ 1024 * (length words / 1024)
  made_whole = omega (arith, are.made)

  pub zero_made : 1024 ≤ length words
  zero_made = omega (arith, are.made)

  pub slot_made : (frame : ℕ) → frame < length slots → 1024 * slice_index slots frame + 1024 ≤ length words
  slot_made frame within = elim (cases_lt 0 (slice_index slots frame)) [
    | inl own ↦
        let slot = slice_index slots frame in
        let there : 1 ≤ times slot slots = times-there slot slots frame within refl in
        let below : slot < length words / 1024 =
        once_made-made (length words / 1024) slot (omega (arith, there, are.once slot own))
        in
        omega (arith, below, made_whole)
    | inr none ↦ omega (arith, none, zero_made)
  ]

  -- no other frame has the slot of a frame without the mark
  pub own_alone : (frame other : ℕ) → frame < length slots → other < length slots
      → 0 < slice_index slots frame → other ≢ frame
      → slice_index slots other ≢ slice_index slots frame
  own_alone frame other within within' own apart =
      let slot = slice_index slots frame in
      let once : times slot slots ≤ 1 = omega (arith, are.once slot own, once_made-most (length words / 1024) slot) in
      times-apart slot slots frame other once within within' apart refl

  -- a frame with the mark reads zero
  pub marked_zero : (frame place : ℕ) → slice_index slots frame ≡ 0 → place < 1024
      → slice_index words (1024 * slice_index slots frame + place) ≡ 0
  marked_zero frame place marked in_frame =
      ap (λ (k : ℕ). slice_index words k) (omega (arith, marked)) ∙ are.zero place in_frame

  -- ---- a frame's words are those of its slot

  pub slot_words : (frame : ℕ) → frame < length slots
      → slice_range words (1024 * slice_index slots frame) (1024 * slice_index slots frame + 1024) ≡ frame_words (held slots words) frame
  slot_words frame within =
      let slot = slice_index slots frame in
      let first = length-between words (1024 * slot) (1024 * slot + 1024) (slot_made frame within) in
      let second =
      length-between (words_in slots words) (1024 * frame) (1024 * frame + 1024)
      (omega (arith, within, length-words_in slots words)) in
      same_number_lists (slice_range words (1024 * slot) (1024 * slot + 1024)) (frame_words (held slots words) frame)
      (omega (arith, first, second))
      (λ place below.
      let in_frame : place < 1024 = omega (arith, below, first) in
      let is_frame : (1024 * frame + place) / 1024 ≡ frame = omega (arith, in_frame) in
      let is_place : (1024 * frame + place) % 1024 ≡ place = omega (arith, in_frame) in
      get_or-between words (1024 * slot) (1024 * slot + 1024) place 0 (omega (arith, in_frame))
      ∙ ap (λ (p : ℕ). slice_index words (1024 * slice_index slots frame + p)) (sym is_place)
      ∙ ap (λ (f : ℕ). slice_index words (1024 * slice_index slots f + (1024 * frame + place) % 1024)) (sym is_frame)
      ∙ sym (index-words_in slots words (1024 * frame + place) (omega (arith, within, in_frame)))
      ∙ sym (word_of-index (held slots words) frame place in_frame))

  -- ---- a word is written into a frame with a slot of its own

  module _ (frame place word : ℕ) (within : frame < length slots) (in_frame : place < 1024) (own : 0 < slice_index slots frame) where
    -- its index among the words of slots
    abbrev pub at : ℕ
    at = 1024 * slice_index slots frame + place

    at_within : at < length words
    at_within = omega (arith, slot_made frame within, in_frame)

    written_at : (i : ℕ) → i < 1024 * length slots
        → word_in slots (slice_set words at word) i ≡ slice_index (slice_set (words_in slots words) (1024 * frame + place) word) i
    written_at i below = elim (cases_eq i (1024 * frame + place)) [
      | inl same ↦
          let is_frame : i / 1024 ≡ frame = omega (arith, same, in_frame) in
          let is_place : i % 1024 ≡ place = omega (arith, same, in_frame) in
          let here : 1024 * slice_index slots (i / 1024) + i % 1024 ≡ at = rw (is_frame, is_place) refl in
          ap (λ (k : ℕ). slice_index (slice_set words at word) k) here
          ∙ get_or-set_same words at word 0 at_within
          ∙ sym (get_or-set_same (words_in slots words) (1024 * frame + place) word 0
          (omega (arith, length-words_in slots words, same, below)))
          ∙ ap (λ (k : ℕ). slice_index (slice_set (words_in slots words) (1024 * frame + place) word) k) (sym same)
      | inr other ↦
          let apart : 1024 * slice_index slots (i / 1024) + i % 1024 ≢ at = elim (cases_eq (i / 1024) frame) [
            | inl is_frame ↦ λ e.
                let slot_is : slice_index slots (i / 1024) ≡ slice_index slots frame = ap (λ (f : ℕ). slice_index slots f) is_frame in
                other (omega (arith, e, slot_is, is_frame))
            | inr other_frame ↦ λ e.
                own_alone frame (i / 1024) within (omega (arith, below)) own other_frame (omega (arith, e, in_frame))
          ]
          in
          get_or-set_other words at (1024 * slice_index slots (i / 1024) + i % 1024) word 0 apart
          ∙ sym (index-words_in slots words i below)
          ∙ sym (get_or-set_other (words_in slots words) (1024 * frame + place) i word 0 other)
    ]

    pub words_in-written : words_in slots (slice_set words at word)
        ≡ slice_set (words_in slots words) (1024 * frame + place) word
    words_in-written =
        same_number_lists (words_in slots (slice_set words at word)) (slice_set (words_in slots words) (1024 * frame + place) word)
        (length-words_in slots (slice_set words at word)
        ∙ sym (length-set (words_in slots words) (1024 * frame + place) word ∙ length-words_in slots words))
        (λ i below.
        let below' : i < 1024 * length slots = omega (arith, below, length-words_in slots (slice_set words at word)) in
        index-words_in slots (slice_set words at word) i below' ∙ written_at i below')

    pub written_slots : AreSlots slots unused (slice_set words at word)
    written_slots =
        let size : length (slice_set words at word) ≡ length words = length-set words at word in
        record {
          few = are.few;
          zero = λ k in_zero. get_or-set_other words at k word 0 (omega (arith, own, in_zero)) ∙ are.zero k in_zero;
          zero_used = are.zero_used;
          once = λ slot some. are.once slot some ∙ ap (λ (n : ℕ). once_made (n / 1024) slot) (sym size);
          made = size ∙ are.made;
          enough = omega (arith, size, are.enough);
        }
