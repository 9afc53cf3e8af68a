-- A frame that has the mark gets a slot of its own, which reads zero.
use Rattle.std.proofs.Common.{arith, ◌≡◌, ◌≢◌, ◌∙◌, ap, sym, refl, ℕ, ◌+◌, ◌-◌, ◌*◌, ◌/◌, ◌%◌, ◌<◌, ◌≤◌, Bool, false, List, [], ◌∷◌, ◌++◌, length, map, replicate, inl, inr, get_or-set_same, get_or-set_other, length-set}
use Rattle.std.proofs.lemmas.Bool.{cases_eq, cases_lt}
use Rattle.std.proofs.lemmas.Bool.Decides.{nat_tests}
use Rattle.std.proofs.lemmas.Grind.{same_number_lists}
use Rattle.std.proofs.lemmas.List.{map-set, set-get_or, length-append, length-replicate, get_or_append_left, get_or-append_right}
use Rattle.std.specs.Prelude.{slice_index, slice_index_or, slice_set}
use Rattle.phys_mem.specs.Contents.{zeroed_words}
use Rattle.phys_mem.specs.Slots.{word_in, words_in, held, is_zero_slot, times, once_made, AreSlots}
use Rattle.phys_mem.proofs.FrameLemmas.{length-zeroed_words, index-replicate}
use Rattle.phys_mem.proofs.GivingLemmas.{same_contents}
use Rattle.phys_mem.proofs.TimesLemmas.{one, one-same, one-other, times-set, times-last, times-none, times-le-length, once_made-made, once_made-most, once_made-new, once_made-more}
use Rattle.phys_mem.proofs.SlotLemmas.{is_marked-slot, length-words_in, index-words_in, index-zeroed_same, index-zeroed_other, zero_made, slot_made, marked_zero}

is_zero_slot-own : (slot : ℕ) → 0 < slot → is_zero_slot slot ≡ false
is_zero_slot-own slot own = grind (arith, nat_tests)

-- nothing changes in a frame that has one
pub held-own : (slots words : List ℕ) (frame : ℕ) → frame < length slots → 0 < slice_index slots frame
    → held slots words ≡ record (held slots words) { marked = slice_set (held slots words).marked frame false }
held-own slots words frame within own =
    let mark : slice_index_or (map is_zero_slot slots) frame false ≡ false =
    is_marked-slot slots words frame within ∙ is_zero_slot-own (slice_index slots frame) own
    in
    same_contents (length slots) (length slots) (words_in slots words) (words_in slots words)
    (map is_zero_slot slots) (slice_set (map is_zero_slot slots) frame false) refl refl
    (sym (set-get_or (map is_zero_slot slots) frame false)
    ∙ ap (λ (m : Bool). slice_set (map is_zero_slot slots) frame m) mark)

module _ (slots unused words : List ℕ) (are : AreSlots slots unused words) (frame : ℕ) (within : frame < length slots)
    (marked : slice_index slots frame ≡ 0) (slot : ℕ) (own : 0 < slot) (free : times slot slots ≡ 0) where
  -- the slots of the frames after it
  abbrev pub taken : List ℕ
  taken = slice_set slots frame slot

  pub times-taken : (other : ℕ) → times other taken + one other 0 ≡ times other slots + one other slot
  times-taken other =
      ap (λ (before : ℕ). times other taken + one other before) (sym marked) ∙ times-set other slots frame slot within

  -- one frame fewer has the mark
  pub marks-taken : times 0 taken + 1 ≡ times 0 slots
  marks-taken = omega (arith, times-taken 0, one-same 0 0 refl, one-other 0 slot (omega (arith, own)))

  module _ (after : List ℕ) (blank : (place : ℕ) → place < 1024 → slice_index after (1024 * slot + place) ≡ 0)
      (others : (other place : ℕ) → other ≢ slot → place < 1024 → 1024 * other + 1024 ≤ length words
      → slice_index after (1024 * other + place) ≡ slice_index words (1024 * other + place)) where
    same_at : (i : ℕ) → i < 1024 * length slots → word_in taken after i ≡ word_in slots words i
    same_at i below = elim (cases_eq (i / 1024) frame) [
      | inl same ↦
          let is_slot : slice_index taken (i / 1024) ≡ slot =
          ap (λ (f : ℕ). slice_index taken f) same ∙ get_or-set_same slots frame slot 0 within
          in
          let was_zero : slice_index slots (i / 1024) ≡ 0 = ap (λ (f : ℕ). slice_index slots f) same ∙ marked in
          ap (λ (s : ℕ). slice_index after (1024 * s + i % 1024)) is_slot
          ∙ blank (i % 1024) (omega arith)
          ∙ sym (marked_zero slots unused words are (i / 1024) (i % 1024) was_zero (omega arith))
      | inr other ↦
          let below' : i / 1024 < length slots = omega (arith, below) in
          ap (λ (s : ℕ). slice_index after (1024 * s + i % 1024)) (get_or-set_other slots frame (i / 1024) slot 0 other)
          ∙ others (slice_index slots (i / 1024)) (i % 1024) (times-none slot slots (i / 1024) free below') (omega arith)
          (slot_made slots unused words are (i / 1024) below')
    ]

    words_in-taken : words_in taken after ≡ words_in slots words
    words_in-taken =
        let size : length taken ≡ length slots = length-set slots frame slot in
        same_number_lists (words_in taken after) (words_in slots words)
        (omega (arith, size, length-words_in taken after, length-words_in slots words))
        (λ i below.
        let below' : i < 1024 * length slots = omega (arith, below, size, length-words_in taken after) in
        index-words_in taken after i (omega (arith, below', size)) ∙ same_at i below' ∙ sym (index-words_in slots words i below'))

    -- only the mark goes
    pub held-taken : held taken after
        ≡ record (held slots words) { marked = slice_set (held slots words).marked frame false }
    held-taken =
        same_contents (length taken) (length slots) (words_in taken after) (words_in slots words)
        (map is_zero_slot taken) (slice_set (map is_zero_slot slots) frame false)
        (length-set slots frame slot) words_in-taken
        (map-set is_zero_slot slots frame slot
        ∙ ap (λ (mark : Bool). slice_set (map is_zero_slot slots) frame mark) (is_zero_slot-own slot own))

-- ---- a slot that was unused

module _ (slots rest words : List ℕ) (slot : ℕ) (are : AreSlots slots (rest ++ slot ∷ []) words) where
  pub unused_own : 0 < slot
  unused_own = elim (cases_lt 0 slot) [
    | inl own ↦ own
    | inr none ↦ omega (arith, are.zero_used, times-last 0 slot rest, one-same 0 slot (omega (arith, none)))
  ]

  pub unused_free : times slot slots ≡ 0
  unused_free =
      omega (arith, are.once slot unused_own, times-last slot slot rest, one-same slot slot refl, once_made-most (length words / 1024) slot)

  pub unused_made : 1024 * slot + 1024 ≤ length words
  unused_made =
      let below : slot < length words / 1024 =
      once_made-made (length words / 1024) slot
      (omega (arith, are.once slot unused_own, times-last slot slot rest, one-same slot slot refl))
      in
      omega (arith, below, are.made)

  module _ (frame : ℕ) (within : frame < length slots) (marked : slice_index slots frame ≡ 0) where
    pub held-reused : held (slice_set slots frame slot) (zeroed_words words slot)
        ≡ record (held slots words) { marked = slice_set (held slots words).marked frame false }
    held-reused =
        held-taken slots (rest ++ slot ∷ []) words are frame within marked slot unused_own unused_free (zeroed_words words slot)
        (λ place in_frame. index-zeroed_same words slot place unused_made in_frame)
        (λ other place apart in_frame made. index-zeroed_other words slot other place unused_made in_frame apart)

    pub reused_slots : AreSlots (slice_set slots frame slot) rest (zeroed_words words slot)
    reused_slots =
        let after : List ℕ = slice_set slots frame slot in
        let size : length after ≡ length slots = length-set slots frame slot in
        let same : length (zeroed_words words slot) ≡ length words = length-zeroed_words words slot unused_made in
        let more : length (rest ++ slot ∷ []) ≡ length rest + 1 = length-append rest (slot ∷ []) in
        let times-now = times-taken slots (rest ++ slot ∷ []) words are frame within marked slot unused_own unused_free in
        record {
          few = omega (arith, size, are.few);
          zero = λ place in_zero.
              ap (λ (i : ℕ). slice_index (zeroed_words words slot) i) (omega arith)
              ∙ index-zeroed_other words slot 0 place unused_made in_zero (omega (arith, unused_own))
              ∙ ap (λ (i : ℕ). slice_index words i) (omega arith)
              ∙ are.zero place in_zero;
          zero_used = omega (arith, times-last 0 slot rest, are.zero_used);
          once = λ other some.
              let now : times other after + times other rest ≡ once_made (length words / 1024) other =
              omega (arith, times-now other, one-other other 0 (omega (arith, some)), times-last other slot rest, are.once other some)
              in
              now ∙ ap (λ (n : ℕ). once_made (n / 1024) other) (sym same);
          made = omega (
            arith,
            size,
            same,
            more,
            are.made,
            times-le-length 0 slots,
            marks-taken slots (rest ++ slot ∷ []) words are frame within marked slot unused_own unused_free,
          );
          enough = omega (arith, size, same, are.enough);
        }

-- ---- a slot that is made

-- the words after it
abbrev pub with_slot : List ℕ → List ℕ
with_slot words = words ++ replicate 1024 0

module _ (slots words : List ℕ) (are : AreSlots slots [] words) where
  -- its number
  abbrev pub new_slot : ℕ
  new_slot = length words / 1024

  abbrev longer : List ℕ
  longer = with_slot words

  new_own : 0 < new_slot
  new_own = omega (arith, zero_made slots [] words are)

  new_free : times new_slot slots ≡ 0
  new_free = omega (arith, are.once new_slot new_own, once_made-new new_slot)

  length-longer : length longer ≡ length words + 1024
  length-longer = omega (arith, length-append words (replicate 1024 0), length-replicate {A = ℕ} 1024 0)

  kept_word : (i : ℕ) → i < length words → slice_index longer i ≡ slice_index words i
  kept_word i below = get_or_append_left words (replicate 1024 0) 0 i below

  module _ (frame : ℕ) (within : frame < length slots) (marked : slice_index slots frame ≡ 0) where
    pub held-made : held (slice_set slots frame new_slot) longer
        ≡ record (held slots words) { marked = slice_set (held slots words).marked frame false }
    held-made =
        held-taken slots [] words are frame within marked new_slot new_own new_free longer
        (λ place in_frame.
        get_or-append_right words (replicate 1024 0) (length words) (1024 * new_slot + place) 0 refl (omega (arith, are.made))
        ∙ index-replicate 1024 (1024 * new_slot + place - length words))
        (λ other place apart in_frame made. kept_word (1024 * other + place) (omega (arith, in_frame, made)))

    -- there is room for it
    pub new_enough : length words ≤ 1024 * length slots
    new_enough =
        omega (arith, are.made, times-le-length 0 slots, marks-taken slots [] words are frame within marked new_slot new_own new_free)

    pub made_slots : AreSlots (slice_set slots frame new_slot) [] longer
    made_slots =
        let size : length (slice_set slots frame new_slot) ≡ length slots = length-set slots frame new_slot in
        record {
          few = omega (arith, size, are.few);
          zero = λ place in_zero. kept_word place (omega (arith, in_zero, zero_made slots [] words are)) ∙ are.zero place in_zero;
          zero_used = are.zero_used;
          once = λ other some.
              let number : length longer / 1024 ≡ new_slot + 1 = omega (arith, length-longer, are.made) in
              let now : times other (slice_set slots frame new_slot) + times other [] ≡ once_made new_slot other + one other new_slot =
              omega (
                arith,
                times-taken slots [] words are frame within marked new_slot new_own new_free other,
                one-other other 0 (omega (arith, some)),
                are.once other some,
              )
              in
              now ∙ sym (once_made-more new_slot other) ∙ ap (λ (n : ℕ). once_made n other) (sym number);
          made = omega (
            arith,
            size,
            length-longer,
            are.made,
            times-le-length 0 slots,
            marks-taken slots [] words are frame within marked new_slot new_own new_free,
          );
          enough = omega (arith, size, length-longer, new_enough);
        }
