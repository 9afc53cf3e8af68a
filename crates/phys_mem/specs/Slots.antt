-- How the words of slots stand for all that a memory holds. Each frame has a slot of 1,024 words. Slot 0 reads zero and is
-- shared by all frames with the mark; each other slot is of one frame at most, and else unused.
use Rattle.std.specs.Prelude.{◌≡◌, ℕ, ◌+◌, ◌-◌, ◌*◌, ◌/◌, ◌%◌, ◌^◌, ◌<◌, ◌≤◌, Bool, List, [], ◌∷◌, length, map, slice_index, nat_eq, nat_lt, if◌then◌else◌}
use Rattle.std.specs.List.{range_with_len}
use Rattle.phys_mem.specs.Contents.{Contents}

-- a word of a memory whose frames have these slots
abbrev pub word_in : List ℕ → List ℕ → ℕ → ℕ
word_in slots words i = slice_index words (1024 * slice_index slots (i / 1024) + i % 1024)

-- all its words
unfoldable pub words_in : List ℕ → List ℕ → List ℕ
words_in slots words = map (word_in slots words) (range_with_len 0 (1024 * length slots))

-- whether a frame with this slot has the mark
abbrev pub is_zero_slot : ℕ → Bool
is_zero_slot slot = nat_eq slot 0

-- what a memory holds whose frames have these slots
abbrev pub held : List ℕ → List ℕ → Contents
held slots words = record {
  frames = length slots;
  words = words_in slots words;
  marked = map is_zero_slot slots;
}

-- how often a slot is in a list
unfoldable pub times : ℕ → List ℕ → ℕ
times slot [] = 0
times slot (other ∷ slots) = if nat_eq other slot then 1 + times slot slots else times slot slots

-- how often a slot is to be in those of the frames and the unused ones, after so many slots were made
abbrev pub once_made : ℕ → ℕ → ℕ
once_made made slot = if nat_lt slot made then 1 else 0

-- the frames' slots, the unused ones and the words of all that were made: 0, and as many as are in use or unused
pub record AreSlots (slots unused words : List ℕ) : Type 0 where
  pub few : length slots ≤ 2 ^ 20
  pub zero : (place : ℕ) → place < 1024 → slice_index words place ≡ 0
  pub zero_used : times 0 unused ≡ 0
  pub once : (slot : ℕ) → 0 < slot
      → times slot slots + times slot unused ≡ once_made (length words / 1024) slot
  pub made : length words ≡ 1024 * (1 + (length slots - times 0 slots) + length unused)
  pub enough : length words ≤ 1024 * (1 + length slots)

-- there is room for a slot for each frame, and for each to be unused
pub record HaveRoom (frames unused_room words_room : ℕ) : Type 0 where
  pub unused : frames ≤ unused_room
  pub words : 1024 * (1 + frames) ≤ words_room
