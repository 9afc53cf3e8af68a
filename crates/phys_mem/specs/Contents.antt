-- What a memory holds: a number of frames, from frame 0 on, all their words in order, and which frames have the mark 'zero'.
use Rattle.std.specs.Prelude.{ℕ, ◌+◌, ◌*◌, ◌/◌, ◌%◌, Bool, true, false, List, ◌++◌, take, drop, replicate, slice_index, slice_index_or, slice_set, slice_range}
use Rattle.std.specs.List.{count_by}
use Rattle.phys_mem.specs.Bytes.{byte_in, half_in, with_byte_in, with_half_in}

pub record Contents : Type 0 where
  pub frames : ℕ
  pub words : List ℕ
  pub marked : List Bool  -- for each frame whether it has the mark: it was not written since it was new or zeroed

-- ---- by frames

-- the words of a frame
abbrev pub frame_words : Contents → ℕ → List ℕ
frame_words memory frame = slice_range memory.words (1024 * frame) (1024 * frame + 1024)

-- the word in a frame at a place from 0 to 1,023
abbrev pub word_of : Contents → ℕ → ℕ → ℕ
word_of memory frame place = slice_index (frame_words memory frame) place

-- ---- by addresses

-- the word that an address lies in
abbrev pub word_at : Contents → ℕ → ℕ
word_at memory address = slice_index memory.words (address / 4)

abbrev pub byte_at : Contents → ℕ → ℕ
byte_at memory address = byte_in (word_at memory address) (address % 4)

abbrev pub half_at : Contents → ℕ → ℕ
half_at memory address = half_in (word_at memory address) (address % 4)

abbrev pub with_word : Contents → ℕ → ℕ → Contents
with_word memory address word = record memory {
  words = slice_set memory.words (address / 4) word;
  marked = slice_set memory.marked (address / 4096) false;
}

abbrev pub with_byte : Contents → ℕ → ℕ → Contents
with_byte memory address byte =
    with_word memory address (with_byte_in (word_at memory address) (address % 4) byte)

abbrev pub with_half : Contents → ℕ → ℕ → Contents
with_half memory address half =
    with_word memory address (with_half_in (word_at memory address) (address % 4) half)

-- ---- zeros

-- the words of so many frames that read zero
unfoldable pub zeros : ℕ → List ℕ
zeros frames = replicate (1024 * frames) 0

-- words with a frame of zeros in the place of one
unfoldable pub zeroed_words : List ℕ → ℕ → List ℕ
zeroed_words words frame = take (1024 * frame) words ++ (zeros 1 ++ drop (1024 * frame + 1024) words)

abbrev pub zeroed : Contents → ℕ → Contents
zeroed memory frame = record memory {
  words = zeroed_words memory.words frame;
  marked = slice_set memory.marked frame true;
}

-- so many frames, all of which read zero
abbrev pub all_zero : ℕ → Contents
all_zero frames = record { frames = frames; words = zeros frames; marked = replicate frames true }

abbrev pub is_marked : Contents → ℕ → Bool
is_marked memory frame = slice_index_or memory.marked frame false

-- how many frames have the mark
abbrev pub marks : Contents → ℕ
marks memory = count_by (λ mark. mark) memory.marked
