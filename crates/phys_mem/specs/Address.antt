-- The parts of a physical address. A frame has 4,096 bytes, which are 1,024 words of four bytes.
use Rattle.std.specs.Prelude.{ℕ, ◌/◌, ◌%◌}

-- the frame that an address lies in
abbrev pub frame_of : ℕ → ℕ
frame_of address = address / 4096

-- the place in its frame of the word that an address lies in, from 0 to 1,023
abbrev pub word_place : ℕ → ℕ
word_place address = address % 4096 / 4
