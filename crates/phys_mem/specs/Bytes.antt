-- The bytes and halves of a word, the lowest first (little-endian). They stand at places from 0 to 3: a byte at each,
-- a half at 0 and 2.
use Rattle.std.specs.Prelude.{ℕ, ◌+◌, ◌++◌, take, drop, slice_index, slice_set}
use Rattle.byteorder.specs.Endian.{little_bytes, little_number}

unfoldable pub byte_in : ℕ → ℕ → ℕ
byte_in word place = slice_index (little_bytes 4 word) place

unfoldable pub half_in : ℕ → ℕ → ℕ
half_in word place = little_number 2 (drop place (little_bytes 4 word))

-- a word with one byte in the place of another
unfoldable pub with_byte_in : ℕ → ℕ → ℕ → ℕ
with_byte_in word place byte = little_number 4 (slice_set (little_bytes 4 word) place byte)

-- a word with one half in the place of another
unfoldable pub with_half_in : ℕ → ℕ → ℕ → ℕ
with_half_in word place half =
    let bytes = little_bytes 4 word in
    little_number 4 ((take place bytes ++ little_bytes 2 half) ++ drop (place + 2) bytes)
