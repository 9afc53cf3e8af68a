-- The most cycles that charges come to, each cost being at most 1,000: with room for a miss of the second level that
-- writes a line back there, too, and for a product or a division.
use Rattle.std.specs.Prelude.{ℕ}

-- ---- one line

-- what a miss of the second level costs again that writes back
abbrev pub most_again : ℕ
most_again = 1000

-- a read past the first level: both its costs there, and again
abbrev pub most_read : ℕ
most_read = 3000

-- a fetch: the first level, and a read past it
abbrev pub most_fetch : ℕ
most_fetch = 4000

-- a load or store: a fetch, and the first level's victim
abbrev pub most_access : ℕ
most_access = 5000

-- ---- the kernel

-- the footprint of an operation, of up to 329 lines: 9 of the kernel clone, 256 of a frame, 64 with entries
abbrev pub most_footprint : ℕ
most_footprint = 1645000

-- an operation: the trap, and the footprint
abbrev pub most_operation : ℕ
most_operation = 1646000

-- the prefetch of up to 4,096 shared lines
abbrev pub most_prefetch : ℕ
most_prefetch = 20480000

-- ---- an instruction

-- a walk: two reads
abbrev pub most_walk : ℕ
most_walk = 6000

-- a look-up: the translation buffer, and a walk
abbrev pub most_look : ℕ
most_look = 7000

-- a load or store: the look-up of its page, and its line
abbrev pub most_data : ℕ
most_data = 12000

-- a wrong guess
abbrev pub most_guess : ℕ
most_guess = 1000

-- what a division of 33 times its cost adds
abbrev pub most_product : ℕ
most_product = 33000

-- what comes of an instruction: a store and a guess
abbrev pub most_outcome : ℕ
most_outcome = 13000

-- with what it loads
abbrev pub most_plain : ℕ
most_plain = 25000

-- or with the time of a product or a division
abbrev pub most_timed : ℕ
most_timed = 58000

-- without its base: its page's look-up, its fetch, and the operation that it calls
abbrev pub most_instruction : ℕ
most_instruction = 1657000

-- with it; no event takes more
abbrev pub most_event : ℕ
most_event = 1658000
