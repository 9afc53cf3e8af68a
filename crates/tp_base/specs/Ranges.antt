-- The ranges of the typed numbers.
use Rattle.std.specs.Prelude.{ℕ, ◌^◌, ◌<◌}

-- frames of 4,096 bytes: no machine has more than 32,768
abbrev pub IsFrameNo : ℕ → Type 0
IsFrameNo n = n < 2 ^ 15

-- lines of 16 bytes or more in that many frames
abbrev pub IsLine : ℕ → Type 0
IsLine n = n < 2 ^ 23

-- page colours
abbrev pub IsColour : ℕ → Type 0
IsColour n = n < 64

-- sums of 1, 2 and 4
abbrev pub IsRights : ℕ → Type 0
IsRights n = n < 8

-- domains, and what is numbered after them
abbrev pub IsDomainNo : ℕ → Type 0
IsDomainNo n = n < 32

-- a clock, and every sum of cycles
abbrev pub IsCycles : ℕ → Type 0
IsCycles n = n < 2 ^ 63
