-- The interrupts of a domain: its moments, how many of them were delivered, and a bit for each of 32 lines.
use Rattle.std.specs.Prelude.{◌≡◌, ℕ, zero, suc, ◌+◌, ◌<◌, ◌≤◌, nat_le, Bool, false, if◌then◌else◌, List, length, replicate, slice_get, slice_index_or, slice_set, Option, Some, None}
use Rattle.irq_partition.specs.declared.Moment.{Moment}

pub record Interrupts : Type 0 where
  pub moments : List Moment
  pub delivered : ℕ  -- of the moments, from the first on
  pub bits : List Bool  -- by line

-- earlier, or at the same cycle of a lesser line
pub record IsBefore (x y : Moment) : Type 0 where
  pub not_later : x.at ≤ y.at
  pub by_line : x.at ≡ y.at → x.line < y.line

-- the moments ascend strictly, each of a line below 32
pub record AreMoments (moments : List Moment) : Type 0 where
  pub lines : (k : ℕ) (x : Moment) → slice_get moments k ≡ Some x → x.line < 32
  pub ascend : (j k : ℕ) (x y : Moment) → j < k → slice_get moments j ≡ Some x → slice_get moments k ≡ Some y
      → IsBefore x y

pub record AreInterrupts (s : Interrupts) : Type 0 where
  pub moments : AreMoments s.moments
  pub delivered : s.delivered ≤ length s.moments
  pub lines : length s.bits ≡ 32

-- none is delivered, and no bit is set
unfoldable pub none_delivered : List Moment → Interrupts
none_delivered moments = record { moments = moments; delivered = 0; bits = replicate 32 false }

-- ---- moments

-- the first that isn't delivered
abbrev pub next_of : Interrupts → Option Moment
next_of s = slice_get s.moments s.delivered

abbrev pub cycle_of : Option Moment → Option ℕ
cycle_of None = None
cycle_of (Some x) = Some x.at

-- when it is
unfoldable pub next_cycle : Interrupts → Option ℕ
next_cycle s = cycle_of (next_of s)

abbrev pub line_by : ℕ → Option Moment → Option ℕ
line_by now None = None
line_by now (Some x) = if nat_le x.at now then Some x.line else None

-- its line, where it isn't after the clock
unfoldable pub due : ℕ → Interrupts → Option ℕ
due now s = line_by now (next_of s)

unfoldable pub delivered : Interrupts → Interrupts
delivered s = record s { delivered = s.delivered + 1 }

-- after so many deliveries
unfoldable pub after_deliveries : ℕ → Interrupts → Interrupts
after_deliveries zero s = s
after_deliveries (suc n) s = delivered (after_deliveries n s)

-- ---- bits

abbrev pub is_set : Interrupts → ℕ → Bool
is_set s line = slice_index_or s.bits line false

unfoldable pub with_bit : Interrupts → ℕ → Bool → Interrupts
with_bit s line bit = record s { bits = slice_set s.bits line bit }
