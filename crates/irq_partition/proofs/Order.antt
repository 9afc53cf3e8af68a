-- What deliveries leave, and which line is due.
use Rattle.std.proofs.Common.{arith, ◌≡◌, ◌∙◌, sym, ap, refl, ℕ, zero, suc, ◌<◌, ◌≤◌, add-one, Bool, true, false, List, length}
use Rattle.std.specs.Prelude.{Option, Some, None, slice_get, replicate, nat_le, if◌then◌else◌}
use Rattle.std.proofs.lemmas.Bool.Decides.{nat_tests}
use Rattle.std.proofs.lemmas.Option.{slice_get_within}
use Rattle.std.proofs.Math.ListN.{length-set}
use Rattle.irq_partition.specs.declared.Moment.{Moment}
use Rattle.irq_partition.specs.Interrupts.{Interrupts, AreInterrupts, IsBefore, AreMoments, none_delivered, next_of, line_by, due, delivered, after_deliveries, with_bit}

-- so many are delivered, and no bit is set
abbrev with_delivered : List Moment → ℕ → Interrupts
with_delivered moments n = record { moments = moments; delivered = n; bits = replicate 32 false }

after-n : (moments : List Moment) (n : ℕ)
    → after_deliveries n (none_delivered moments) ≡ with_delivered moments n
unfolding after_deliveries none_delivered delivered
after-n moments zero = refl
after-n moments (suc n) = ap delivered (after-n moments n) ∙ ap (with_delivered moments) (add-one n)

pub next-after : (moments : List Moment) (n : ℕ)
    → next_of (after_deliveries n (none_delivered moments)) ≡ slice_get moments n
next-after moments n = ap (λ (s : Interrupts). next_of s) (after-n moments n)

pub later : (moments : List Moment) → AreMoments moments → (m n : ℕ) (x y : Moment) → m < n
    → next_of (after_deliveries m (none_delivered moments)) ≡ Some x
    → next_of (after_deliveries n (none_delivered moments)) ≡ Some y → IsBefore x y
later moments sound m n x y below first second =
    sound.ascend m n x y below (sym (next-after moments m) ∙ first) (sym (next-after moments n) ∙ second)

pub delivered-sound : (s : Interrupts) (x : Moment) → AreInterrupts s → next_of s ≡ Some x
    → AreInterrupts (delivered s)
unfolding delivered
delivered-sound s x sound next =
    let within : s.delivered < length s.moments = slice_get_within s.moments s.delivered x next in
    record { moments = sound.moments; delivered = omega arith; lines = sound.lines }

line_by-Some : (now line : ℕ) (o : Option Moment) → line_by now o ≡ Some line
    → (x : Moment) × (o ≡ Some x) × (x.line ≡ line) × (x.at ≤ now)
line_by-Some now line None e = absurd (cc)
line_by-Some now line (Some x) e = tested (nat_le x.at now) refl e
  where
    tested : (b : Bool) → nat_le x.at now ≡ b → (if b then Some x.line else None) ≡ Some line
        → (z : Moment) × (Some x ≡ Some z) × (z.line ≡ line) × (z.at ≤ now)
    tested true is same = (x, refl, cc, grind (arith, nat_tests))
    tested false is same = absurd (cc)

pub due-Some : (s : Interrupts) (now line : ℕ) → due now s ≡ Some line
    → (x : Moment) × (next_of s ≡ Some x) × (x.line ≡ line) × (x.at ≤ now)
unfolding due
due-Some s now line e = line_by-Some now line (next_of s) e

pub opening-sound : (moments : List Moment) → AreMoments moments → AreInterrupts (none_delivered moments)
unfolding none_delivered
opening-sound moments sound = record { moments = sound; delivered = omega arith; lines = refl }

pub with_bit-sound : (s : Interrupts) (line : ℕ) (bit : Bool) → AreInterrupts s
    → AreInterrupts (with_bit s line bit)
unfolding with_bit
with_bit-sound s line bit sound =
    record { moments = sound.moments; delivered = sound.delivered; lines = length-set s.bits line bit ∙ sound.lines }
