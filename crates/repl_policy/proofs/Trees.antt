-- The bits of the tree, and the halves to which they point.
use Rattle.std.proofs.Common.{◌≡◌, ◌≢◌, ℕ, zero, suc, ◌+◌, ◌-◌, ◌*◌, ◌/◌, ◌^◌, ◌<◌, ◌≤◌, true, false, cond, eqb, leb, ltb, ◌&&◌, List, [], ◌∷◌, Option, Some, refl, ap, sym, subst, ◌∙◌, arith, inl, inr}
use Rattle.std.proofs.Math.Nat.{pow-suc}
use Rattle.std.proofs.lemmas.Nat.{pow_pos}
use Rattle.std.proofs.lemmas.Bool.{cases_eq}
use Rattle.std.proofs.lemmas.Bool.Decides.{nat_tests}
use Rattle.std.specs.Int.{bit_at}
use Rattle.repl_policy.specs.Orders.{without, to_front}
use Rattle.repl_policy.specs.Halves.{newest_in, other_half, half_away, victim_in}
use Rattle.repl_policy.specs.Bits.{Points}

-- ---- the newest way of a range, after a touch

newest_in-without : (low size way : ℕ) (list : List ℕ) → (leb low way && ltb way (low + size)) ≡ false
    → newest_in low size (without list way) ≡ newest_in low size list
newest_in-without low size way [] out = refl
newest_in-without low size way (w ∷ ws) out =
    let ih : newest_in low size (without ws way) ≡ newest_in low size ws = newest_in-without low size way ws out in
    elim (cases_eq w way) [
      | inl same ↦
          let t : eqb w way ≡ true = grind (arith, nat_tests) in
          let o : (leb low w && ltb w (low + size)) ≡ false = ap (λ (v : ℕ). leb low v && ltb v (low + size)) same ∙ out in
          rw (t, o) ih
      | inr other ↦
          let t : eqb w way ≡ false = grind (arith, nat_tests) in
          rw t (ap (λ (o : Option ℕ). cond (leb low w && ltb w (low + size)) (Some w) o) ih)
    ]

outside_below : (low size way : ℕ) → way < low → (leb low way && ltb way (low + size)) ≡ false
outside_below low size way lt = grind (arith, nat_tests)

outside_above : (low size way : ℕ) → low + size ≤ way → (leb low way && ltb way (low + size)) ≡ false
outside_above low size way le = grind (arith, nat_tests)

inside : (low size way : ℕ) → low ≤ way → way < low + size → (leb low way && ltb way (low + size)) ≡ true
inside low size way le lt = grind (arith, nat_tests)

-- ---- ranges that a touch does not reach

Points-bits : (d low state next : ℕ) (list : List ℕ)
    → ((k : ℕ) → low < k → k < low + 2 ^ d → bit_at next k ≡ bit_at state k)
    → Points d low state list → Points d low next list
Points-bits zero low state next list same points = tt
Points-bits (suc d) low state next list same points =
    let double : 2 ^ suc d ≡ 2 ^ d * 2 = pow-suc 2 d in
    let pos : 0 < 2 ^ d = pow_pos d in (
      same (low + 2 ^ d) (omega arith) (omega arith) ∙ points.0,
      Points-bits d low state next list (λ k gt lt. same k gt (omega arith)) points.1,
      Points-bits d (low + 2 ^ d) state next list (λ k gt lt. same k (omega arith) (omega arith)) points.2,
    )

Points-below : (d low state way : ℕ) (list : List ℕ) → way < low → Points d low state list
    → Points d low state (to_front list way)
Points-below zero low state way list out points = tt
Points-below (suc d) low state way list out points =
    let pos : 0 < 2 ^ d = pow_pos d in
    let t : (leb low way && ltb way (low + 2 ^ suc d)) ≡ false = outside_below low (2 ^ suc d) way out in
    let newest : newest_in low (2 ^ suc d) (to_front list way) ≡ newest_in low (2 ^ suc d) list =
    rw t (newest_in-without low (2 ^ suc d) way list t) in (
      points.0 ∙ ap (half_away (low + 2 ^ d)) (sym newest),
      Points-below d low state way list out points.1,
      Points-below d (low + 2 ^ d) state way list (omega arith) points.2,
    )

Points-above : (d low state way : ℕ) (list : List ℕ) → low + 2 ^ d ≤ way → Points d low state list
    → Points d low state (to_front list way)
Points-above zero low state way list out points = tt
Points-above (suc d) low state way list out points =
    let pos : 0 < 2 ^ d = pow_pos d in
    let double : 2 ^ suc d ≡ 2 ^ d * 2 = pow-suc 2 d in
    let t : (leb low way && ltb way (low + 2 ^ suc d)) ≡ false = outside_above low (2 ^ suc d) way out in
    let newest : newest_in low (2 ^ suc d) (to_front list way) ≡ newest_in low (2 ^ suc d) list =
    rw t (newest_in-without low (2 ^ suc d) way list t) in (
      points.0 ∙ ap (half_away (low + 2 ^ d)) (sym newest),
      Points-above d low state way list (omega arith) points.1,
      Points-above d (low + 2 ^ d) state way list (omega arith) points.2,
    )

-- ---- the range that it reaches: the touched way is its newest

other_half-lower : (d low way : ℕ) (list : List ℕ) → low ≤ way → way < low + 2 ^ d
    → other_half d low (to_front list way) ≡ 1
other_half-lower d low way list le lt =
    let double : 2 ^ suc d ≡ 2 ^ d * 2 = pow-suc 2 d in
    let pos : 0 < 2 ^ d = pow_pos d in
    let t : (leb low way && ltb way (low + 2 ^ suc d)) ≡ true = inside low (2 ^ suc d) way le (omega arith) in
    let u : ltb way (low + 2 ^ d) ≡ true = grind (arith, nat_tests) in
    rw (t, u) refl

other_half-upper : (d low way : ℕ) (list : List ℕ) → low + 2 ^ d ≤ way → way < low + 2 ^ suc d
    → other_half d low (to_front list way) ≡ 0
other_half-upper d low way list le lt =
    let pos : 0 < 2 ^ d = pow_pos d in
    let t : (leb low way && ltb way (low + 2 ^ suc d)) ≡ true = inside low (2 ^ suc d) way (omega arith) lt in
    let u : ltb way (low + 2 ^ d) ≡ false = grind (arith, nat_tests) in
    rw (t, u) refl

-- a touch in the lower half sets the bit of the middle, and then touches that half
points_lower : (d low state set next way : ℕ) (list : List ℕ) → low ≤ way → way < low + 2 ^ d
    → low + 2 ^ suc d ≤ 16
    → bit_at set (low + 2 ^ d) ≡ 1 → ((k : ℕ) → k ≢ low + 2 ^ d → k < 64 → bit_at set k ≡ bit_at state k)
    → ((k : ℕ) → low + 2 ^ d ≤ k → k < 64 → bit_at next k ≡ bit_at set k)
    → (Points d low set list → Points d low next (to_front list way))
    → Points (suc d) low state list → Points (suc d) low next (to_front list way)
points_lower d low state set next way list le lt small bit others above step points =
    let double : 2 ^ suc d ≡ 2 ^ d * 2 = pow-suc 2 d in
    let pos : 0 < 2 ^ d = pow_pos d in (
      above (low + 2 ^ d) (omega arith) (omega arith) ∙ bit ∙ sym (other_half-lower d low way list le lt),
      step (Points-bits d low state set list (λ k gt below. others k (omega arith) (omega arith)) points.1),
      Points-below d (low + 2 ^ d) next way list lt
          (Points-bits d (low + 2 ^ d) state next list (λ k gt below. above k (omega arith) (omega arith) ∙ others k (omega arith) (omega arith)) points.2),
    )

-- a touch in the upper half clears the bit of the middle, and then touches that half
points_upper : (d low state set next way : ℕ) (list : List ℕ) → low + 2 ^ d ≤ way → way < low + 2 ^ suc d
    → low + 2 ^ suc d ≤ 16
    → bit_at set (low + 2 ^ d) ≡ 0 → ((k : ℕ) → k ≢ low + 2 ^ d → k < 64 → bit_at set k ≡ bit_at state k)
    → ((k : ℕ) → k ≤ low + 2 ^ d → bit_at next k ≡ bit_at set k)
    → (Points d (low + 2 ^ d) set list → Points d (low + 2 ^ d) next (to_front list way))
    → Points (suc d) low state list → Points (suc d) low next (to_front list way)
points_upper d low state set next way list le lt small bit others below step points =
    let double : 2 ^ suc d ≡ 2 ^ d * 2 = pow-suc 2 d in
    let pos : 0 < 2 ^ d = pow_pos d in (
      below (low + 2 ^ d) (omega arith) ∙ bit ∙ sym (other_half-upper d low way list le lt),
      Points-above d low next way list le
          (Points-bits d low state next list (λ k gt lt'. below k (omega arith) ∙ others k (omega arith) (omega arith)) points.1),
      step (Points-bits d (low + 2 ^ d) state set list (λ k gt lt'. others k (omega arith) (omega arith)) points.2),
    )

-- ---- the same with the size that the code halves

pub touch_lower : (d low size state set next way : ℕ) (list : List ℕ) → 2 ≤ size → low ≤ way
    → way < low + size / 2 → low + size ≤ 16
    → bit_at set (low + size / 2) ≡ 1 → ((k : ℕ) → k ≢ low + size / 2 → k < 64 → bit_at set k ≡ bit_at state k)
    → ((k : ℕ) → low + size / 2 ≤ k → k < 64 → bit_at next k ≡ bit_at set k)
    → ((e : ℕ) → size / 2 ≡ 2 ^ e → Points e low set list → Points e low next (to_front list way))
    → size ≡ 2 ^ d → Points d low state list → Points d low next (to_front list way)
touch_lower zero low size state set next way list two le lt small bit others above step is points = tt
touch_lower (suc d) low size state set next way list two le lt small bit others above step is points =
    let double : 2 ^ suc d ≡ 2 ^ d * 2 = pow-suc 2 d in
    let half : size / 2 ≡ 2 ^ d = omega arith in
    points_lower d low state set next way list le (omega arith) (omega arith)
    (subst (λ (m : ℕ). bit_at set (low + m) ≡ 1) half bit)
    (λ k ne. others k (λ e. ne (omega arith))) (λ k ge. above k (omega arith)) (step d half) points

pub touch_upper : (d low size state set next way : ℕ) (list : List ℕ) → 2 ≤ size → low + size / 2 ≤ way
    → way < low + size → low + size ≤ 16
    → bit_at set (low + size / 2) ≡ 0 → ((k : ℕ) → k ≢ low + size / 2 → k < 64 → bit_at set k ≡ bit_at state k)
    → ((k : ℕ) → k ≤ low + size / 2 → bit_at next k ≡ bit_at set k)
    → ((e : ℕ) → size - size / 2 ≡ 2 ^ e → Points e (low + size / 2) set list → Points e (low + size / 2) next (to_front list way))
    → size ≡ 2 ^ d → Points d low state list → Points d low next (to_front list way)
touch_upper zero low size state set next way list two le lt small bit others below step is points = tt
touch_upper (suc d) low size state set next way list two le lt small bit others below step is points =
    let double : 2 ^ suc d ≡ 2 ^ d * 2 = pow-suc 2 d in
    let half : size / 2 ≡ 2 ^ d = omega arith in
    points_upper d low state set next way list (omega arith) (omega arith) (omega arith)
    (subst (λ (m : ℕ). bit_at set (low + m) ≡ 0) half bit)
    (λ k ne. others k (λ e. ne (omega arith))) (λ k ge. below k (omega arith))
    (subst (λ (m : ℕ). Points d (low + m) set list → Points d (low + m) next (to_front list way)) half (step d (omega arith))) points

-- ---- a second touch of the way

pub again_lower : (d low size set next way : ℕ) (list : List ℕ) → 2 ≤ size → low ≤ way → way < low + size / 2
    → low + size ≤ 16
    → bit_at set (low + size / 2) ≡ 1
    → ((k : ℕ) → low + size / 2 ≤ k → k < 64 → bit_at next k ≡ bit_at set k)
    → ((e : ℕ) → size / 2 ≡ 2 ^ e → Points e low next list → Points e low next (to_front list way))
    → size ≡ 2 ^ d → Points d low next list → Points d low next (to_front list way)
again_lower zero low size set next way list two le lt small bit above step is points = tt
again_lower (suc d) low size set next way list two le lt small bit above step is points =
    let double : 2 ^ suc d ≡ 2 ^ d * 2 = pow-suc 2 d in
    let pos : 0 < 2 ^ d = pow_pos d in
    let half : size / 2 ≡ 2 ^ d = omega arith in
    let middle : bit_at set (low + 2 ^ d) ≡ 1 = subst (λ (m : ℕ). bit_at set (low + m) ≡ 1) half bit in (
      above (low + 2 ^ d) (omega arith) (omega arith) ∙ middle ∙ sym (other_half-lower d low way list le (omega arith)),
      step d half points.1,
      Points-below d (low + 2 ^ d) next way list (omega arith) points.2,
    )

pub again_upper : (d low size set next way : ℕ) (list : List ℕ) → 2 ≤ size → low + size / 2 ≤ way
    → way < low + size → low + size ≤ 16
    → bit_at set (low + size / 2) ≡ 0
    → ((k : ℕ) → k ≤ low + size / 2 → bit_at next k ≡ bit_at set k)
    → ((e : ℕ) → size - size / 2 ≡ 2 ^ e → Points e (low + size / 2) next list → Points e (low + size / 2) next (to_front list way))
    → size ≡ 2 ^ d → Points d low next list → Points d low next (to_front list way)
again_upper zero low size set next way list two le lt small bit below step is points = tt
again_upper (suc d) low size set next way list two le lt small bit below step is points =
    let double : 2 ^ suc d ≡ 2 ^ d * 2 = pow-suc 2 d in
    let pos : 0 < 2 ^ d = pow_pos d in
    let half : size / 2 ≡ 2 ^ d = omega arith in
    let middle : bit_at set (low + 2 ^ d) ≡ 0 = subst (λ (m : ℕ). bit_at set (low + m) ≡ 0) half bit in
    let upper : Points d (low + 2 ^ d) next list → Points d (low + 2 ^ d) next (to_front list way) =
    subst (λ (m : ℕ). Points d (low + m) next list → Points d (low + m) next (to_front list way)) half (step d (omega arith)) in (
      below (low + 2 ^ d) (omega arith) ∙ middle ∙ sym (other_half-upper d low way list (omega arith) (omega arith)),
      Points-above d low next way list (omega arith) points.1,
      upper points.2,
    )

-- ---- the victim

pub victim_upper : (d low size state chosen : ℕ) (list : List ℕ) → 2 ≤ size
    → bit_at state (low + size / 2) ≡ 1
    → ((e : ℕ) → size - size / 2 ≡ 2 ^ e → Points e (low + size / 2) state list → chosen ≡ victim_in e (low + size / 2) list)
    → size ≡ 2 ^ d → Points d low state list → chosen ≡ victim_in d low list
victim_upper zero low size state chosen list two bit step is points = absurd (omega arith)
victim_upper (suc d) low size state chosen list two bit step is points =
    let double : 2 ^ suc d ≡ 2 ^ d * 2 = pow-suc 2 d in
    let half : size / 2 ≡ 2 ^ d = omega arith in
    let one : other_half d low list ≡ 1 = sym points.0 ∙ subst (λ (m : ℕ). bit_at state (low + m) ≡ 1) half bit in
    let here : low + size / 2 ≡ low + other_half d low list * 2 ^ d = rw one (omega arith) in
    subst (λ (l : ℕ). chosen ≡ victim_in d l list) here
    (step d (omega arith) (subst (λ (m : ℕ). Points d (low + m) state list) (sym half) points.2))
