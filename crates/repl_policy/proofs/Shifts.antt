-- A way of an order moves to the front: by its place, and the digits below and above it.
use Rattle.std.proofs.Common.{◌≡◌, ◌≢◌, ℕ, zero, suc, ◌+◌, ◌-◌, ◌*◌, ◌/◌, ◌%◌, ◌^◌, ◌<◌, ◌≤◌, true, false, eqb, List, [], ◌∷◌, length, refl, ap, sym, ◌∙◌, arith, inl, inr, lit≤}
use Rattle.std.specs.Prelude.{bit_and}
use Rattle.std.proofs.Math.Nat.{pow-le-pow_right, div-mul-le_self, zero-mul}
use Rattle.std.proofs.Math.Arith.{mod-mul}
use Rattle.std.proofs.lemmas.Nat.{shr-shr, pow_pos, pow-add, and_mask, mul-le, div-add-mod'}
use Rattle.std.proofs.lemmas.Bool.{cases_eq}
use Rattle.std.proofs.lemmas.Bool.Decides.{nat_tests}
use Rattle.repl_policy.specs.Orders.{without}
use Rattle.repl_policy.specs.Packed.{AllBelow, Packs, all_ways, pack, times, way_at, StandsFirst}
use Rattle.repl_policy.proofs.Packing.{AllBelow-weaker, none_without}

digit_zero : (state : ℕ) → way_at state 0 ≡ state % 16
digit_zero state = let one : state / 1 ≡ state = omega arith in ap (λ (n : ℕ). n % 16) one

shift_suc : (state place : ℕ) → state / 2 ^ (4 * suc place) ≡ state / 16 / 2 ^ (4 * place)
shift_suc state place =
    let sum : 4 * suc place ≡ 4 + 4 * place = omega arith in
    ap (λ (n : ℕ). state / 2 ^ n) sum ∙ sym (shr-shr state 4 (4 * place))

digit_suc : (state place : ℕ) → way_at state (suc place) ≡ way_at (state / 16) place
digit_suc state place = ap (λ (n : ℕ). n % 16) (shift_suc state place)

-- a way of the order stands at a place
pub record StandsAt (state way count : ℕ) : Type 0 where
  pub place : ℕ
  pub below : place < count
  pub here : way_at state place ≡ way

somewhere : (order : List ℕ) (state way : ℕ) → AllBelow 16 order → state ≡ pack order → times way order ≢ 0
    → StandsAt state way (length order)
somewhere [] state way below is some = absurd (some refl)
somewhere (w ∷ ws) state way below is some =
    elim (cases_eq w way) [
      | inl same ↦ record { place = 0; below = omega arith; here = digit_zero state ∙ omega (arith, below.0, is, same) }
      | inr other ↦
          let t : eqb w way ≡ false = grind (arith, nat_tests) in
          let rest : times way ws ≢ 0 = λ none. some (rw t (ap (λ (n : ℕ). 0 + n) none)) in
          let others : state / 16 ≡ pack ws = omega (arith, below.0, is) in
          let there = somewhere ws (state / 16) way below.1 others rest in
          record {
            place = suc there.place;
            below = omega (arith, there.below);
            here = digit_suc state there.place ∙ there.here;
          }
    ]

pub way_stands : (ways state way : ℕ) (list : List ℕ) → Packs ways state list → ways ≤ 16 → way < ways
    → StandsAt state way ways
way_stands ways state way list packs few lt =
    let all : List ℕ = all_ways ways list in
    let once : times way all ≡ 1 = packs.order.once way lt in
    let there =
    somewhere all state way (AllBelow-weaker ways 16 all few packs.order.below) packs.packed
    (λ none. omega (arith, once, none)) in
    record { place = there.place; below = omega (arith, there.below, packs.order.complete); here = there.here }

-- the digits below a place, and those above it, one place lower
abbrev pub closed_up : ℕ → ℕ → ℕ
closed_up state place = state % 2 ^ (4 * place) + state / 2 ^ (4 * place) / 16 * 2 ^ (4 * place)

closed_up-suc : (state place : ℕ)
    → closed_up state (suc place) ≡ state % 16 + 16 * closed_up (state / 16) place
closed_up-suc state place =
    let m : ℕ = 2 ^ (4 * place) in
    let pos : 0 < m = pow_pos (4 * place) in
    let sum : 4 * suc place ≡ 4 * place + 4 = omega arith in
    let power : 2 ^ (4 * suc place) ≡ m * 16 =
    ap (λ (n : ℕ). 2 ^ n) sum ∙ pow-add 2 (4 * place) 4 in
    let low : state % (m * 16) ≡ (state / 16 % m) * 16 + state % 16 = mod-mul state pos (omega arith) in
    let high : state / 2 ^ (4 * suc place) ≡ state / 16 / m = shift_suc state place in
    rw (high, power) (ap (λ (n : ℕ). n + state / 16 / m / 16 * (m * 16)) low ∙ omega arith)

-- without the way, they are the rest of the order
pub without_closed_up : (order : List ℕ) (state way place : ℕ) → AllBelow 16 order → state ≡ pack order
    → times way order ≡ 1 → StandsFirst state way place → place < length order
    → pack (without order way) ≡ closed_up state place
without_closed_up [] state way place below is once at lt = absurd (omega (arith, lt))
without_closed_up (w ∷ ws) state way zero below is once at lt =
    let same : w ≡ way = omega (arith, below.0, is, at.here, digit_zero state) in
    let t : eqb w way ≡ true = grind (arith, nat_tests) in
    let none : times way ws ≡ 0 = grind (arith, nat_tests) in
    let rest : state / 16 ≡ pack ws = omega (arith, below.0, is) in
    let whole : state / 2 ^ (4 * 0) ≡ state = omega arith in
    rw (t, none_without way ws none, whole) (omega (arith, rest))
without_closed_up (w ∷ ws) state way (suc place) below is once at lt =
    let low : state % 16 ≡ w = omega (arith, below.0, is) in
    let other : w ≢ way = λ same. at.first 0 (omega arith) (digit_zero state ∙ low ∙ same) in
    let t : eqb w way ≡ false = grind (arith, nat_tests) in
    let rest_once : times way ws ≡ 1 = grind (arith, nat_tests) in
    let rest : state / 16 ≡ pack ws = omega (arith, below.0, is) in
    let there : StandsFirst (state / 16) way place = record {
      here = sym (digit_suc state place) ∙ at.here;
      first = λ k below_k e. at.first (suc k) (omega (arith, below_k)) (digit_suc state k ∙ e);
    } in
    let ih : pack (without ws way) ≡ closed_up (state / 16) place =
    without_closed_up ws (state / 16) way place below.1 rest rest_once there (omega (arith, lt)) in
    rw (t, closed_up-suc state place, low, ih) refl

-- so the way in front of them is the order in which it is the newest
pub closed_up-without : (ways state way place : ℕ) (list : List ℕ) → Packs ways state list → ways ≤ 16
    → way < ways
    → StandsFirst state way place → place < ways
    → pack (without (all_ways ways list) way) ≡ closed_up state place
closed_up-without ways state way place list packs few lt at within =
    let all : List ℕ = all_ways ways list in
    without_closed_up all state way place (AllBelow-weaker ways 16 all few packs.order.below) packs.packed
    (packs.order.once way lt) at (omega (arith, within, packs.order.complete))

-- the shifts and the mask of the program
pub masked : (state place : ℕ) → place < 16 → state < 2 ^ 64
    → bit_and state (1 * 2 ^ (4 * place) % 18446744073709551616 - 1)
    + state / 2 ^ (4 * place) / 16 * 2 ^ (4 * place) % 18446744073709551616
    ≡ closed_up state place
masked state place few fits =
    let p : ℕ = 2 ^ (4 * place) in
    let q : ℕ = state / p / 16 in
    let most : 4 * place ≤ 60 = omega arith in
    let small : p ≤ 2 ^ 60 = pow-le-pow_right (lit≤ tt) most in
    let one : 1 * p % 18446744073709551616 ≡ p = omega (arith, small) in
    let part : q * p ≤ state / p * p = mul-le q p (state / p) p (omega arith) (omega arith) in
    let whole : state / p * p ≤ state = div-mul-le_self state p in
    let high : q * p % 18446744073709551616 ≡ q * p = omega (arith, part, whole, fits) in
    rw (one, and_mask state (4 * place), high) refl

-- ---- the oldest way, in front of the others

-- a way that stands at a place is in the order
counted : (order : List ℕ) (state way place : ℕ) → AllBelow 16 order → state ≡ pack order
    → place < length order
    → way_at state place ≡ way → 0 < times way order
counted [] state way place below is lt here = absurd (omega (arith, lt))
counted (w ∷ ws) state way zero below is lt here =
    let same : w ≡ way = omega (arith, below.0, is, here, digit_zero state) in
    let t : eqb w way ≡ true = grind (arith, nat_tests) in
    rw t (omega arith)
counted (w ∷ ws) state way (suc place) below is lt here =
    let rest : state / 16 ≡ pack ws = omega (arith, below.0, is) in
    let ih : 0 < times way ws =
    counted ws (state / 16) way place below.1 rest (omega (arith, lt)) (sym (digit_suc state place) ∙ here) in
    omega (arith, ih)

-- one that stands further on is another than the first
first_other : (w way : ℕ) (ws : List ℕ) → times way (w ∷ ws) ≡ 1 → 0 < times way ws → w ≢ way
first_other w way ws once more same =
    let t : eqb w way ≡ true = grind (arith, nat_tests) in
    let both : 1 + times way ws ≡ 1 = rw t at once in
    omega (arith, more, both)

-- a way that stands once stands at no newer place
none_newer : (order : List ℕ) (state way place newer : ℕ) → AllBelow 16 order → state ≡ pack order
    → times way order ≡ 1
    → place < length order → way_at state place ≡ way → newer < place → way_at state newer ≢ way
none_newer [] state way place newer below is once lt here before = absurd (omega (arith, lt))
none_newer (w ∷ ws) state way zero newer below is once lt here before = absurd (omega (arith, before))
none_newer (w ∷ ws) state way (suc place) newer below is once lt here before =
    let rest : state / 16 ≡ pack ws = omega (arith, below.0, is) in
    let within : place < length ws = omega (arith, lt) in
    let later : way_at (state / 16) place ≡ way = sym (digit_suc state place) ∙ here in
    let other : w ≢ way = first_other w way ws once (counted ws (state / 16) way place below.1 rest within later) in
    let t : eqb w way ≡ false = grind (arith, nat_tests) in
    let rest_once : times way ws ≡ 1 = grind (arith, nat_tests) in
    elim newer as (λ (n : ℕ). n < suc place → way_at state n ≢ way) [
      | zero ↦ λ le same. other (omega (arith, below.0, is, same, digit_zero state))
      | suc n ↦ λ le same.
          none_newer ws (state / 16) way place n below.1 rest rest_once within later (omega (arith, le))
          (sym (digit_suc state n) ∙ same)
    ] before

oldest_stands : (ways state way : ℕ) (list : List ℕ) → Packs ways state list → ways ≤ 16 → way < ways
    → state / 2 ^ (4 * (ways - 1)) ≡ way → StandsFirst state way (ways - 1)
oldest_stands ways state way list packs few lt last =
    let all : List ℕ = all_ways ways list in
    let here : way_at state (ways - 1) ≡ way = ap (λ (n : ℕ). n % 16) last ∙ omega (arith, few, lt) in
    record {
      here = here;
      first = λ newer before.
          none_newer all state way (ways - 1) newer (AllBelow-weaker ways 16 all few packs.order.below) packs.packed
          (packs.order.once way lt) (omega (arith, lt, packs.order.complete)) here before;
    }

-- taken off, it leaves the others, each at its place
pub without_oldest : (ways state way newest : ℕ) (list : List ℕ) → Packs ways state list → ways ≤ 16
    → way < ways
    → newest ≡ way → state / 2 ^ (4 * (ways - 1)) ≡ newest → state < 2 ^ 64
    → pack (without (all_ways ways list) way) ≡ state - newest * 2 ^ (4 * (ways - 1)) % 18446744073709551616
without_oldest ways state way newest list packs few lt same last fits =
    let p : ℕ = 2 ^ (4 * (ways - 1)) in
    let stands : StandsFirst state way (ways - 1) = oldest_stands ways state way list packs few lt (last ∙ same) in
    let rest : pack (without (all_ways ways list) way) ≡ state % p + state / p / 16 * p =
    closed_up-without ways state way (ways - 1) list packs few lt stands (omega (arith, lt)) in
    let none : state / p / 16 ≡ 0 = omega (arith, last, same, few, lt) in
    let above : state / p / 16 * p ≡ 0 = ap (λ (n : ℕ). n * p) none ∙ zero-mul p in
    let whole : newest * p + state % p ≡ state = ap (λ (n : ℕ). n * p + state % p) (sym last) ∙ div-add-mod' state p in
    omega (arith, rest, above, whole, fits)
