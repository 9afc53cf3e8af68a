-- An order of ways as a number, and the list that it stands for.
use Rattle.std.proofs.Common.{◌≡◌, ◌≢◌, ℕ, zero, suc, ◌+◌, ◌-◌, ◌*◌, ◌/◌, ◌%◌, ◌^◌, ◌<◌, ◌≤◌, Bool, true, false, not, cond, eqb, List, [], ◌∷◌, ◌++◌, length, refl, ap, sym, subst, ◌∙◌, arith, inl, inr, lit<, lit≤, zero-add, Option, unwrap_or, Some, None}
use Rattle.std.specs.Option.{option_or}
use Rattle.std.proofs.Math.Nat.{pow-suc, pow-le-pow_right}
use Rattle.std.proofs.lemmas.Nat.{shr-shr}
use Rattle.std.proofs.lemmas.Bool.{cases_eq}
use Rattle.std.proofs.lemmas.Bool.Decides.{nat_tests}
use Rattle.repl_policy.specs.Orders.{has, without, to_front, oldest, last_way, least_unlisted}
use Rattle.repl_policy.specs.Packed.{AllBelow, IsOrder, Packs, all_ways, pack, unlisted, times}

pub AllBelow-weaker : (n m : ℕ) (order : List ℕ) → n ≤ m → AllBelow n order → AllBelow m order
AllBelow-weaker n m [] le below = tt
AllBelow-weaker n m (w ∷ ws) le below = (omega (arith, below.0), AllBelow-weaker n m ws le below.1)

-- ---- an order without a way

pub length-without : (way : ℕ) (order : List ℕ) → length (without order way) + times way order ≡ length order
length-without way [] = refl
length-without way (w ∷ ws) =
    let ih : length (without ws way) + times way ws ≡ length ws = length-without way ws in
    elim (eqb w way) as (λ b. length (cond (not b) (w ∷ without ws way) (without ws way)) + (cond b 1 0 + times way ws) ≡ suc (length ws)) [
      | true ↦ omega (arith, ih)
      | false ↦ omega (arith, ih)
    ]

pub times-without_same : (way : ℕ) (order : List ℕ) → times way (without order way) ≡ 0
times-without_same way [] = refl
times-without_same way (w ∷ ws) = let ih : times way (without ws way) ≡ 0 = times-without_same way ws in grind (arith, nat_tests)

pub times-without_other : (v way : ℕ) (order : List ℕ) → v ≢ way → times v (without order way) ≡ times v order
times-without_other v way [] n = refl
times-without_other v way (w ∷ ws) n =
    let ih : times v (without ws way) ≡ times v ws = times-without_other v way ws n in
    grind (arith, nat_tests)

pub has-without_other : (v way : ℕ) (order : List ℕ) → v ≢ way → has (without order way) v ≡ has order v
has-without_other v way [] n = refl
has-without_other v way (w ∷ ws) n = let ih : has (without ws way) v ≡ has ws v = has-without_other v way ws n in grind (arith, nat_tests)

AllBelow-without : (n way : ℕ) (order : List ℕ) → AllBelow n order → AllBelow n (without order way)
AllBelow-without n way [] below = tt
AllBelow-without n way (w ∷ ws) below =
    elim (eqb w way) as (λ b. AllBelow n (cond (not b) (w ∷ without ws way) (without ws way))) [
      | true ↦ AllBelow-without n way ws below.1
      | false ↦ (below.0, AllBelow-without n way ws below.1)
    ]

without-append : (way : ℕ) (xs ys : List ℕ) → without (xs ++ ys) way ≡ without xs way ++ without ys way
without-append way [] ys = refl
without-append way (w ∷ ws) ys =
    let ih : without (ws ++ ys) way ≡ without ws way ++ without ys way = without-append way ws ys in
    elim (eqb w way) as
    (λ b. cond (not b) (w ∷ without (ws ++ ys) way) (without (ws ++ ys) way)
    ≡ cond (not b) (w ∷ without ws way) (without ws way) ++ without ys way) [
      | true ↦ ih
      | false ↦ ap (λ zs. w ∷ zs) ih
    ]

-- ---- the unlisted ways

without_listed_same : (listed : Bool) (n way : ℕ) (us : List ℕ) → eqb n way ≡ true
    → without (cond listed us (n ∷ us)) way ≡ without us way
without_listed_same true n way us e = refl
without_listed_same false n way us e = rw e refl

without_listed_other : (listed : Bool) (n way : ℕ) (us vs : List ℕ) → eqb n way ≡ false → vs ≡ without us way
    → cond listed vs (n ∷ vs) ≡ without (cond listed us (n ∷ us)) way
without_listed_other true n way us vs e same = same
without_listed_other false n way us vs e same = rw e (ap (λ ws. n ∷ ws) same)

unlisted-to_front : (way : ℕ) (list : List ℕ) (n : ℕ)
    → unlisted n (to_front list way) ≡ without (unlisted n list) way
unlisted-to_front way list zero = refl
unlisted-to_front way list (suc n) =
    let ih : unlisted n (to_front list way) ≡ without (unlisted n list) way = unlisted-to_front way list n in
    elim (cases_eq n way) [
      | inl same ↦
          let t : eqb way n ≡ true = grind (arith, nat_tests) in
          let t' : eqb n way ≡ true = grind (arith, nat_tests) in
          rw t (ih ∙ sym (without_listed_same (has list n) n way (unlisted n list) t'))
      | inr other ↦
          let t : eqb way n ≡ false = grind (arith, nat_tests) in
          let t' : eqb n way ≡ false = grind (arith, nat_tests) in
          rw (t, has-without_other n way list other) (without_listed_other (has list n) n way
          (unlisted n list) (unlisted n (to_front list way)) t' ih)
    ]

-- a touch of the list is a touch of the whole order
all_ways-to_front : (n way : ℕ) (list : List ℕ)
    → all_ways n (to_front list way) ≡ to_front (all_ways n list) way
all_ways-to_front n way list =
    ap (λ (us : List ℕ). (way ∷ without list way) ++ us) (unlisted-to_front way list n)
    ∙ ap (λ (us : List ℕ). way ∷ us) (sym (without-append way list (unlisted n list)))

last_way-append : (way : ℕ) (xs ys : List ℕ) → last_way way (xs ++ ys) ≡ last_way (last_way way xs) ys
last_way-append way [] ys = refl
last_way-append way (x ∷ xs) ys = last_way-append x xs ys

last_listed : (listed : Bool) (least : Option ℕ) (n way : ℕ) (us : List ℕ)
    → ((w : ℕ) → last_way w us ≡ unwrap_or least w)
    → last_way way (cond listed us (n ∷ us)) ≡ unwrap_or (option_or least (cond listed None (Some n))) way
last_listed true None n way us ih = ih way
last_listed true (Some w) n way us ih = ih way
last_listed false None n way us ih = ih n
last_listed false (Some w) n way us ih = ih n

last_way-unlisted : (list : List ℕ) (n way : ℕ)
    → last_way way (unlisted n list) ≡ unwrap_or (least_unlisted n list) way
last_way-unlisted list zero way = refl
last_way-unlisted list (suc n) way = last_listed (has list n) (least_unlisted n list) n way (unlisted n list) (last_way-unlisted list n)

-- the last way of the whole order is the oldest
last_way-all_ways : (n : ℕ) (list : List ℕ) → last_way 0 (all_ways n list) ≡ oldest n list
last_way-all_ways n list = last_way-append 0 list (unlisted n list) ∙ last_way-unlisted list n (last_way 0 list)

-- ---- fresh orders

times-above : (n way : ℕ) (order : List ℕ) → AllBelow n order → n ≤ way → times way order ≡ 0
times-above n way [] below le = refl
times-above n way (w ∷ ws) below le =
    let ih : times way ws ≡ 0 = times-above n way ws below.1 le in
    let first : w < n = below.0 in
    let t : eqb w way ≡ false = grind (arith, nat_tests) in
    rw (t, zero-add) ih

AllBelow-unlisted : (n : ℕ) → AllBelow n (unlisted n [])
AllBelow-unlisted zero = tt
AllBelow-unlisted (suc n) = (omega arith, AllBelow-weaker n (suc n) (unlisted n []) (omega arith) (AllBelow-unlisted n))

length-unlisted : (n : ℕ) → length (unlisted n []) ≡ n
length-unlisted zero = refl
length-unlisted (suc n) = ap suc (length-unlisted n)

times-unlisted : (n way : ℕ) → way < n → times way (unlisted n []) ≡ 1
times-unlisted zero way lt = absurd (omega arith)
times-unlisted (suc n) way lt =
    elim (cases_eq n way) [
      | inl same ↦
          let t : eqb n way ≡ true = grind (arith, nat_tests) in
          let none : times way (unlisted n []) ≡ 0 = times-above n way (unlisted n []) (AllBelow-unlisted n) (omega arith) in
          rw (t, none) refl
      | inr other ↦
          let t : eqb n way ≡ false = grind (arith, nat_tests) in
          let ih : times way (unlisted n []) ≡ 1 = times-unlisted n way (omega arith) in
          rw (t, ih, zero-add) refl
    ]

pub Packs-fresh : (n : ℕ) → Packs n (pack (unlisted n [])) []
Packs-fresh n = record {
  packed = refl;
  order = record { complete = length-unlisted n; below = AllBelow-unlisted n; once = times-unlisted n };
}

-- ---- a way in front

IsOrder-to_front : (n way : ℕ) (order : List ℕ) → IsOrder n order → way < n → IsOrder n (to_front order way)
IsOrder-to_front n way order is lt =
    let shorter : length (without order way) + times way order ≡ length order = length-without way order in
    let one : times way order ≡ 1 = is.once way lt in
    let all : length order ≡ n = is.complete in
    record {
      complete = omega arith;
      below = (lt, AllBelow-without n way order is.below);
      once = λ v below. elim (cases_eq way v) [
        | inl same ↦
            let t : eqb way v ≡ true = grind (arith, nat_tests) in
            rw t (ap (λ (u : ℕ). 1 + times u (without order way)) (sym same) ∙ ap (λ (k : ℕ). 1 + k) (times-without_same way order))
        | inr other ↦
            let t : eqb way v ≡ false = grind (arith, nat_tests) in
            let n' : v ≢ way = λ e. other (sym e) in
            rw (t, times-without_other v way order n', is.once v below, zero-add) refl
      ];
    }

pub Packs-to_front : (n state way : ℕ) (list : List ℕ) → Packs n state list → way < n
    → Packs n (way + 16 * pack (without (all_ways n list) way)) (to_front list way)
Packs-to_front n state way list packs lt =
    let e : all_ways n (to_front list way) ≡ to_front (all_ways n list) way = all_ways-to_front n way list in
    record {
      packed = ap pack (sym e);
      order = subst (λ (xs : List ℕ). IsOrder n xs) (sym e) (IsOrder-to_front n way (all_ways n list) packs.order lt);
    }

-- ---- the room that an order takes

pack-lt : (order : List ℕ) → AllBelow 16 order → pack order < 16 ^ length order
pack-lt [] below = lit< tt
pack-lt (w ∷ ws) below =
    let rest : pack ws < 16 ^ length ws = pack-lt ws below.1 in
    let e : 16 ^ suc (length ws) ≡ 16 ^ length ws * 16 = pow-suc 16 (length ws) in
    omega (arith, below.0, rest, e)

-- one more way fits in front of at most fifteen
room : (w : ℕ) (order : List ℕ) → w < 16 → length order ≤ 15 → AllBelow 16 order
    → w + 16 * pack order < 2 ^ 64
room w order lt few below =
    let small : pack order < 16 ^ length order = pack-lt order below in
    let bound : 16 ^ length order ≤ 16 ^ 15 = pow-le-pow_right (lit≤ tt) few in
    omega (arith, small, bound)

pub room_in_front : (n way state : ℕ) (list : List ℕ) → Packs n state list → way < n → n ≤ 16
    → way + 16 * pack (without (all_ways n list) way) < 2 ^ 64
room_in_front n way state list packs lt le =
    let all : List ℕ = all_ways n list in
    let below : AllBelow 16 all = AllBelow-weaker n 16 all le packs.order.below in
    let shorter : length (without all way) + times way all ≡ length all = length-without way all in
    let one : times way all ≡ 1 = packs.order.once way lt in
    let complete : length all ≡ n = packs.order.complete in
    room way (without all way) (omega arith) (omega arith) (AllBelow-without 16 way all below)

pub room_for_fresh : (n : ℕ) → n < 16 → n + 16 * pack (unlisted n []) < 2 ^ 64
room_for_fresh n lt =
    let len : length (unlisted n []) ≡ n = length-unlisted n in
    room n (unlisted n []) lt (omega arith) (AllBelow-weaker n 16 (unlisted n []) (omega arith) (AllBelow-unlisted n))

-- ---- the oldest way

last_way_lt : (n way : ℕ) (order : List ℕ) → AllBelow n order → way < n → last_way way order < n
last_way_lt n way [] below lt = lt
last_way_lt n way (w ∷ ws) below lt = last_way_lt n w ws below.1 below.0

last_way-pack : (w : ℕ) (ws : List ℕ) (n : ℕ) → length ws ≡ n → AllBelow 16 (w ∷ ws)
    → pack (w ∷ ws) / 2 ^ (4 * n) ≡ last_way w ws
last_way-pack w [] n len below = subst (λ (k : ℕ). (w + 16 * 0) / 2 ^ (4 * k) ≡ w) len (omega arith)
last_way-pack w (v ∷ vs) n len below =
    let first : pack (w ∷ v ∷ vs) / 2 ^ 4 ≡ pack (v ∷ vs) = omega (arith, below.0) in
    let rest : pack (v ∷ vs) / 2 ^ (4 * length vs) ≡ last_way v vs = last_way-pack v vs (length vs) refl below.1 in
    let sum : 4 * n ≡ 4 + 4 * length vs = omega arith in
    ap (λ (k : ℕ). pack (w ∷ v ∷ vs) / 2 ^ k) sum ∙ sym (shr-shr (pack (w ∷ v ∷ vs)) 4 (4 * length vs))
    ∙ ap (λ (k : ℕ). k / 2 ^ (4 * length vs)) first ∙ rest

-- the highest four bits are the oldest way
pub highest : (n state : ℕ) (list : List ℕ) → Packs n state list → 0 < n → n ≤ 16
    → (state / 2 ^ (4 * (n - 1)) ≡ oldest n list) × (oldest n list < n)
highest n state list packs some le = of (all_ways n list) (last_way-all_ways n list) packs.packed packs.order
  where
    of : (all : List ℕ) → last_way 0 all ≡ oldest n list → state ≡ pack all → IsOrder n all
        → (state / 2 ^ (4 * (n - 1)) ≡ oldest n list) × (oldest n list < n)
    of [] last is order = absurd (omega (arith, order.complete))
    of (w ∷ ws) last is order =
        let len : length ws ≡ n - 1 = omega (arith, order.complete) in
        let read : pack (w ∷ ws) / 2 ^ (4 * (n - 1)) ≡ last_way w ws =
        last_way-pack w ws (n - 1) len (AllBelow-weaker n 16 (w ∷ ws) le order.below) in
        (rw is (read ∙ last), subst (λ (v : ℕ). v < n) last (last_way_lt n w ws order.below.1 order.below.0))

-- ---- a way that is in front already

pub none_without : (way : ℕ) (order : List ℕ) → times way order ≡ 0 → without order way ≡ order
none_without way [] none = refl
none_without way (w ∷ ws) none =
    elim (cases_eq w way) [
      | inl same ↦ let t : eqb w way ≡ true = grind (arith, nat_tests) in absurd (grind (arith, nat_tests))
      | inr other ↦
          let t : eqb w way ≡ false = grind (arith, nat_tests) in
          let rest : times way ws ≡ 0 = grind (arith, nat_tests) in
          rw t (ap (λ (zs : List ℕ). w ∷ zs) (none_without way ws rest))
    ]

front_again : (n way state : ℕ) (order : List ℕ) → IsOrder n order → AllBelow 16 order → way < n
    → state ≡ pack order → state % 16 ≡ way
    → way + 16 * pack (without order way) ≡ state
front_again n way state [] is below lt packed first = absurd (omega (arith, is.complete))
front_again n way state (w ∷ ws) is below lt packed first =
    let same : w ≡ way = omega (arith, below.0) in
    let t : eqb w way ≡ true = grind (arith, nat_tests) in
    let one : times way (w ∷ ws) ≡ 1 = is.once way lt in
    let none : times way ws ≡ 0 = grind (arith, nat_tests) in
    rw t (ap (λ (zs : List ℕ). way + 16 * pack zs) (none_without way ws none) ∙ omega arith)

-- where a way is the newest already, the order stays as it is
pub Packs-newest : (n state way : ℕ) (list : List ℕ) → Packs n state list → n ≤ 16 → way < n
    → state % 16 ≡ way → Packs n state (to_front list way)
Packs-newest n state way list packs le lt first =
    let all : List ℕ = all_ways n list in
    let same = front_again n way state all packs.order (AllBelow-weaker n 16 all le packs.order.below) lt packs.packed first in
    subst (λ (s : ℕ). Packs n s (to_front list way)) same (Packs-to_front n state way list packs lt)
