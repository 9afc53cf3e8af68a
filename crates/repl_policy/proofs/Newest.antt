-- Least recently used and the tree never give up the way that was touched last.
use Rattle.std.proofs.Common.{◌≡◌, ◌≢◌, ◌⊎◌, ℕ, zero, suc, ◌+◌, ◌*◌, ◌^◌, ◌<◌, ◌≤◌, Bool, true, false, cond, eqb, ltb, leb, List, [], ◌∷◌, Option, Some, None, unwrap_or, refl, ap, sym, subst, ◌∙◌, arith, inl, inr}
use Rattle.std.specs.Option.{option_or}
use Rattle.std.proofs.Math.Nat.{pow-suc}
use Rattle.std.proofs.lemmas.Bool.{cases_eq, cases_lt, false≢true}
use Rattle.std.proofs.lemmas.Bool.Decides.{nat_tests}
use Rattle.repl_policy.specs.Orders.{has, without, to_front, oldest, last_way, least_unlisted}
use Rattle.repl_policy.specs.Halves.{victim_in, other_half, half_away, newest_in}
use Rattle.repl_policy.specs.Victims.{victim_in_lt}

-- ---- least recently used

-- the last of what is left without a way is another way
last_without : (way before : ℕ) (list : List ℕ) → before ≢ way → last_way before (without list way) ≢ way
last_without way before [] n = n
last_without way before (next ∷ list) n =
    elim (cases_eq next way) [
      | inl same ↦ let t : eqb next way ≡ true = grind (arith, nat_tests) in rw t (last_without way before list n)
      | inr other ↦ let t : eqb next way ≡ false = grind (arith, nat_tests) in rw t (last_without way next list other)
    ]

last_of_others : (v way before : ℕ) (list : List ℕ) → has (without list way) v ≡ true
    → last_way before (without list way) ≢ way
last_of_others v way before [] listed = absurd (false≢true listed)
last_of_others v way before (next ∷ list) listed =
    elim (cases_eq next way) [
      | inl same ↦
          let t : eqb next way ≡ true = grind (arith, nat_tests) in
          let rest : has (without list way) v ≡ true = rw t at listed in
          rw t (last_of_others v way before list rest)
      | inr other ↦ let t : eqb next way ≡ false = grind (arith, nat_tests) in rw t (last_without way next list other)
    ]

either : (least : Option ℕ) (listed : Bool) (n w : ℕ) → option_or least (cond listed None (Some n)) ≡ Some w
    → (least ≡ Some w) ⊎ ((listed ≡ false) × (n ≡ w))
either None true n w e = absurd (let x : None ≡ Some w = e in cc)
either None false n w e = inr (refl, (let x : Some n ≡ Some w = e in cc))
either (Some v) listed n w e = inl e

neither : (least : Option ℕ) (listed : Bool) (n : ℕ) → option_or least (cond listed None (Some n)) ≡ None
    → (least ≡ None) × (listed ≡ true)
neither None true n e = (refl, refl)
neither None false n e = absurd (let x : Some n ≡ None = e in cc)
neither (Some v) listed n e = absurd (let x : Some v ≡ None = e in cc)

pub is_unlisted : (n w : ℕ) (list : List ℕ) → least_unlisted n list ≡ Some w → has list w ≡ false
is_unlisted zero w list e = absurd (let x : None ≡ Some w = e in cc)
is_unlisted (suc n) w list e =
    elim (either (least_unlisted n list) (has list n) n w e) [
      | inl before ↦ is_unlisted n w list before
      | inr here ↦ subst (λ (v : ℕ). has list v ≡ false) here.1 here.0
    ]

pub all_listed : (n v : ℕ) (list : List ℕ) → least_unlisted n list ≡ None → v < n → has list v ≡ true
all_listed zero v list e lt = absurd (omega arith)
all_listed (suc n) v list e lt =
    let both = neither (least_unlisted n list) (has list n) n e in
    elim (cases_eq v n) [
      | inl same ↦ subst (λ (w : ℕ). has list w ≡ true) (sym same) both.1
      | inr other ↦ all_listed n v list both.0 (omega arith)
    ]

pub has_front : (way : ℕ) (list : List ℕ) → has (to_front list way) way ≡ true
has_front way list = let t : eqb way way ≡ true = grind (arith, nat_tests) in rw t refl

has_behind : (v way : ℕ) (list : List ℕ) → v ≢ way → has (to_front list way) v ≡ true
    → has (without list way) v ≡ true
has_behind v way list n listed = let t : eqb way v ≡ false = grind (arith, nat_tests) in rw t at listed

pub another : (ways way : ℕ) → 2 ≤ ways → (v : ℕ) × (v < ways) × (v ≢ way)
another ways zero two = (1, omega arith, λ e. omega arith)
another ways (suc way) two = (0, omega arith, λ e. omega arith)

pub oldest_is_another : (ways way : ℕ) (list : List ℕ) → 2 ≤ ways → oldest ways (to_front list way) ≢ way
oldest_is_another ways way list two = of (least_unlisted ways (to_front list way)) refl
  where
    of : (least : Option ℕ) → least_unlisted ways (to_front list way) ≡ least
        → unwrap_or least (last_way 0 (to_front list way)) ≢ way
    of None e =
        let v = another ways way two in
        last_of_others v.0 way way list (has_behind v.0 way list v.2 (all_listed ways v.0 (to_front list way) e v.1))
    of (Some w) e = λ same.
        false≢true (sym (is_unlisted ways w (to_front list way) e)
        ∙ subst (λ (v : ℕ). has (to_front list way) v ≡ true) (sym same) (has_front way list))

-- ---- the tree

le_victim_in : (depth low : ℕ) (list : List ℕ) → low ≤ victim_in depth low list
le_victim_in zero low list = omega arith
le_victim_in (suc depth) low list =
    let rest : low + other_half depth low list * 2 ^ depth ≤ victim_in depth (low + other_half depth low list * 2 ^ depth) list =
    le_victim_in depth (low + other_half depth low list * 2 ^ depth) list in
    omega arith

-- the newest listed way of a range is the one in front, where it lies there
newest_front : (low size way : ℕ) (list : List ℕ) → low ≤ way → way < low + size
    → newest_in low size (to_front list way) ≡ Some way
newest_front low size way list le lt =
    let s : leb low way ≡ true = grind (arith, nat_tests) in
    let t : ltb way (low + size) ≡ true = grind (arith, nat_tests) in
    rw (s, t) refl

away_from_lower : (middle way : ℕ) → way < middle → half_away middle (Some way) ≡ 1
away_from_lower middle way lt = let t : ltb way middle ≡ true = grind (arith, nat_tests) in rw t refl

away_from_upper : (middle way : ℕ) → middle ≤ way → half_away middle (Some way) ≡ 0
away_from_upper middle way le = let t : ltb way middle ≡ false = grind (arith, nat_tests) in rw t refl

-- the half that is taken lies beside the way
beside : (half size chosen way : ℕ) → half * size ≤ chosen → chosen < half * size + size → way < size + size
    → ((way < size) × (half ≡ 1)) ⊎ ((size ≤ way) × (half ≡ 0)) → chosen ≢ way
beside half size chosen way above below lt (inl lower) = λ same.
    let start : half * size ≡ 1 * size = ap (λ (h : ℕ). h * size) lower.1 in omega (arith, above, lower.0, start, same)
beside half size chosen way above below lt (inr upper) = λ same.
    let start : half * size ≡ 0 * size = ap (λ (h : ℕ). h * size) upper.1 in omega (arith, below, upper.0, start, same)

pub victim_in_is_another : (depth ways way : ℕ) (list : List ℕ) → ways ≡ 2 ^ depth → 2 ≤ ways → way < ways
    → victim_in depth 0 (to_front list way) ≢ way
victim_in_is_another zero ways way list is two lt = absurd (omega arith)
victim_in_is_another (suc depth) ways way list is two lt =
    let all : List ℕ = to_front list way in
    let half : ℕ = other_half depth 0 all in
    let double : 2 ^ suc depth ≡ 2 ^ depth * 2 = pow-suc 2 depth in
    let newest : newest_in 0 (2 ^ suc depth) all ≡ Some way = newest_front 0 (2 ^ suc depth) way list (omega arith) (omega arith) in
    let is_half : half ≡ half_away (0 + 2 ^ depth) (Some way) = ap (half_away (0 + 2 ^ depth)) newest in
    let above : half * 2 ^ depth ≤ victim_in depth (0 + half * 2 ^ depth) all =
    (let from = le_victim_in depth (0 + half * 2 ^ depth) all in omega (arith, from)) in
    let below : victim_in depth (0 + half * 2 ^ depth) all < half * 2 ^ depth + 2 ^ depth =
    (let to = victim_in_lt depth (0 + half * 2 ^ depth) all in omega (arith, to)) in
    beside half (2 ^ depth) (victim_in depth (0 + half * 2 ^ depth) all) way above below (omega (arith, double, is, lt))
    (elim (cases_lt way (2 ^ depth)) [
      | inl lower ↦ inl (lower, is_half ∙ away_from_lower (0 + 2 ^ depth) way (omega arith))
      | inr upper ↦ inr (upper, is_half ∙ away_from_upper (0 + 2 ^ depth) way (omega arith))
    ])
