-- In the order of the least clock: whose switch comes first, by the ends of slots.
use Rattle.std.proofs.Common.{◌≡◌, ◌++◌, ℕ, zero, suc, ◌<◌, ◌≤◌, List, [], ◌∷◌, length, Some, inl, inr, ap, sym, ◌∙◌, refl, subst, arith}
use Rattle.sched_table.specs.Schedule.{harts_in}
use Rattle.image_check.specs.Public.{Public}
use Rattle.image_check.specs.Image.{Image, own_of}
use Rattle.image_check.specs.Laws.{Runnable}
use Rattle.world_view.specs.Kernel.{no_dom}
use Rattle.world_view.specs.Machine.{clock_of}
use Rattle.world_view.specs.Harts.{Harts, domain_in, end_on, slots_of, switches_of, harts}
use Rattle.world_view.specs.HartLaws.{AreHartsOf}
use Rattle.world_view.proofs.opening.Separate.{separated}
use Rattle.world_view.proofs.time.ActCosts.{instruction_within}
use Rattle.world_view.proofs.harts.Runs.{Running}
use Rattle.world_view.proofs.harts.Isolation.{at_first, running, next_law}
use Rattle.hart_orders.specs.declared.choice.Choice.TheVariants.{LeastClock}
use Rattle.hart_orders.specs.Order.{next_hart, order_of}
use Rattle.hart_orders.proofs.Chosen.{has_left, least_law}
use Rattle.hart_orders.proofs.RunThrough.{each_chosen, harts_law}
use Rattle.mail_orders.specs.Apart.{longest_in, EndsBefore, AreApart}
use Rattle.mail_orders.specs.Turns.{Passes}
use Rattle.mail_orders.specs.Laws.{TurnsLaw, BootsLaw}
use Rattle.mail_orders.proofs.Prefixes.{all_before, each_prefix}
use Rattle.mail_orders.proofs.Counts.{cases_le, IsSwitch, switch_or_not, count_at, count_outside, slots_fewer, count_stays, count_more, count_rises}
use Rattle.mail_orders.proofs.Ends.{late, early, unbooted, ends_past}

pub none_first : (i : Image) (r : Runnable i) (h : ℕ) → switches_of h (harts i []) ≡ 0
none_first i r h = ap count_at (at_first i r h)

module _ (i : Image) (r : Runnable i) (n : ℕ) where
  abbrev many : ℕ
  many = harts_in i.all.schedule

  abbrev order : List ℕ
  order = order_of i LeastClock n

  -- ---- one event of it

  module _ (before later : List ℕ) (x : ℕ) (split : order ≡ before ++ x ∷ later) where
    abbrev s : Harts
    s = harts i before

    abbrev s' : Harts
    s' = harts i (before ++ x ∷ [])

    chosen : next_hart i LeastClock n (length before) s ≡ Some x
    chosen = each_chosen i LeastClock n x before later split

    there : x < many
    there = (has_left i LeastClock n (length before) x s chosen).0

    some : slots_of x s < n
    some = (has_left i LeastClock n (length before) x s chosen).1

    least : (g : ℕ) → g < many → slots_of g s < n → clock_of x s.world ≤ clock_of g s.world
    least g is few = elim (least_law i n (length before) x g s chosen is few) [
      | inl less ↦ omega (arith, less)
      | inr same ↦ let e = same.0 in omega (arith, e)
    ]

    below : AreHartsOf i before
    below =
        all_before (λ (h : ℕ). h < many) before (x ∷ later)
        (subst (AreHartsOf i) split (harts_law i LeastClock n))

    was : Running i r s
    was = running i r before below

    rises : (h : ℕ) → switches_of h s ≤ switches_of h s'
    rises h =
        subst (λ (t : Harts). switches_of h s ≤ switches_of h t) (sym (next_law i before x)) (count_rises i r x there s was h)

    stays : (h : ℕ) → (IsSwitch h x s → ⊥) → switches_of h s' ≡ switches_of h s
    stays h none = ap (switches_of h) (next_law i before x) ∙ count_stays i r x there s was h none

    more : (h : ℕ) → IsSwitch h x s → switches_of h s' ≡ suc (switches_of h s)
    more h w = ap (switches_of h) (next_law i before x) ∙ count_more i r x there s was h w

    -- ---- a switch after a slot

    -- at its switch after slot m hart h's clock is the least, so hart g, which would be behind, has switched after slot k
    turned : (g k h m : ℕ) → g < many → suc k < n → EndsBefore i g k h m → IsSwitch h x s
        → suc (suc m) ≤ switches_of h s' → suc (suc k) ≤ switches_of g s
    turned g k h m is few ends w had = elim (cases_le (switches_of g s) (suc k)) [
      | inl behind ↦
          let slots = slots_fewer g s in
          let clock = least g is (omega (arith, few, behind, slots)) in
          let soon = early i r before below g is k behind in
          let one = subst (λ (y : ℕ). suc (suc m) ≤ switches_of y s') (sym w.hart) had in
          let now = more x (record { hart = refl; outside = w.outside }) in
          let here = count_outside x s w.outside in
          let past = late i r before below x there w.outside m (omega (arith, one, now, here)) in
          let end = ap (λ (y : ℕ). end_on i y m) w.hart in
          absurd (omega (arith, clock, soon, past, end, ends))
      | inr done ↦ done
    ]

    -- at any after its first slot no hart's clock stands at 0
    booted : (g h : ℕ) → g < many → IsSwitch h x s → 2 ≤ switches_of h s' → 1 ≤ switches_of g s
    booted g h is w had = booted_if (switches_of g s) refl
      where
        booted_if : (c : ℕ) → switches_of g s ≡ c → 1 ≤ c
        booted_if (suc c) t = omega arith
        booted_if zero t =
            let slots = slots_fewer g s in
            let clock = least g is (omega (arith, slots, t, some)) in
            let stands = unbooted i r before below g is t in
            let one = subst (λ (y : ℕ). 2 ≤ switches_of y s') (sym w.hart) had in
            let now = more x (record { hart = refl; outside = w.outside }) in
            let here = count_outside x s w.outside in
            let past = late i r before below x there w.outside 0 (omega (arith, one, now, here)) in
            let end = ends_past i r x 0 there in
            absurd (omega (arith, clock, stands, past, end))

    -- a switch is of a hart that has slots left
    few_next : ((h : ℕ) → switches_of h s ≤ n) → (h : ℕ) → switches_of h s' ≤ n
    few_next few h = elim (switch_or_not i h x s) [
      | inl w ↦
          let now = more h w in
          let here = count_outside x s w.outside in
          let same = ap (λ (y : ℕ). switches_of y s) w.hart in
          omega (arith, now, here, same, some)
      | inr none ↦ let now = stays h none in let was = few h in omega (arith, now, was)
    ]

  -- ---- all of them

  abbrev Turned : List ℕ → Type 0
  Turned before = (g k h m : ℕ) → g < many → suc k < n → EndsBefore i g k h m
      → suc (suc m) ≤ switches_of h (harts i before) → suc (suc k) ≤ switches_of g (harts i before)

  more_turned : (before later : List ℕ) (x : ℕ) → order ≡ before ++ x ∷ later → Turned before → Turned (before ++ x ∷ [])
  more_turned before later x split all g k h m is few ends had =
      let rise = rises before later x split g in
      elim (switch_or_not i h x (harts i before)) [
        | inl w ↦ let turned = turned before later x split g k h m is few ends w had in omega (arith, rise, turned)
        | inr none ↦
            let same = stays before later x split h none in
            let turned = all g k h m is few ends (omega (arith, had, same)) in
            omega (arith, rise, turned)
      ]

  pub each_turned : (before later : List ℕ) → order ≡ before ++ later → Turned before
  each_turned before later split =
      each_prefix order Turned more_turned
      (λ g k h m is few ends had. let none = none_first i r h in absurd (omega (arith, had, none))) before later split

  abbrev Booted : List ℕ → Type 0
  Booted before = (g h : ℕ) → g < many → 2 ≤ switches_of h (harts i before) → 1 ≤ switches_of g (harts i before)

  more_booted : (before later : List ℕ) (x : ℕ) → order ≡ before ++ x ∷ later → Booted before → Booted (before ++ x ∷ [])
  more_booted before later x split all g h is had =
      let rise = rises before later x split g in
      elim (switch_or_not i h x (harts i before)) [
        | inl w ↦ let one = booted before later x split g h is w had in omega (arith, rise, one)
        | inr none ↦
            let same = stays before later x split h none in
            let one = all g h is (omega (arith, had, same)) in
            omega (arith, rise, one)
      ]

  pub each_booted : (before later : List ℕ) → order ≡ before ++ later → Booted before
  each_booted before later split =
      each_prefix order Booted more_booted
      (λ g h is had. let none = none_first i r h in absurd (omega (arith, had, none))) before later split

  -- no hart has more than n
  pub each_few : (before later : List ℕ) → order ≡ before ++ later → (h : ℕ) → switches_of h (harts i before) ≤ n
  each_few before later split =
      each_prefix order (λ (xs : List ℕ). (h : ℕ) → switches_of h (harts i xs) ≤ n)
      (λ xs ys x at few. few_next xs ys x at few)
      (λ h. let none = none_first i r h in omega (arith, none)) before later split

  -- an event takes time
  pub lasts_some : (h k : ℕ) → 0 < longest_in i h k
  lasts_some h k =
      let p = i.all.hardware in
      let d = domain_in i h k in
      let within = instruction_within p (own_of i d) (r.sound d).listed 0 no_dom (harts i []).world.storage in
      let base = (separated i r).timed.base in
      omega (arith, within, base)

pub turns : TurnsLaw
turns i n g k h m before later r split is is_h few ends had = each_turned i r n before later split g k h m is few ends had

pub boots : BootsLaw
boots i n g h before later r split is is_h had = each_booted i r n before later split g h is had

-- ---- in the orders of two images that have the same schedule, where the ends of slots lie apart

module _ (i j : Image) (r : Runnable i) (q : Runnable j) (n : ℕ) (all : i.all ≡ j.all) (g h : ℕ)
    (g_is : g < harts_in i.all.schedule) (h_is : h < harts_in i.all.schedule)
    (apart : AreApart i n g h) (apart' : AreApart j n g h)
    (before later past rest : List ℕ) (split : order_of i LeastClock n ≡ before ++ later)
    (split' : order_of j LeastClock n ≡ past ++ rest) where
  abbrev here : Harts
  here = harts i before

  abbrev there_too : Harts
  there_too = harts j past

  there_is : h < harts_in j.all.schedule
  there_is = subst (λ (p : Public). h < harts_in p.schedule) all h_is

  -- no two slots end so in both orders
  never : (k m : ℕ) → switches_of h here ≡ suc (suc m) → switches_of g there_too ≡ suc (suc k)
      → Passes h g here there_too → ⊥
  never k m had had' passes =
      let more = passes.more in
      let fewer = passes.fewer in
      let few = each_few i r n before later split h in
      let few' = each_few j q n past rest split' g in
      elim (apart k m (omega (arith, few', had')) (omega (arith, few, had))) [
        | inl ends ↦
            let turned = each_turned i r n before later split g k h m g_is (omega (arith, few', had')) ends (omega (arith, had)) in
            omega (arith, turned, fewer, had')
        | inr ends ↦ elim (apart' k m (omega (arith, few', had')) (omega (arith, few, had))) [
          | inl ends' ↦
              let long = lasts_some i r n h m in
              let long' = lasts_some j q n g k in
              let ends_g = ap (λ (p : Public). end_on (record i { all = p }) g k) all in
              let ends_h = ap (λ (p : Public). end_on (record i { all = p }) h m) all in
              omega (arith, ends, ends', long, long', ends_g, ends_h)
          | inr ends' ↦
              let turned = each_turned j q n past rest split' h m g k there_is (omega (arith, few, had)) ends' (omega (arith, had')) in
              omega (arith, turned, more, had)
        ]
      ]

  never_if : (c b : ℕ) → switches_of g there_too ≡ c → switches_of h here ≡ b → Passes h g here there_too → c ≤ 1
  never_if zero b had' had passes = omega arith
  never_if (suc zero) b had' had passes = omega arith
  never_if (suc (suc k)) zero had' had passes = let more = passes.more in absurd (omega (arith, more, had))
  never_if (suc (suc k)) (suc zero) had' had passes =
      let more = passes.more in
      let boot = each_booted j q n past rest split' h g there_is (omega (arith, had')) in
      absurd (omega (arith, more, had, boot))
  never_if (suc (suc k)) (suc (suc m)) had' had passes = absurd (never k m had had' passes)

  pub none_passes : Passes h g here there_too → switches_of g there_too ≤ 1
  none_passes passes = never_if (switches_of g there_too) (switches_of h here) refl refl passes
