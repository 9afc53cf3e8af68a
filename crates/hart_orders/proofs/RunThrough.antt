-- The order of a run ends where each hart has had its slots.
use Rattle.std.proofs.Common.{◌≡◌, ◌≢◌, ℕ, zero, suc, ◌+◌, ◌-◌, ◌<◌, ◌≤◌, Bool, true, false, ltb, true≢false, refl, sym, ap, ◌∙◌, subst, arith, List, [], ◌∷◌, ◌++◌, length, Some, None, Option, ◌⊎◌, inl, inr}
use Rattle.std.specs.Prelude.{if◌then◌else◌}
use Rattle.std.proofs.lemmas.Bool.{cases_eq}
use Rattle.std.proofs.lemmas.List.Elements.{All-nil, All-cons, All-push}
use Rattle.tp_base.specs.Table.{at-empty}
use Rattle.sched_table.specs.Schedule.{harts_in, on_hart, start}
use Rattle.sched_table.proofs.Starts.{order_law}
use Rattle.image_check.specs.Image.{Image}
use Rattle.image_check.specs.Laws.{Runnable}
use Rattle.world_view.specs.Machine.{guarded, Hart, World, clock_of}
use Rattle.world_view.specs.Harts.{Harts, Progress, progress_of, slots_of, start_on, end_on, proceeds, begins, runs, goes_on, next, after, harts, next_by, after_by, harts_by, settles}
use Rattle.world_view.specs.HartLaws.{AreHartsOf, IsBetween}
use Rattle.world_view.proofs.harts.Events.{IsInside, IsHart}
use Rattle.world_view.proofs.harts.Runs.{Running, progress-same}
use Rattle.world_view.proofs.harts.Clocks.{hart_between, hart_rises, hart_stays}
use Rattle.world_view.proofs.harts.Events.{begun_world}
use Rattle.world_view.proofs.harts.Isolation.{running, next_law}
use Rattle.hart_orders.specs.declared.choice.Choice.{Choice}
use Rattle.hart_orders.specs.Order.{next_hart, events_from, cycles_before, order_of}
use Rattle.hart_orders.specs.Laws.{EachChosenLaw, HartsLaw, ThroughLaw}
use Rattle.hart_orders.proofs.Chosen.{has_left, nobody}

-- ---- the order, event by event

abbrev pub event_if : Image → Choice → ℕ → ℕ → ℕ → Harts → Option ℕ → List ℕ
event_if i c n f j s o = elim o [ None ↦ [] | Some h ↦ h ∷ events_from i c n f (suc j) (next i h s) ]

head_is : (g h : ℕ) (gs hs : List ℕ) → g ∷ gs ≡ h ∷ hs → g ≡ h
head_is g h gs hs e = ap (λ (xs : List ℕ). elim xs [ [] ↦ g | (x ∷ rest) ↦ x ]) e

tail_is : (g h : ℕ) (gs hs : List ℕ) → g ∷ gs ≡ h ∷ hs → gs ≡ hs
tail_is g h gs hs e = ap (λ (xs : List ℕ). elim xs [ [] ↦ gs | (x ∷ rest) ↦ rest ]) e

not_nil : (before later : List ℕ) (h : ℕ) → [] ≢ before ++ h ∷ later
not_nil [] later h e = cc e
not_nil (b ∷ before) later h e = cc e

module _ (i : Image) (c : Choice) (n : ℕ) where
  -- of the events from there on each is of who was chosen
  abbrev AreChosen : ℕ → Harts → List ℕ → Type 0
  AreChosen j s order = (before later : List ℕ) (h : ℕ) → order ≡ before ++ h ∷ later
      → next_hart i c n (j + length before) (after i before s) ≡ Some h

  chosen_if : (f j : ℕ) (s : Harts) → ((t : Harts) → AreChosen (suc j) t (events_from i c n f (suc j) t))
      → (o : Option ℕ)
      → next_hart i c n j s ≡ o → AreChosen j s (event_if i c n f j s o)
  unfolding after_by
  chosen_if f j s rest None is before later h e = absurd (not_nil before later h e)
  chosen_if f j s rest (Some g) is [] later h e =
      let now : j ≡ j + 0 = omega arith in
      subst (λ (m : ℕ). next_hart i c n m s ≡ Some h) now (is ∙ ap (λ (x : ℕ). Some x) (head_is g h _ later e))
  chosen_if f j s rest (Some g) is (b ∷ before) later h e =
      let now : suc j + length before ≡ j + suc (length before) = omega arith in
      subst (λ (m : ℕ). next_hart i c n m (after i before (next i b s)) ≡ Some h) now
      (subst (λ (x : ℕ). next_hart i c n (suc j + length before) (after i before (next i x s)) ≡ Some h) (head_is g b _ _ e)
      (rest (next i g s) before later h (tail_is g b _ _ e)))

  chosen_from : (f j : ℕ) (s : Harts) → AreChosen j s (events_from i c n f j s)
  unfolding events_from
  chosen_from zero j s = λ before later h e. absurd (not_nil before later h e)
  chosen_from (suc f) j s = chosen_if f j s (chosen_from f (suc j)) (next_hart i c n j s) refl

pub each_chosen : EachChosenLaw
unfolding order_of harts_by after_by
each_chosen i c n h before later e =
    let now : 0 + length before ≡ length before = omega arith in
    subst (λ (m : ℕ). next_hart i c n m (harts i before) ≡ Some h) now
    (chosen_from i c n (cycles_before i n (harts_in i.all.schedule)) 0 (harts i []) before later h e)

-- ---- how far an event takes its hart

module _ (i : Image) (h : ℕ) (s : Harts) where
  -- the slot goes on, or it has ended
  abbrev GoesOn : Progress → Type 0
  GoesOn x = (x ≡ record { slots = slots_of h s; inside = true }) ⊎ (x ≡ record { slots = suc (slots_of h s); inside = false })

  goes_if : (b : Bool) (w : World)
      → GoesOn (progress_of h
      (if b then proceeds h s w (slots_of h s) true else proceeds h s w (suc (slots_of h s)) false))
  goes_if true w = inl (progress-same h s w (slots_of h s) true)
  goes_if false w = inr (progress-same h s w (suc (slots_of h s)) false)

  next_if : (b : Bool) → GoesOn (progress_of h (if b then goes_on None i h s else begins None i h s))
  unfolding begins goes_on settles guarded
  next_if true =
      let w = runs None i h (slots_of h s) s.world in
      goes_if (ltb (clock_of h w) (end_on i h (slots_of h s))) w
  next_if false =
      let w = begun_world i h s in
      goes_if (ltb (clock_of h w) (end_on i h (slots_of h s))) w

  goes : GoesOn (progress_of h (next i h s))
  unfolding next_by
  goes = next_if (progress_of h s).inside

-- ---- how far harts are

module _ (i : Image) (r : Runnable i) (n : ℕ) where
  abbrev many : ℕ
  many = harts_in i.all.schedule

  -- after an order of events, none of which was of a hart that had had its slots
  pub record Going (s : Harts) : Type 0 where
    pub order : List ℕ
    pub of_harts : AreHartsOf i order
    pub is : s ≡ harts i order
    pub few : (h : ℕ) → h < many → slots_of h s ≤ n
    pub inside : (h : ℕ) → h < many → (progress_of h s).inside ≡ true → slots_of h s < n

  -- the cycles that are left of each hart below a number
  unfoldable pub remaining : Harts → ℕ → ℕ
  remaining s zero = 0
  remaining s (suc h) = remaining s h + (start_on i h n - clock_of h s.world)

  remaining_first : (s : Harts) (m : ℕ) → remaining s m ≤ cycles_before i n m
  unfolding cycles_before remaining
  remaining_first s zero = omega arith
  remaining_first s (suc h) = let below = remaining_first s h in omega (arith, below)

  module _ (s later : Harts) (h : ℕ) (others : (g : ℕ) → g ≢ h → clock_of g later.world ≡ clock_of g s.world)
      (rises : clock_of h s.world < clock_of h later.world) (early : clock_of h s.world < start_on i h n) where
    remaining_same : (m : ℕ) → m ≤ h → remaining later m ≡ remaining s m
    unfolding remaining
    remaining_same zero l = refl
    remaining_same (suc g) l =
        let below = remaining_same g (omega (arith, l)) in
        let same = others g (λ q. omega (arith, l, q)) in
        omega (arith, below, same)

    remaining_falls : (m : ℕ) → h < m → remaining later m < remaining s m
    unfolding remaining
    remaining_falls zero l = absurd (omega (arith, l))
    remaining_falls (suc g) l = elim (cases_eq g h) [
      | inl same ↦
          let below = remaining_same h (omega arith) in
          subst (λ (x : ℕ). remaining later (suc x) < remaining s (suc x)) (sym same) (omega (arith, below, rises, early))
      | inr other ↦
          let below = remaining_falls g (omega (arith, l, other)) in
          let still = others g other in
          omega (arith, below, still)
    ]

  -- ---- one event

  module _ (s : Harts) (going : Going s) where
    run : Running i r s
    run = subst (Running i r) (sym going.is) (running i r going.order going.of_harts)

    early_if : (b : Bool) (h : ℕ) → (progress_of h s).inside ≡ b → h < many → slots_of h s < n
        → clock_of h s.world < start_on i h n
    unfolding start
    early_if true h t l few =
        let inside : IsInside i h (slots_of h s) s.world = subst (λ (b : Bool). IsHart i b h (slots_of h s) s.world) t (run.hart h l) in
        let soon = inside.soon in
        let order = order_law (on_hart i.all.schedule h) (suc (slots_of h s)) n few in
        omega (arith, soon, order)
    early_if false h t l few =
        let between = subst (λ (x : Harts). (progress_of h x).inside ≡ false → IsBetween i h x) (sym going.is)
        (hart_between i h going.order r going.of_harts l) t in
        let order = order_law (on_hart i.all.schedule h) (slots_of h s) n (omega (arith, few)) in
        omega (arith, between, order)

    -- while it has slots left it hasn't come to slot n
    early : (h : ℕ) → h < many → slots_of h s < n → clock_of h s.world < start_on i h n
    early h l few = early_if (progress_of h s).inside h refl l few

    rises : (h : ℕ) → h < many → clock_of h s.world < clock_of h (next i h s).world
    rises h l =
        subst (λ (x : Harts). clock_of h x.world < clock_of h (next i h x).world) (sym going.is)
        (hart_rises i h going.order r going.of_harts l)

    module _ (h : ℕ) (l : h < many) (few : slots_of h s < n) where
      falls : remaining (next i h s) many < remaining s many
      falls = remaining_falls s (next i h s) h
          (λ g other. ap (λ (x : Hart). x.clock) (hart_stays i g h s other).hart) (rises h l) (early h l few) many l

      few_if : (p : Progress) → GoesOn i h s p → (p.slots ≤ n) × (p.inside ≡ true → p.slots < n)
      few_if p (inl e) = let same = ap (λ (x : Progress). x.slots) e in (omega (arith, same, few), λ t. omega (arith, same, few))
      few_if p (inr e) = let same = ap (λ (x : Progress). x.slots) e in
          (omega (arith, same, few), λ t. absurd (true≢false (sym t ∙ ap (λ (x : Progress). x.inside) e)))

      few_next : (g : ℕ) → g < many
          → (slots_of g (next i h s) ≤ n)
          × ((progress_of g (next i h s)).inside ≡ true → slots_of g (next i h s) < n)
      few_next g there = elim (cases_eq g h) [
        | inl same ↦
            subst (λ (x : ℕ). (slots_of x (next i h s) ≤ n)
            × ((progress_of x (next i h s)).inside ≡ true → slots_of x (next i h s) < n)) (sym same)
            (few_if (progress_of h (next i h s)) (goes i h s))
        | inr other ↦
            subst (λ (p : Progress). (p.slots ≤ n) × (p.inside ≡ true → p.slots < n)) (sym (hart_stays i g h s other).progress)
            (going.few g there, going.inside g there)
      ]

      still : Going (next i h s)
      still = record {
        order = going.order ++ h ∷ [];
        of_harts = All-push (λ (g : ℕ). g < many) going.order h going.of_harts l;
        is = ap (next i h) going.is ∙ sym (next_law i going.order h);
        few = λ g there. (few_next g there).0;
        inside = λ g there. (few_next g there).1;
      }

  -- ---- all of them

  module _ (c : Choice) where
    pub record Through (s : Harts) : Type 0 where
      pub going : Going s
      pub all : (h : ℕ) → h < many → n ≤ slots_of h s

    at_last : (j : ℕ) (s : Harts) → Going s → remaining s many ≤ 0 → (o : Option ℕ) → next_hart i c n j s ≡ o
        → Through s
    at_last j s going none None e = record { going = going; all = nobody i c n j s e }
    at_last j s going none (Some h) e =
        let is = has_left i c n j h s e in
        let fell = falls s going h is.0 is.1 in
        absurd (omega (arith, none, fell))

    through_if : (f j : ℕ) (s : Harts) → Going s → remaining s many ≤ suc f
        → ((t : Harts) → Going t → remaining t many ≤ f → Through (after i (events_from i c n f (suc j) t) t))
        → (o : Option ℕ) → next_hart i c n j s ≡ o → Through (after i (event_if i c n f j s o) s)
    unfolding after_by
    through_if f j s going most rest None e = record { going = going; all = nobody i c n j s e }
    through_if f j s going most rest (Some h) e =
        let is = has_left i c n j h s e in
        let fell = falls s going h is.0 is.1 in
        rest (next i h s) (still s going h is.0 is.1) (omega (arith, most, fell))

    through_from : (f j : ℕ) (s : Harts) → Going s → remaining s many ≤ f
        → Through (after i (events_from i c n f j s) s)
    unfolding events_from after_by
    through_from zero j s going most = at_last j s going most (next_hart i c n j s) refl
    through_from (suc f) j s going most = through_if f j s going most (through_from f (suc j)) (next_hart i c n j s) refl

    at_first : (h : ℕ) → progress_of h (harts i []) ≡ record { slots = 0; inside = false }
    unfolding harts_by after_by
    at_first h = at-empty (record { slots = 0; inside = false }) h

    first : Going (harts i [])
    first = record {
      order = [];
      of_harts = All-nil (λ (g : ℕ). g < many);
      is = refl;
      few = λ h l. let none = ap (λ (p : Progress). p.slots) (at_first h) in omega (arith, none);
      inside = λ h l t. absurd (true≢false (sym t ∙ ap (λ (p : Progress). p.inside) (at_first h)));
    }

    pub ends : Through (harts i (order_of i c n))
    unfolding order_of harts_by after_by
    ends = through_from (cycles_before i n many) 0 (harts i []) first (remaining_first (harts i []) many)

-- ---- the laws

module _ (i : Image) (c : Choice) (n : ℕ) where
  harts_if : (f j : ℕ) (s : Harts) → ((t : Harts) → AreHartsOf i (events_from i c n f (suc j) t))
      → (o : Option ℕ) → next_hart i c n j s ≡ o
      → AreHartsOf i (event_if i c n f j s o)
  harts_if f j s rest None e = All-nil (λ (g : ℕ). g < harts_in i.all.schedule)
  harts_if f j s rest (Some h) e =
      All-cons (λ (g : ℕ). g < harts_in i.all.schedule) h _ (has_left i c n j h s e).0 (rest (next i h s))

  harts_from : (f j : ℕ) (s : Harts) → AreHartsOf i (events_from i c n f j s)
  unfolding events_from
  harts_from zero j s = All-nil (λ (g : ℕ). g < harts_in i.all.schedule)
  harts_from (suc f) j s = harts_if f j s (harts_from f (suc j)) (next_hart i c n j s) refl

pub harts_law : HartsLaw
unfolding order_of
harts_law i c n = harts_from i c n (cycles_before i n (harts_in i.all.schedule)) 0 (harts i [])

pub outside_if : (b : Bool) → (b ≡ true → ⊥) → b ≡ false
outside_if true not = absurd (not refl)
outside_if false not = refl

pub through : ThroughLaw
through i c n h r l =
    let there = ends i r n c in
    let few = there.going.few h l in
    let all = there.all h l in
    let outside =
    outside_if (progress_of h (harts i (order_of i c n))).inside
    (λ t. let less = there.going.inside h l t in omega (arith, all, less)) in
    (omega (arith, few, all), hart_between i h (order_of i c n) r (harts_law i c n) l outside)
