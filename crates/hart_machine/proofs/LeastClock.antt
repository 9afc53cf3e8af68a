-- A run in the order of the least clock is the run event by event.
use Rattle.std.proofs.Common.{◌≡◌, ℕ, zero, suc, ◌<◌, ◌≤◌, Bool, true, false, ltb, List, [], ◌∷◌, ◌++◌, Option, Some, None, fold, ap, sym, ◌∙◌, refl, arith}
use Rattle.std.specs.Prelude.{if◌then◌else◌}
use Rattle.std.proofs.lemmas.List.Sums.{fold-append}
use Rattle.event_orders.specs.Machine.{Machine}
use Rattle.event_orders.specs.Orders as orders
use Rattle.event_orders.specs.Orders.{Ran, first, with_switch, by_events, cycles_left}
use Rattle.image_check.specs.Image.{Image}
use Rattle.sched_table.specs.Schedule.{harts_in}
use Rattle.world_view.specs.Machine.{clock_of}
use Rattle.world_view.specs.Harts.{Harts, slots_of, next, after, harts, after_by, harts_by}
use Rattle.world_view.proofs.harts.Runs.{all_cold_are}
use Rattle.hart_orders.specs.declared.choice.Choice.TheVariants.{LeastClock}
use Rattle.hart_orders.specs.Order.{left, earlier, least, chosen, next_hart, events_from, cycles_before, order_of, ran}
use Rattle.hart_machine.specs.HartMachine.{machine_of}
use Rattle.hart_machine.specs.Laws.{RanLaw}

module _ (i : Image) (n : ℕ) where
  abbrev m : Machine
  m = machine_of i

  abbrev many : ℕ
  many = harts_in i.all.schedule

  -- ---- the same hart is next

  earlier_is : (s : Harts) (o : Option ℕ) (h : ℕ) → earlier s o h ≡ orders.earlier m s o h
  earlier_is s None h = refl
  earlier_is s (Some g) h = refl

  first_if : (b : ℕ) (s : Harts) (t : Bool) → fold (earlier s) None (left n s b) ≡ first m n s b
      → fold (earlier s) None (if t then left n s b ++ b ∷ [] else left n s b)
      ≡ (if t then orders.earlier m s (first m n s b) b else first m n s b)
  first_if b s true e =
      fold-append (earlier s) None (left n s b) (b ∷ []) ∙ earlier_is s (fold (earlier s) None (left n s b)) b
      ∙ ap (λ (o : Option ℕ). orders.earlier m s o b) e
  first_if b s false e = e

  first_is : (b : ℕ) (s : Harts) → fold (earlier s) None (left n s b) ≡ first m n s b
  unfolding left first
  first_is zero s = refl
  first_is (suc b) s = first_if b s (ltb (slots_of b s) n) (first_is b s)

  next_is : (j : ℕ) (s : Harts) → next_hart i LeastClock n j s ≡ first m n s many
  unfolding chosen least
  next_is j s = first_is many s

  -- ---- and so are all events

  abbrev events_if : ℕ → ℕ → Harts → Option ℕ → List ℕ
  events_if f j s o = elim o [ None ↦ [] | Some h ↦ h ∷ events_from i LeastClock n f (suc j) (next i h s) ]

  abbrev ran_if : ℕ → Harts → Option ℕ → Ran Harts
  ran_if f s o = elim o [
    | None ↦ orders.stopped s
    | Some h ↦
        let later = by_events m n f (next i h s) in
        if m.inside h s then later else with_switch (m.clock h s, h) later
  ]

  world_either : (b : Bool) (x : ℕ × ℕ) (r : Ran Harts) → r.world ≡ (if b then r else with_switch x r).world
  world_either true x r = refl
  world_either false x r = refl

  world_if : (f j : ℕ) (s : Harts)
      → ((t : Harts) → after i (events_from i LeastClock n f (suc j) t) t ≡ (by_events m n f t).world)
      → (o : Option ℕ) → after i (events_if f j s o) s ≡ (ran_if f s o).world
  unfolding after_by
  world_if f j s ih None = refl
  world_if f j s ih (Some h) =
      ih (next i h s) ∙ world_either (m.inside h s) (m.clock h s, h) (by_events m n f (next i h s))

  world_is : (f j : ℕ) (s : Harts) → after i (events_from i LeastClock n f j s) s ≡ (by_events m n f s).world
  unfolding events_from by_events after_by
  world_is zero j s = refl
  world_is (suc f) j s =
      ap (λ (o : Option ℕ). after i (events_if f j s o) s) (next_is j s) ∙ world_if f j s (world_is f (suc j)) (first m n s many)

  -- ---- from the first one on, and as many at most

  cold_clock : (h : ℕ) → h < many → clock_of h (harts i []).world ≡ 0
  unfolding harts_by after_by
  cold_clock h there = (all_cold_are i many h there).clock

  pub cycles_are : (b : ℕ) → b ≤ many → cycles_left m n (harts i []) b ≡ cycles_before i n b
  unfolding cycles_left cycles_before
  cycles_are zero le = refl
  cycles_are (suc b) le =
      let below = cycles_are b (omega (arith, le)) in
      let clock = cold_clock b (omega (arith, le)) in
      omega (arith, below, clock)

  from_first : (order : List ℕ) → harts i order ≡ after i order (harts i [])
  unfolding harts_by after_by
  from_first order = refl

pub ran_law : RanLaw
unfolding ran order_of
ran_law i n =
    let f = cycles_before i n (harts_in i.all.schedule) in
    let order = events_from i LeastClock n f 0 (harts i []) in
    ap (λ (s : Harts). s.world) (from_first i n order ∙ world_is i n f 0 (harts i []))
    ∙ ap (λ (k : ℕ). (by_events (machine_of i) n k (harts i [])).world.world)
    (sym (cycles_are i n (harts_in i.all.schedule) (omega arith)))
