-- A stretch is one step and then a stretch, so nobody above sees how it is counted.
use Rattle.std.proofs.Common.{◌≡◌, ℕ, Bool, true, false, cond, ltb, zero, suc, ◌-◌, ◌<◌, ◌≤◌, Option, Some, None, inl, inr, sym, ◌∙◌, refl, arith, ltb-true, lt-ltb, le-ltb}
use Rattle.std.proofs.lemmas.Bool.{cases_lt, le-leb, ltb-false}
use Rattle.std.proofs.lemmas.Option.{none-some}
use Rattle.hardware_check.specs.Hardware.{Hardware}
use Rattle.image_check.specs.Own.{Own}
use Rattle.irq_partition.specs.declared.Moment.{Moment}
use Rattle.irq_partition.specs.Interrupts.{next_of, cycle_of, line_by, next_cycle, due}
use Rattle.thread_set.specs.Threads.{is_ready}
use Rattle.mem_system.specs.Operations.{operation}
use Rattle.mem_system.specs.Cost.{Caches, touched_all, and_then, touched, pass_on, on_core}
use Rattle.call_table.specs.Domain.{Dom, is_running}
use Rattle.world_view.specs.Event.{Event, idle_until, thread_event, unless_due, event, interrupts_of, delivery_touches}
use Rattle.world_view.specs.Event.Event.{Jump, Deliver, Run}
use Rattle.world_view.specs.Machine.{Setting, Local, paid, delivered, happened, step, steps, stretch}

-- a choice by a Bool that is known
pub stops : (b : Bool) (x y : Local) → b ≡ false → elim b [ true ↦ x | false ↦ y ] ≡ y
stops true x y e = cc
stops false x y e = refl

pub goes : (b : Bool) (x y : Local) → b ≡ true → elim b [ true ↦ x | false ↦ y ] ≡ x
goes true x y e = refl
goes false x y e = cc

both : (b : Bool) (x z y : Local) → (b ≡ true → x ≡ z)
    → ◌≡◌ {A = Local} (elim b [ true ↦ x | false ↦ y ]) (elim b [ true ↦ z | false ↦ y ])
both true x z y f = f refl
both false x z y f = refl

pub is_over : (clock end : ℕ) → end ≤ clock → ltb clock end ≡ false
is_over clock end h = le-ltb clock end h

-- what each step before the end keeps, any number of steps keeps
module _ (w : Setting) (end : ℕ) (P : Local → Type 0)
    (next : (s : Local) → s.clock < end → P s → P (step w end s)) where
  by_if : (b : Bool) (n : ℕ) (s : Local) → ltb s.clock end ≡ b → P s
      → ((t : Local) → P t → P (steps w end n t))
      → P (elim b [ true ↦ steps w end n (step w end s) | false ↦ s ])
  by_if true n s t h rest = rest (step w end s) (next s (ltb-true s.clock end t) h)
  by_if false n s t h rest = h

  pub steps_by : (n : ℕ) (s : Local) → P s → P (steps w end n s)
  unfolding steps
  steps_by zero s h = h
  steps_by (suc n) s h = by_if (ltb s.clock end) n s refl h (λ t. steps_by n t)

-- one step more: what holds of each step before the end, and of a state past it, holds of the next step after any number
module _ (w : Setting) (end : ℕ) (P : Local → Local → Type 0)
    (next : (s : Local) → s.clock < end → P s (step w end s)) (past : (s : Local) → end ≤ s.clock → P s s) where
  first_if : (b : Bool) (s : Local) → ltb s.clock end ≡ b → P s (elim b [ true ↦ step w end s | false ↦ s ])
  first_if true s t = next s (ltb-true s.clock end t)
  first_if false s t = past s (ltb-false s.clock end t)

-- ---- where the clock goes

-- a jump goes past the clock
abbrev pub JumpsPast : ℕ → Event → Type 0
JumpsPast now (Jump t) = now < t
JumpsPast now (Deliver line) = Unit {0}
JumpsPast now Run = Unit {0}

-- and not past the slot's end
abbrev pub StaysWithin : ℕ → Event → Type 0
StaysWithin end (Jump t) = t ≤ end
StaysWithin end (Deliver line) = Unit {0}
StaysWithin end Run = Unit {0}

-- a moment that isn't due is later
pub idle_past : (now end : ℕ) (next : Option Moment) → now < end → line_by now next ≡ None
    → now < idle_until end (cycle_of next)
idle_past now end None h none = h
idle_past now end (Some x) h none =
    elim (cases_lt now x.at) [
      | inl later ↦ omega (arith, h, later)
      | inr due ↦ absurd (none-some x.line (sym none ∙ (rw (le-leb x.at now due) refl)))
    ]

pub idle_within : (end : ℕ) (next : Option ℕ) → idle_until end next ≤ end
idle_within end None = omega arith
idle_within end (Some t) = omega arith

due_past : (now end : ℕ) (next : Option Moment) (ready : Bool) (due : Option ℕ) → now < end
    → line_by now next ≡ due
    → JumpsPast now (unless_due (thread_event end (cycle_of next) ready) due)
due_past now end next ready (Some line) h e = tt
due_past now end next true None h e = tt
due_past now end next false None h e = idle_past now end next h e

due_within : (end : ℕ) (next : Option ℕ) (ready : Bool) (due : Option ℕ)
    → StaysWithin end (unless_due (thread_event end next ready) due)
due_within end next ready (Some line) = tt
due_within end next true None = tt
due_within end next false None = idle_within end next

past_if : (now end : ℕ) (b : Bool) (e : Event) → now < end → JumpsPast now e
    → JumpsPast now (cond b e (Jump end))
past_if now end true e h past = past
past_if now end false e h past = h

within_if : (end : ℕ) (b : Bool) (e : Event) → StaysWithin end e → StaysWithin end (cond b e (Jump end))
within_if end true e within = within
within_if end false e within = omega arith

pub event_later : (o : Own) (now end : ℕ) (d : Dom) → now < end → JumpsPast now (event o now end d)
unfolding event due next_cycle
event_later o now end d h =
    past_if now end (is_running d.status) _ h
    (due_past now end (next_of (interrupts_of o d)) (is_ready d.threads.current.state)
    (due now (interrupts_of o d)) h refl)

pub event_within : (o : Own) (now end : ℕ) (d : Dom) → StaysWithin end (event o now end d)
unfolding event
event_within o now end d =
    within_if end (is_running d.status) _
    (due_within end (next_cycle (interrupts_of o d)) (is_ready d.threads.current.state)
    (due now (interrupts_of o d)))

-- ---- steps take time

-- an instruction costs a cycle or more, and so does a delivery
pub record IsTimed (p : Hardware) : Type 0 where
  pub base : 0 < p.costs.base
  pub trap : 0 < p.costs.trap

pub delivery_takes : (w : Setting) (c : Caches)
    → w.machine.costs.trap ≤ (touched_all w.levels w.pinned c (delivery_touches w.machine w.clone)).cost
unfolding delivery_touches operation touched_all and_then touched pass_on on_core
delivery_takes w c = omega arith

module _ (w : Setting) (timed : IsTimed w.machine) (end : ℕ) where
  happened_later : (s : Local) (e : Event) → JumpsPast s.clock e → s.clock < (happened w s e).clock
  unfolding happened paid delivered
  happened_later s (Jump t) past = past
  happened_later s (Deliver line) past = let takes = delivery_takes w s.caches in let trap = timed.trap in omega (arith, takes, trap)
  happened_later s Run past = let base = timed.base in omega (arith, base)

  -- each step moves the clock on
  pub step_later : (s : Local) → s.clock < end → s.clock < (step w end s).clock
  unfolding step
  step_later s h = happened_later s (event w.own s.clock end s.dom) (event_later w.own s.clock end s.dom h)

  -- more steps than are left change nothing
  enough : (n m : ℕ) (s : Local) → end - s.clock ≤ n → end - s.clock ≤ m → steps w end n s ≡ steps w end m s
  unfolding steps
  enough zero zero s h k = refl
  enough zero (suc m) s h k = sym (stops (ltb s.clock end) _ s (is_over s.clock end (omega arith)))
  enough (suc n) zero s h k = stops (ltb s.clock end) _ s (is_over s.clock end (omega arith))
  enough (suc n) (suc m) s h k =
      both (ltb s.clock end) _ _ s
      (λ e. let later = step_later s (ltb-true s.clock end e) in
      enough n m (step w end s) (omega arith) (omega arith))

  one_more : (n : ℕ) (s : Local) → s.clock < end → steps w end (suc n) s ≡ steps w end n (step w end s)
  unfolding steps
  one_more n s h = goes (ltb s.clock end) _ s (lt-ltb s.clock end h)

  pub stretch_step : (s : Local) → s.clock < end → stretch w end s ≡ stretch w end (step w end s)
  stretch_step s h =
      let later = step_later s h in
      enough (end - s.clock) (suc (end - s.clock)) s (omega arith) (omega arith)
      ∙ one_more (end - s.clock) s h
      ∙ enough (end - s.clock) (end - (step w end s).clock) (step w end s) (omega arith) (omega arith)

  pub stretch_done : (s : Local) → end ≤ s.clock → stretch w end s ≡ s
  unfolding steps
  stretch_done s h = enough (end - s.clock) 0 s (omega arith) (omega arith)
