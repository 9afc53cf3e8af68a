-- What an event tells of the domain and the clock at which it comes.
use Rattle.std.proofs.Common.{◌≡◌, ℕ, ◌≤◌, Bool, true, false, cond, leb, Option, Some, None, ap, ◌∙◌, refl}
use Rattle.std.specs.Prelude.{slice_get}
use Rattle.std.proofs.lemmas.Bool.{le-leb, leb-true}
use Rattle.std.proofs.lemmas.Option.{none-some, same_Some}
use Rattle.irq_partition.specs.declared.Moment.{Moment}
use Rattle.irq_partition.specs.Interrupts.{line_by, next_cycle, due}
use Rattle.thread_set.specs.Threads.{is_ready}
use Rattle.image_check.specs.Own.{Own}
use Rattle.call_table.specs.Domain.{Dom, is_running}
use Rattle.world_view.specs.Event.{Event, thread_event, unless_due, interrupts_of, event}
use Rattle.world_view.specs.Event.Event.{Jump, Deliver, Run}

-- ---- a moment that is due

come_if : (b : Bool) (now line : ℕ) (x : Moment) → leb x.at now ≡ b → cond b (Some x.line) None ≡ Some line
    → (x.at ≤ now) × (x.line ≡ line)
come_if true now line x t e = (leb-true x.at now t, same_Some _ _ e)
come_if false now line x t e = absurd (none-some line e)

come_by : (now line : ℕ) (next : Option Moment) → line_by now next ≡ Some line
    → (x : Moment) × (next ≡ Some x) × (x.at ≤ now) × (x.line ≡ line)
come_by now line None e = absurd (none-some line e)
come_by now line (Some x) e = let h = come_if (leb x.at now) now line x refl e in (x, refl, h.0, h.1)

module _ (o : Own) (now : ℕ) (d : Dom) where
  -- the line that is due is that of the next moment, whose cycle is come
  pub due_moment : (line : ℕ) → due now (interrupts_of o d) ≡ Some line
      → (x : Moment) × (slice_get o.moments d.delivered ≡ Some x) × (x.at ≤ now) × (x.line ≡ line)
  unfolding due interrupts_of
  due_moment line e = come_by now line (slice_get o.moments d.delivered) e

  pub moment_due : (x : Moment) → slice_get o.moments d.delivered ≡ Some x → x.at ≤ now
      → due now (interrupts_of o d) ≡ Some x.line
  unfolding due interrupts_of
  moment_due x is come = ap (line_by now) is ∙ (rw (le-leb x.at now come) refl)

  -- ---- a delivery is of the line that is due, and a thread that runs is ready

  abbrev pub Fits : Event → Type 0
  Fits (Jump t) = Unit {0}
  Fits (Deliver line) = due now (interrupts_of o d) ≡ Some line
  Fits Run = is_ready d.threads.current.state ≡ true

  due_fits : (end : ℕ) (next : Option ℕ) (ready : Bool) (line : Option ℕ)
      → is_ready d.threads.current.state ≡ ready
      → due now (interrupts_of o d) ≡ line → Fits (unless_due (thread_event end next ready) line)
  due_fits end next ready (Some line) is e = e
  due_fits end next true None is e = is
  due_fits end next false None is e = tt

  running_fits : (end : ℕ) (b : Bool) (e : Event) → Fits e → Fits (cond b e (Jump end))
  running_fits end true e h = h
  running_fits end false e h = tt

  pub event_fits : (end : ℕ) → Fits (event o now end d)
  unfolding event
  event_fits end =
      running_fits end (is_running d.status) _
      (due_fits end (next_cycle (interrupts_of o d)) (is_ready d.threads.current.state) (due now (interrupts_of o d)) refl refl)
