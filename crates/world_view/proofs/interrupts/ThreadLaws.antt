-- Whose turn it is at each moment, and what wakes a thread that waits.
use Rattle.call_table.specs.Mail.{called}
use Rattle.call_table.proofs.MailCalls.{after_called}
use Rattle.std.proofs.Common.{◌≡◌, ◌≢◌, ℕ, ◌+◌, ◌<◌, true, false, true≢false, List, Some, ◌⊎◌, inl, inr, ap, sym, ◌∙◌, refl, subst}
use Rattle.std.specs.Prelude.{slice_get}
use Rattle.std.proofs.lemmas.Bool.{cases_eq}
use Rattle.tp_base.specs.Act.{either, give}
use Rattle.phys_mem.specs.Mem.{Mem}
use Rattle.rv_decode.specs.declared.Instr.{Instr}
use Rattle.rv_core.specs.Registers.{register}
use Rattle.irq_partition.specs.declared.Moment.{Moment}
use Rattle.thread_set.specs.declared.Thread.{Thread}
use Rattle.thread_set.specs.Threads as threads
use Rattle.thread_set.specs.Threads.{Threads, thread_at, waits_for, with_current}
use Rattle.thread_set.proofs.Changes.{opening-eight}
use Rattle.hardware_check.specs.Hardware.{Hardware}
use Rattle.image_check.specs.Own.{Own}
use Rattle.call_table.specs.Domain as domain
use Rattle.call_table.specs.Domain.{Dom, is_running, placed, exited}
use Rattle.call_table.specs.Claims.{Estate}
use Rattle.call_table.specs.Calls.{call, call_of, number_made}
use Rattle.call_table.specs.ThreadLaws.{HasTurn, MayRun, Signals, after_call}
use Rattle.call_table.proofs.ThreadLawsTurns.{current_others, waits_apart, moved_turn}
use Rattle.call_table.proofs.ThreadLaws.{call_turn, delivery_turn, call_wakes, delivery_wakes, delivery_counts}
use Rattle.world_view.specs.Kernel.{estate, layout, opening_dom}
use Rattle.world_view.specs.Instruction.{stopped, retired_at}
use Rattle.world_view.specs.Event.{Storage, Event, event, noted, instruction}
use Rattle.world_view.specs.Event.Event.{Jump, Deliver, Run}
use Rattle.world_view.specs.Machine.{setting, Local, paid, delivered, happened, step}
use Rattle.world_view.proofs.actions.InstructionLaws.{leaves, noted_threads}
use Rattle.world_view.proofs.steps.EventLaws.{due_moment, Fits, event_fits}

-- ---- an instruction

module _ (e : Estate) (d : Dom) where
  -- the current thread is ready wherever one is; and a thread that waits is left, but by a SIGNAL of its line and by the
  -- domain's end
  record GoesOn (x : Dom) : Type 0 where
    turn : HasTurn x.threads
    waits : (t line : ℕ) → t < 8 → waits_for line (thread_at d.threads t).state ≡ true
        → (thread_at x.threads t ≡ thread_at d.threads t) ⊎ (Signals e d line ⊎ (is_running x.status ≢ true))

  module _ (h : HasTurn d.threads) (may : MayRun d) where
    -- where all threads are left
    same_goes_on : (x : Dom) → x.threads ≡ d.threads → GoesOn x
    same_goes_on x same = record {
      turn = subst HasTurn (sym same) h;
      waits = λ t line below waits. inl (ap (λ (ts : Threads). thread_at ts t) same);
    }

    -- where the current one goes on
    current_goes_on : (x : Dom) (y : Thread) → x.threads ≡ with_current d.threads y
        → y.state ≡ d.threads.current.state → GoesOn x
    current_goes_on x y is state = record {
      turn = subst HasTurn (sym is) (moved_turn d.threads y state h);
      waits = λ t line below waits.
          inl (ap (λ (ts : Threads). thread_at ts t) is ∙ current_others d.threads h.eight y t (waits_apart d.threads line t may waits));
    }

    stopped_goes_on : (code value : ℕ) → GoesOn (stopped code value d)
    unfolding stopped
    stopped_goes_on code value = same_goes_on (stopped code value d) refl

    retired_goes_on : (pc value : ℕ) (regs : List ℕ) (i : Instr)
        → GoesOn (retired_at pc regs (noted i value d))
    unfolding retired_at placed
    retired_goes_on pc value regs i =
        current_goes_on (retired_at pc regs (noted i value d)) (record d.threads.current { pc = pc; regs = regs })
        (ap (λ (ts : Threads). with_current ts (record ts.current { pc = pc; regs = regs })) (noted_threads i value d)) refl

-- an EXIT ends the domain
exit_is : (e : Estate) (d : Dom) (m : Mem) → number_made e d ≡ 0
    → after_call e d m ≡ exited (register d.threads.current.regs 10) d
unfolding call call_of give either
exit_is e d m number =
    let regs = d.threads.current.regs in
    ap (λ (n : ℕ). either (call_of e d n (register regs 10) (register regs 11) (register regs 12) m).value) number

exit_ends : (e : Estate) (d : Dom) (m : Mem) → number_made e d ≡ 0
    → is_running (after_call e d m).status ≢ true
unfolding exited
exit_ends e d m number runs = true≢false (sym runs ∙ ap (λ (x : Dom). is_running x.status) (exit_is e d m number))

call_goes_on : (e : Estate) (d : Dom) (m : Mem) → HasTurn d.threads → MayRun d → GoesOn e d (after_call e d m)
call_goes_on e d m h may = record {
  turn = call_turn e d m h may;
  waits = λ t line below waits. elim (call_wakes e d m t line h may below waits) [
    | inl same ↦ inl same
    | inr (inl signals) ↦ inr (inl signals)
    | inr (inr exit) ↦ inr (inr (exit_ends e d m exit))
  ];
}

-- a reply leaves it to the current thread to go on
replied_goes_on : (e : Estate) (d : Dom) (code value : ℕ) → HasTurn d.threads → MayRun d
    → GoesOn e d (domain.replied code value d)
unfolding domain.replied placed
replied_goes_on e d code value h may = current_goes_on e d h may (domain.replied code value d) _ refl refl

called_goes_on : (e : Estate) (d : Dom) (s : Storage) → HasTurn d.threads → MayRun d
    → GoesOn e d (either (called e d s).value)
called_goes_on e d s h may =
    after_called e d (λ (x : Dom) (m : Mem). GoesOn e d x) s (λ code. replied_goes_on e d code 0 h may)
    (λ value. replied_goes_on e d 0 value h may) (call_goes_on e d s.mem h may)

-- ---- an event

module _ (p : Hardware) (o : Own) where
  instruction_goes_on : (t : ℕ) (d : Dom) (s : Storage) → HasTurn d.threads → MayRun d
      → GoesOn (estate p o) d (either (instruction p (estate p o) (layout p o) t d s).value)
  instruction_goes_on t d s h may =
      leaves p (estate p o) (layout p o) d (GoesOn (estate p o) d) (stopped_goes_on (estate p o) d h may)
      (retired_goes_on (estate p o) d h may) (λ r. called_goes_on (estate p o) d r h may) t s

  happened_turn : (s : Local) (e : Event) → Fits o s.clock s.dom e → HasTurn s.dom.threads
      → HasTurn (happened (setting p o false) s e).dom.threads
  unfolding happened paid delivered
  happened_turn s (Jump t) fits h = h
  happened_turn s (Deliver line) fits h = delivery_turn s.dom line h
  happened_turn s Run fits h = (instruction_goes_on s.clock s.dom s.storage h fits).turn

  pub step_turn : (end : ℕ) (s : Local) → HasTurn s.dom.threads
      → HasTurn (step (setting p o false) end s).dom.threads
  unfolding step
  step_turn end s h = happened_turn s (event o s.clock end s.dom) (event_fits o s.clock s.dom end) h

  -- the next moment is of this line, and is delivered
  abbrev pub Comes : ℕ → Local → Local → Type 0
  Comes line s t =
      (x : Moment) × (slice_get o.moments s.dom.delivered ≡ Some x) × (x.line ≡ line) × (t.dom.delivered ≡ s.dom.delivered + 1)

  abbrev pub Wakes : ℕ → ℕ → Local → Local → Type 0
  Wakes u line s t =
      HasTurn s.dom.threads → u < 8 → waits_for line (thread_at s.dom.threads u).state ≡ true
      → (thread_at t.dom.threads u ≡ thread_at s.dom.threads u)
      ⊎ (Comes line s t ⊎ (Signals (estate p o) s.dom line ⊎ (is_running t.dom.status ≢ true)))

  happened_wakes : (u line : ℕ) (s : Local) (e : Event) → Fits o s.clock s.dom e
      → Wakes u line s (happened (setting p o false) s e)
  unfolding happened paid delivered
  happened_wakes u line s (Jump t) fits h below waits = inl refl
  happened_wakes u line s (Deliver other) fits h below waits =
      let x = due_moment o s.clock s.dom other fits in
      elim (cases_eq other line) [
        | inl same ↦ inr (inl (x.0, x.1, x.3 ∙ same, delivery_counts s.dom other))
        | inr apart ↦ inl (delivery_wakes s.dom other line u h.eight (λ q. apart (sym q)) waits)
      ]
  happened_wakes u line s Run fits h below waits =
      elim ((instruction_goes_on s.clock s.dom s.storage h fits).waits u line below waits) [
        | inl same ↦ inl same
        | inr (inl signals) ↦ inr (inr (inl signals))
        | inr (inr ended) ↦ inr (inr (inr ended))
      ]

  pub step_wakes : (end u line : ℕ) (s : Local) → Wakes u line s (step (setting p o false) end s)
  unfolding step
  step_wakes end u line s = happened_wakes u line s (event o s.clock end s.dom) (event_fits o s.clock s.dom end)

-- ---- as it opens

pub first_turn : (p : Hardware) (o : Own) → HasTurn (opening_dom p o).threads
unfolding opening_dom domain.dom_at_entry threads.threads_at_entry
first_turn p o = record { eight = opening-eight o.entry; ready = λ t below is. refl }
