-- What happened is told right, in the words of threads and moments; and a stretch counts what all its touches count.
use Rattle.std.proofs.Common.{◌≡◌, ◌⊎◌, inl, inr, ℕ, zero, suc, ◌≤◌, Bool, true, false, ltb, List, [], ◌∷◌, ◌++◌, Option, Some, None, ap, ap₂, sym, ◌∙◌, refl, arith}
use Rattle.std.specs.Prelude.{if◌then◌else◌}
use Rattle.std.proofs.lemmas.List.{append-nil}
use Rattle.tp_base.specs.Act.{Done, go_on, ◌>>=◌}
use Rattle.sv32_walk.specs.declared.access.Access.TheVariants.{Fetch}
use Rattle.sv32_walk.specs.Walk.{walk}
use Rattle.irq_partition.specs.Interrupts.{cycle_of, next_cycle, due}
use Rattle.irq_partition.specs.declared.Moment.{Moment}
use Rattle.std.proofs.lemmas.Bool.{cases_lt, true≢false}
use Rattle.std.proofs.lemmas.Option.{none-some, same_Some}
use Rattle.std.specs.Prelude.{slice_get}
use Rattle.mem_system.specs.Cost.{Touch, Caches}
use Rattle.mem_system.specs.Tally.{plus, tally_all}
use Rattle.mem_system.specs.Translation.{look_of}
use Rattle.mem_system.proofs.TallyPrices.{append_law}
use Rattle.thread_set.specs.Threads.{is_ready, current_number}
use Rattle.thread_set.specs.declared.Thread.{Thread}
use Rattle.call_table.specs.Domain.{Dom, is_running}
use Rattle.call_table.proofs.ThreadLaws.{delivery_counts}
use Rattle.call_table.proofs.ThreadLawsTurns.{current_at}
use Rattle.hardware_check.specs.Hardware.{Hardware}
use Rattle.image_check.specs.Own.{Own}
use Rattle.world_view.specs.Frames.{root_of}
use Rattle.world_view.specs.Cost.{hierarchy}
use Rattle.world_view.specs.Kernel.{estate, layout}
use Rattle.world_view.specs.Event.{Storage, Act, translate, instruction, Event, thread_event, unless_due, idle_until, interrupts_of, event}
use Rattle.world_view.specs.Event.Event.{Jump, Deliver, Run}
use Rattle.world_view.specs.Machine.{setting, Local, delivered, happened, step}
use Rattle.world_view.specs.EventLaws.{event_touches, step_touches}
use Rattle.world_view.proofs.steps.EventLaws.{due_moment}
use Rattle.world_view.proofs.steps.Fuel.{JumpsPast, StaysWithin, event_later, event_within}
use Rattle.world_view.proofs.steps.StepLaws.{step_caches}
use Rattle.domain_events.specs.Events.{Observed, happening, counted, observed, events_in, total}
use Rattle.domain_events.specs.Laws.{IsNext, RanSo, SeenSo, SeenLaw, touches_in, TotalLaw}

-- ---- when each happens

module _ (o : Own) (now end : ℕ) (d : Dom) where
  -- the clock goes to t: to the end, or to the next moment
  pub record Idles (t : ℕ) : Type 0 where
    pub idle : (is_running d.status ≡ false) ⊎ (is_ready d.threads.current.state ≡ false)
    pub goes : (t ≡ end) ⊎ ((x : Moment) × IsNext o d x × (x.at ≡ t))
    pub no_later : is_running d.status ≡ true → (x : Moment) → IsNext o d x → t ≤ x.at

  abbrev pub Comes : Event → Type 0
  Comes (Jump t) = Idles t
  Comes (Deliver line) = (is_running d.status ≡ true) × (due now (interrupts_of o d) ≡ Some line)
  Comes Run = (is_running d.status ≡ true) × (is_ready d.threads.current.state ≡ true)

  idles_by : (next : Option Moment) → slice_get o.moments d.delivered ≡ next → is_ready d.threads.current.state ≡ false
      → Idles (idle_until end (cycle_of next))
  idles_by None none ready = record {
    idle = inr ready;
    goes = inl refl;
    no_later = λ runs x is. absurd (none-some x (sym none ∙ is));
  }
  idles_by (Some y) there ready = record {
    idle = inr ready;
    goes = elim (cases_lt y.at end) [
      | inl sooner ↦ inr (y, there, omega (arith, sooner))
      | inr later ↦ inl (omega (arith, later))
    ];
    no_later = λ runs x is.
        let same : y.at ≡ x.at = ap (λ (z : Moment). z.at) (same_Some y x (sym there ∙ is)) in omega (arith, same);
  }

  due_comes : (next : Option Moment) (ready : Bool) (line : Option ℕ) → slice_get o.moments d.delivered ≡ next
      → is_running d.status ≡ true → is_ready d.threads.current.state ≡ ready → due now (interrupts_of o d) ≡ line
      → Comes (unless_due (thread_event end (cycle_of next) ready) line)
  due_comes next ready (Some line) there runs is e = (runs, e)
  due_comes next true None there runs is e = (runs, is)
  due_comes next false None there runs is e = idles_by next there is

  running_comes : (b : Bool) (e : Event) → is_running d.status ≡ b → (b ≡ true → Comes e)
      → Comes (if b then e else Jump end)
  running_comes true e is comes = comes refl
  running_comes false e is comes = record {
    idle = inl is;
    goes = inl refl;
    no_later = λ runs x next. absurd (true≢false (sym runs ∙ is));
  }

  pub event_comes : Comes (event o now end d)
  unfolding event next_cycle interrupts_of
  event_comes =
      running_comes (is_running d.status) _ refl
      (λ runs. due_comes (slice_get o.moments d.delivered) (is_ready d.threads.current.state)
      (due now (interrupts_of o d)) refl runs refl refl)

-- ---- an instruction looks its page up first

go_front : {A B : Type 0} (r : Done Storage Touch Dom A) (y : A → Act B) (v : Dom ⊎ A)
    → (more : List Touch) × ((go_on r y v).notes ≡ r.notes ++ more)
unfolding go_on
go_front r y (inl x) = ([], sym (append-nil r.notes))
go_front r y (inr a) = ((y a r.state).notes, refl)

bind_front : {A B : Type 0} (x : Act A) (y : A → Act B) (s : Storage)
    → (more : List Touch) × (((x >>= y) s).notes ≡ (x s).notes ++ more)
unfolding ◌>>=◌
bind_front x y s = go_front (x s) y (x s).value

module _ (p : Hardware) (o : Own) where
  looks_up : (t : ℕ) (d : Dom) (s : Storage) → (more : List Touch)
      × ((instruction p (estate p o) (layout p o) t d s).notes
      ≡ look_of p.line d.threads.current.pc (walk s.mem p.frames (root_of p o) d.threads.current.pc Fetch) ∷ more)
  unfolding instruction translate estate
  looks_up t d s = bind_front (translate p (estate p o).root d Fetch d.threads.current.pc) _ s

  ran_so : (end : ℕ) (s : Local) → Comes o s.clock end s.dom Run
      → RanSo p o s (event_touches p o s Run) (current_number s.dom.threads) s.dom.threads.current.pc
  ran_so end s comes =
      let its = current_at s.dom.threads in
      let looks = looks_up s.clock s.dom s.storage in
      record {
        running = comes.0;
        current = its;
        ready = ap (λ (x : Thread). is_ready x.state) its ∙ comes.1;
        there = ap (λ (x : Thread). x.pc) its;
        more = looks.0;
        looked_up = looks.1;
      }

  seen_if : (pinned : Bool) (end : ℕ) (s : Local) (e : Event) → Comes o s.clock end s.dom e → JumpsPast s.clock e → StaysWithin end e
      → SeenSo p o end s (event_touches p o s e) (happened (setting p o pinned) s e) (happening s.dom e)
  unfolding happening happened delivered
  seen_if pinned end s (Jump t) comes past within = record {
    idle = comes.idle;
    past = past;
    within = within;
    goes = comes.goes;
    no_later = comes.no_later;
    nothing_else = refl;
  }
  seen_if pinned end s (Deliver line) comes past within =
      let x = due_moment o s.clock s.dom line comes.1 in
      record {
        running = comes.0;
        moment = x.0;
        next = x.1;
        come = x.2;
        its_line = x.3;
        delivered = delivery_counts s.dom line;
      }
  seen_if pinned end s Run comes past within = ran_so end s comes

pub seen_law : SeenLaw
unfolding observed step
seen_law p o pinned end s soon =
    seen_if p o pinned end s (event o s.clock end s.dom) (event_comes o s.clock end s.dom)
    (event_later o s.clock end s.dom soon) (event_within o s.clock end s.dom)

-- ---- what a stretch counts

module _ (p : Hardware) (o : Own) (pinned : Bool) (end : ℕ) where
  counted_is : (s : Local) (e : Event)
      → counted (setting p o pinned) s e ≡ tally_all (hierarchy p) pinned s.caches (event_touches p o s e)
  unfolding counted tally_all
  counted_is s (Jump t) = refl
  counted_is s (Deliver line) = refl
  counted_is s Run = refl

  one : (s : Local)
      → (observed (setting p o pinned) end s).counts ≡ tally_all (hierarchy p) pinned s.caches (step_touches p o end s)
  unfolding observed
  one s = counted_is s (event o s.clock end s.dom)

  more_if : (b : Bool) (s : Local) (events : List Observed) (touches : List Touch)
      → total events ≡ tally_all (hierarchy p) pinned (step (setting p o pinned) end s).caches touches
      → total (if b then observed (setting p o pinned) end s ∷ events else [])
      ≡ tally_all (hierarchy p) pinned s.caches (if b then step_touches p o end s ++ touches else [])
  unfolding total tally_all
  more_if true s events touches rest =
      ap₂ plus (one s) (rest ∙ ap (λ (c : Caches). tally_all (hierarchy p) pinned c touches) (step_caches p o pinned end s))
      ∙ sym (append_law (hierarchy p) pinned s.caches (step_touches p o end s) touches)
  more_if false s events touches rest = refl

  total_in : (n : ℕ) (s : Local) → total (events_in (setting p o pinned) end n s)
      ≡ tally_all (hierarchy p) pinned s.caches (touches_in p o pinned end n s)
  unfolding events_in touches_in total tally_all
  total_in zero s = refl
  total_in (suc n) s = more_if (ltb s.clock end) s _ _ (total_in n (step (setting p o pinned) end s))

pub total_law : TotalLaw
total_law p o pinned end n s = total_in p o pinned end n s
