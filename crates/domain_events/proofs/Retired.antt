-- How many instructions a domain runs: as many as retire, its calls, and the one that stops it.
use Rattle.std.proofs.Common.{◌≡◌, ℕ, zero, suc, ◌+◌, ◌-◌, Bool, true, false, eqb, ltb, List, [], ◌∷◌, ◌++◌, Option, Some, None, Result, Ok, Err, ap, sym, ◌∙◌, refl, subst, arith}
use Rattle.std.specs.Prelude.{if◌then◌else◌, is_some}
use Rattle.std.proofs.lemmas.List.Sums.{sum_by-cons, sum_by_push}
use Rattle.tp_base.specs.Act.{either, go_on, ◌>>=◌, ◌>>◌, stop, note}
use Rattle.phys_mem.specs.Mem.{word}
use Rattle.rv_core.specs.Exceptions.{code_of}
use Rattle.rv_decode.specs.Table.{decode_of}
use Rattle.rv_decode.specs.declared.Instr.{Instr}
use Rattle.rv_decode.specs.declared.Instr.TheVariants as instr
use Rattle.sv32_walk.specs.declared.access.Access.TheVariants.{Fetch}
use Rattle.sv32_walk.specs.declared.access.WalkFault.{WalkFault}
use Rattle.sv32_walk.specs.PageTableEntry.{ppn}
use Rattle.sv32_walk.specs.Walk.{walk}
use Rattle.mem_system.specs.Cost.{Fetch as FetchTouch}
use Rattle.mem_system.specs.Tally.{one_if}
use Rattle.kernel_clone.specs.Footprints.{Layout}
use Rattle.call_table.specs.declared.DomainStatus.{DomainStatus}
use Rattle.call_table.specs.declared.DomainStatus.TheVariants.{Running, Exited, Stopped}
use Rattle.call_table.specs.Domain as domain
use Rattle.call_table.specs.Domain.{Dom, is_running, placed}
use Rattle.call_table.specs.Claims.{Estate}
use Rattle.call_table.specs.Mail.{called}
use Rattle.hardware_check.specs.Hardware.{Hardware}
use Rattle.mail_slots.specs.Sides.{Arrival}
use Rattle.sched_table.specs.Schedule.{entry_of_slot, slot_end}
use Rattle.image_check.specs.Public.{Public}
use Rattle.image_check.specs.Own.{Own}
use Rattle.image_check.specs.Image.{own_of}
use Rattle.world_view.specs.Kernel.{opening_dom, estate, layout}
use Rattle.world_view.specs.Mail.{turns, nth_of}
use Rattle.world_view.specs.Instruction.{stopped, retired_at, read_out}
use Rattle.world_view.specs.Event.{Storage, Act, line_in, fault_of, touch, translate, read, place, frame_or_stop, noted, make_call, perform, instruction, Event, event}
use Rattle.world_view.specs.Event.Event.{Jump, Deliver, Run}
use Rattle.world_view.specs.Machine.{Setting, setting, Local, paid, delivered, happened, step, steps, arrivals, alone_opening, alone_enter, alone_in, alone_out, alone_if, alone_mail}
use Rattle.world_view.specs.View.{View, view, view_mailed}
use Rattle.world_view.specs.Harts.{public_on, hart_of_domain, slots_of, harts, view_mailed_on}
use Rattle.world_view.specs.EventLaws.{instruction_at}
use Rattle.world_view.proofs.actions.InstructionLaws.{timed_leaves}
use Rattle.world_view.proofs.harts.Isolation.{hart_mail}
use Rattle.domain_events.specs.Events.{Observed, Slot, happening, observed, events_in, slot_from, slot_alone, slots_mailed, logged}
use Rattle.domain_events.specs.Laws.{is_run, runs_in, runs_of, is_ecall, is_call, calls_in, calls_from, calls_alone, is_stopped, AreRuns, RetiredLaw, WholeRetiredLaw}
use Rattle.domain_events.proofs.Alone.{one_slot_more, no_slot_more}
use Rattle.domain_events.proofs.Theorems.{events_law}
use Rattle.domain_events.proofs.Calls.{called_so, delivered_retired, delivered_status}
use Rattle.domain_events.proofs.Seen.{Comes, event_comes}

-- ---- one instruction

noted_retired : (i : Instr) (value : ℕ) (d : Dom) → (noted i value d).retired ≡ d.retired
unfolding noted read_out
noted_retired (instr.ReadCounter counter rd) value d = refl
noted_retired i value d = refl

noted_status : (i : Instr) (value : ℕ) (d : Dom) → (noted i value d).status ≡ d.status
unfolding noted read_out
noted_status (instr.ReadCounter counter rd) value d = refl
noted_status i value d = refl

running_goes : (status : DomainStatus) → is_running status ≡ true → is_stopped status ≡ false
running_goes Running runs = refl
running_goes (Exited code) runs = refl
running_goes (Stopped code pc value) runs = absurd (cc runs)

module _ (p : Hardware) (e : Estate) (l : Layout) (d : Dom) (runs : is_stopped d.status ≡ false) where
  -- one of three: it retires, it is a call, or it stops the domain
  abbrev pub Counts : Bool → Dom → Type 0
  Counts call x = x.retired + one_if call + one_if (is_stopped x.status) ≡ d.retired + 1

  stops : (code value : ℕ) → Counts false (stopped code value d)
  unfolding stopped
  stops code value = omega arith

  retires : (pc value : ℕ) (regs : List ℕ) (i : Instr) → Counts false (retired_at pc regs (noted i value d))
  unfolding retired_at placed
  retires pc value regs i =
      let retired = noted_retired i value d in
      let goes = ap (λ (status : DomainStatus). one_if (is_stopped status)) (noted_status i value d) ∙ ap one_if runs in
      omega (arith, retired, goes)

  calls : (s : Storage) → Counts true (either (called e d s).value)
  calls s =
      let so = called_so d runs e s in
      let retired = so.retired in
      let goes = ap one_if so.status in
      omega (arith, retired, goes)

  perform_counts : (t w : ℕ) (i : Option Instr) (s : Storage)
      → Counts (is_ecall i) (either (perform p e l t d w i s).value)
  unfolding perform make_call stop either
  perform_counts t w None s = stops 2 w
  perform_counts t w (Some instr.Ecall) s = calls s
  perform_counts t w (Some i) s =
      timed_leaves p e l d (λ (_ : Storage). Unit {0}) (λ (x : Dom) (_ : Storage). Counts false x)
      (λ code value _ _. stops code value) (λ pc value regs i _ _. retires pc value regs i) (λ _ _ _ _ _ _ _. tt) t i s tt

  -- after the walk
  abbrev rest : ℕ → ℕ → Act Dom
  rest t f =
      let pc = d.threads.current.pc in
      touch (FetchTouch (line_in p f pc)) >> (read f (place pc) >>= (λ w. perform p e l t d w (decode_of (is_some p.muldiv) w)))

  by_leaf : (t : ℕ) (s : Storage) (r : Result ℕ WalkFault) → let pc = d.threads.current.pc in
      Counts (is_ecall (instruction_at (is_some p.muldiv) s.mem pc r))
      (either (go_on (translate p e.root d Fetch pc s) (rest t) (frame_or_stop d Fetch pc r)).value)
  unfolding go_on ◌>>◌ ◌>>=◌ touch note read translate frame_or_stop either
  by_leaf t s (Ok leaf) =
      let w = word s.mem (ppn leaf) (place d.threads.current.pc) in
      perform_counts t w (decode_of (is_some p.muldiv) w) s
  by_leaf t s (Err f) = stops (code_of (fault_of Fetch f)) d.threads.current.pc

  pub instruction_counts : (t : ℕ) (s : Storage) → let pc = d.threads.current.pc in
      Counts (is_ecall (instruction_at (is_some p.muldiv) s.mem pc (walk s.mem p.frames e.root pc Fetch).result))
      (either (instruction p e l t d s).value)
  unfolding instruction ◌>>=◌ translate
  instruction_counts t s = by_leaf t s (walk s.mem p.frames e.root d.threads.current.pc Fetch).result

-- ---- one event

module _ (p : Hardware) (o : Own) (pinned : Bool) where
  abbrev pub weight : Dom → ℕ
  weight d = d.retired + one_if (is_stopped d.status)

  happened_counts : (end : ℕ) (s : Local) (e : Event) → Comes o s.clock end s.dom e
      → one_if (is_call p o s e) + weight (happened (setting p o pinned) s e).dom
      ≡ one_if (is_run (happening s.dom e)) + weight s.dom
  unfolding happening happened paid delivered estate
  happened_counts end s (Jump t) comes = refl
  happened_counts end s (Deliver line) comes =
      let retired = delivered_retired line s.dom in
      let goes = ap (λ (status : DomainStatus). one_if (is_stopped status)) (delivered_status line s.dom) in
      omega (arith, retired, goes)
  happened_counts end s Run comes =
      let runs = running_goes s.dom.status comes.0 in
      let before = ap one_if runs in
      let later : Dom = (happened (setting p o pinned) s Run).dom in
      let counts : later.retired + one_if (is_call p o s Run) + one_if (is_stopped later.status) ≡ s.dom.retired + 1 =
      instruction_counts p (estate p o) (layout p o) s.dom runs s.clock s.storage in
      omega (arith, before, counts)

  pub step_counts : (end : ℕ) (s : Local)
      → one_if (is_call p o s (event o s.clock end s.dom)) + weight (step (setting p o pinned) end s).dom
      ≡ one_if (is_run (observed (setting p o pinned) end s).what) + weight s.dom
  unfolding step observed
  step_counts end s = happened_counts end s (event o s.clock end s.dom) (event_comes o s.clock end s.dom)

-- ---- a stretch

module _ (p : Hardware) (o : Own) (end : ℕ) where
  abbrev w : Setting
  w = setting p o true

  count_if : (P : List Observed → ℕ → Local → Type 0) (b : Bool) (xs : List Observed) (n : ℕ) (x y : Local)
      → P xs n x → P [] 0 y → P (if b then xs else []) (if b then n else 0) (elim b [ true ↦ x | false ↦ y ])
  count_if P true xs n x y goes stops = goes
  count_if P false xs n x y goes stops = stops

  pub stretch_counts : (n : ℕ) (s : Local)
      → calls_in p o end n s + weight p o true (steps w end n s).dom ≡ runs_in (events_in w end n s) + weight p o true s.dom
  unfolding calls_in steps events_in
  stretch_counts zero s = refl
  stretch_counts (suc n) s =
      let next = step w end s in
      let e = observed w end s in
      let events = events_in w end n next in
      let calls = one_if (is_call p o s (event o s.clock end s.dom)) + calls_in p o end n next in
      let last = steps w end n next in
      let here = step_counts p o true end s in
      let later = stretch_counts n next in
      let more = sum_by-cons (λ (x : Observed). one_if (is_run x.what)) e events in
      let goes : calls + weight p o true last.dom ≡ runs_in (e ∷ events) + weight p o true s.dom =
      omega (arith, here, later, more) in
      count_if (λ (xs : List Observed) (m : ℕ) (x : Local). m + weight p o true x.dom ≡ runs_in xs + weight p o true s.dom)
      (ltb s.clock end) (e ∷ events) calls last s goes refl

-- ---- slots

module _ (p : Public) (o : Own) (d : ℕ) (came : List Arrival) where
  abbrev its : ℕ → Bool
  its k = eqb (entry_of_slot p.schedule k).domain d

  abbrev before : ℕ → Local
  before k = alone_mail p o d came k

  abbrev entered : ℕ → Local
  entered k = alone_enter p o k (nth_of came (turns p.schedule d k)) (before k)

  -- as many instructions as this state of the domain and the calls say
  abbrev Are : ℕ → ℕ → Local → Type 0
  Are runs calls s = runs ≡ s.dom.retired + calls + one_if (is_stopped s.dom.status)

  slot_counts : (k : ℕ) → calls_from p o k (entered k) + weight p.hardware o true (alone_if p o k (nth_of came (turns p.schedule d k)) (before k) true).dom
      ≡ runs_in (slot_alone p o k (nth_of came (turns p.schedule d k)) (before k)).events + weight p.hardware o true (before k).dom
  unfolding alone_if alone_out alone_in alone_enter slot_from
  slot_counts k =
      let end = slot_end p.schedule k in
      stretch_counts p.hardware o end (end - (entered k).clock) (entered k)

  with_slot : (b : Bool) (k : ℕ) → its k ≡ b → Are (runs_of (slots_mailed p o d came k)) (calls_alone p o d came k) (before k)
      → Are (runs_of (slots_mailed p o d came (suc k))) (calls_alone p o d came (suc k)) (before (suc k))
  unfolding calls_alone alone_mail alone_if
  with_slot true k t are =
      let words = nth_of came (turns p.schedule d k) in
      let x = slot_alone p o k words (before k) in
      let slots = slots_mailed p o d came k in
      let calls = calls_alone p o d came k + calls_from p o k (entered k) in
      let last = alone_if p o k words (before k) true in
      let one = slot_counts k in
      let more = sum_by_push (λ (y : Slot). runs_in y.events) slots x in
      let all : Are (runs_of (slots ++ x ∷ [])) calls last = omega (arith, are, one, more) in
      subst (λ (xs : List Slot). Are (runs_of xs) (calls_alone p o d came (suc k)) (before (suc k))) (sym (one_slot_more p o d came k t))
      (subst (λ (b : Bool). Are (runs_of (slots ++ x ∷ [])) (if b then calls else calls_alone p o d came k) (alone_if p o k words (before k) b)) (sym t) all)
  with_slot false k t are =
      let words = nth_of came (turns p.schedule d k) in
      let slots = slots_mailed p o d came k in
      let calls = calls_alone p o d came k + calls_from p o k (entered k) in
      subst (λ (xs : List Slot). Are (runs_of xs) (calls_alone p o d came (suc k)) (before (suc k))) (sym (no_slot_more p o d came k t))
      (subst (λ (b : Bool). Are (runs_of slots) (if b then calls else calls_alone p o d came k) (alone_if p o k words (before k) b)) (sym t)
      are)

  runs_are : (k : ℕ) → Are (runs_of (slots_mailed p o d came k)) (calls_alone p o d came k) (before k)
  unfolding slots_mailed calls_alone alone_mail alone_opening opening_dom domain.dom_at_entry
  runs_are zero = refl
  runs_are (suc k) = with_slot (its k) k refl (runs_are k)

pub retired_law : RetiredLaw
unfolding view_mailed view
retired_law p o d came k = runs_are p o d came k

pub whole_retired_law : WholeRetiredLaw
unfolding view_mailed_on
whole_retired_law i d order r id below early =
    let h = hart_of_domain i d in
    let s = harts i order in
    let p = public_on i.all h in
    let came = arrivals d s.world in
    let k = slots_of h s in
    let calls = calls_alone p (own_of i d) d came k in
    subst (λ (v : View). AreRuns (logged i d order) v calls) (sym (hart_mail i d order r id below early))
    (subst (λ (slots : List Slot). AreRuns slots (view_mailed p (own_of i d) d came k) calls) (sym (events_law i d order r id below early))
    (retired_law p (own_of i d) d came k))
