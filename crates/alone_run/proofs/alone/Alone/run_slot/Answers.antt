use Rattle.std.proofs.Common.{[], true, ◌≡◌, ◌≢◌, ℕ, ◌+◌, List, sym, ap, subst, ◌∙◌, add-one, arith}
use Rattle.kernel_clone.specs.Footprints.{IsLayout}
use Rattle.kernel_clone.specs.Models.{layout_model}
use Rattle.repl_policy.specs.Members.{any_rule, any_stands_for}
use Rattle.sched_table.specs.declared.schedule.Entry.{Entry}
use Rattle.sched_table.specs.Schedule.{entry_of_slot, start}
use Rattle.image_check.specs.Models.{public_model, own_model}
use Rattle.world_view.specs.Machine.{Setting, setting, Local, stretch, alone_enter, alone_in, alone}
use Rattle.alone_run.specs.Runs.{public_for, alone_after}
use Rattle.domain_step.specs.Moves.{Moves}
use Rattle.alone_run.specs.Standing.{kept, StandsFor, HasFacts}
use Rattle.alone_run.proofs.States.{kernel, alone_early, others_slot, own_slot}
use Rattle.domain_step.proofs.Counts.{counts_later}
use Rattle.alone_run.proofs.Slots.{Stand, stands_of, facts_of, begun, left}
use Rattle.alone_run.proofs.alone.Alone.run_slot.Goals as goal
use Rattle.mem_system.specs.Contents.{system}
use Rattle.alone_run.proofs.alone.Alone.run_slot.Goals.{After-ends}

-- ---- another's slot

passed : (c : goal.Then-entry-self)
    → alone_after (public_model c.args.self.now.public.now) (own_model c.args.self.now.own.now)
    c.args.self.now.number (c.args.self.now.slots + 1)
    ≡ alone_after (public_model c.args.self.now.public.now) (own_model c.args.self.now.own.now) c.args.self.now.number c.args.self.now.slots
passed c =
    let a = c.args.self.now in
    let p = public_for (public_model a.public.now) a.number in
    let o = own_model a.own.now in
    let entry = c.entry-entry.ensures.value ∙ ap (λ (es : List Entry). entry_of_slot es a.slots) a.on_hart in
    let named : (entry_of_slot p.schedule a.slots).domain ≢ a.number = λ e. c.if-entry-self.true (ap (λ (x : Entry). x.domain) entry ∙ e) in
    ap (alone p o a.number) (add-one a.slots) ∙ others_slot p o a.number a.slots named

pub invariant_of-self-clause-stands : goal.invariant_of-self-clause-stands
invariant_of-self-clause-stands c =
    let a = c.args.self.now in
    subst (λ (s : Local). StandsFor (public_model a.public.now).hardware (own_model a.own.now) s
    (kept a.memory a.mail (system a.core a.l2) a.domain a.clock)) (sym (passed c)) a.stands

pub invariant_of-self-clause-facts : goal.invariant_of-self-clause-facts
invariant_of-self-clause-facts c =
    let a = c.args.self.now in
    subst (λ (s : Local). ∥ HasFacts (public_model a.public.now).hardware (own_model a.own.now) s
    (kept a.memory a.mail (system a.core a.l2) a.domain a.clock) ∥₁) (sym (passed c)) a.facts

-- ---- its own slot

pub enter-requires : goal.enter-requires
enter-requires c =
    let a = c.args.self.now in
    let p = public_for (public_model a.public.now) a.number in
    let o = own_model a.own.now in
    record { layout = subst IsLayout (sym a.stands.domain.layout) (kernel p o a.runs).has_layout }

pub stretch-self-requires-clause-runs : goal.stretch-self-requires-clause-runs
stretch-self-requires-clause-runs c =
    let a = c.args.self.now in
    let p = public_for (public_model a.public.now) a.number in
    let o = own_model a.own.now in
    let begins = c.start-start.ensures.value ∙ ap (λ (es : List Entry). start es a.slots) a.on_hart in
    record {
      setting = setting p.hardware o true;
      state = alone_enter p o a.slots [] (alone p o a.number a.slots);
      stands_in = begun p o a.runs a.number a.slots (kept a.memory a.mail (system a.core a.l2) a.domain a.clock) (layout_model a.domain.layout)
          (system c.empty_tlb.new.self a.l2) (system c.enter.new.core c.enter.new.l2) c.enter.result
          c.start-start.result a.stands a.stands.domain.layout
          (c.empty_tlb.ensures.makes a.l2) c.empty_tlb.ensures.kept c.enter.ensures.makes c.enter.ensures.buffer begins;
    }

pub stretch-self-requires-clause-few : goal.stretch-self-requires-clause-few
stretch-self-requires-clause-few c =
    let a = c.args.self.now in
    let p = public_for (public_model a.public.now) a.number in
    let begins = c.start-start.ensures.value ∙ ap (λ (es : List Entry). start es a.slots) a.on_hart in
    let early = alone_early p (own_model a.own.now) a.runs a.slots in
    counts_later a.clock c.start-start.result a.domain (omega (arith, early, a.stands.machine.time, begins)) a.in_bounds.few_calls

pub leave-requires : goal.leave-requires
leave-requires c =
    let a = c.args.self.now in
    let p = public_for (public_model a.public.now) a.number in
    let o = own_model a.own.now in
    record { layout = subst IsLayout (sym a.stands.domain.layout) (kernel p o a.runs).has_layout }

-- after the slot, and when the domain has left
over : (c : After-ends)
    → Stand (public_model c.args.self.now.public.now).hardware (own_model c.args.self.now.own.now)
    (kept c.stretch-self.new.memory c.ends.new.self (system c.flush.new.self c.flush.new.l2) c.stretch-self.new.domain
    c.stretch-self.result)
    (alone_after (public_model c.args.self.now.public.now) (own_model c.args.self.now.own.now)
    c.args.self.now.number (c.args.self.now.slots + 1))
unfolding alone_in
over c =
    let a = c.args.self.now in
    let p = public_for (public_model a.public.now) a.number in
    let o = own_model a.own.now in
    let s = alone p o a.number a.slots in
    let entry = c.entry-entry.ensures.value ∙ ap (λ (es : List Entry). entry_of_slot es a.slots) a.on_hart in
    let begins = c.start-start.ensures.value ∙ ap (λ (es : List Entry). start es a.slots) a.on_hart in
    let named : (entry_of_slot p.schedule a.slots).domain ≡ a.number = ap (λ (x : Entry). x.domain) (sym entry) ∙ c.if-entry-self.false in
    let until : c.start-start.result + c.from.result ≡ start p.schedule a.slots + (entry_of_slot p.schedule a.slots).length =
    omega (arith, begins, c.from.ensures, ap (λ (x : Entry). x.length) entry) in
    let runs =
    subst (λ (n : ℕ). Moves any_rule any_stands_for (λ (w : Setting). stretch w n) a.memory a.mail a.domain
    (system c.enter.new.core c.enter.new.l2) c.start-start.result
    c.stretch-self.new.memory c.stretch-self.new.mail c.stretch-self.new.domain (system c.stretch-self.new.core c.stretch-self.new.l2)
    c.stretch-self.result) until c.stretch-self.ensures.becomes in
    let entered = begun p o a.runs a.number a.slots (kept a.memory a.mail (system a.core a.l2) a.domain a.clock) (layout_model a.domain.layout)
    (system c.empty_tlb.new.self a.l2) (system c.enter.new.core c.enter.new.l2) c.enter.result
    c.start-start.result a.stands a.stands.domain.layout
    (c.empty_tlb.ensures.makes a.l2) c.empty_tlb.ensures.kept c.enter.ensures.makes c.enter.ensures.buffer begins in
    let ran = runs (setting p.hardware o true) (alone_enter p o a.slots [] s) entered in
    subst (Stand p.hardware o (kept c.stretch-self.new.memory c.ends.new.self (system c.flush.new.self c.flush.new.l2)
    c.stretch-self.new.domain c.stretch-self.result))
    (sym (ap (alone p o a.number) (add-one a.slots) ∙ own_slot p o a.number a.slots named))
    (left p.hardware o
    (kept c.stretch-self.new.memory c.stretch-self.new.mail (system c.stretch-self.new.core c.stretch-self.new.l2)
    c.stretch-self.new.domain c.stretch-self.result) (layout_model a.domain.layout)
    (system c.leave.new.core c.leave.new.l2) (system c.flush.new.self c.flush.new.l2) c.leave.result
    c.flush.result c.ends.new.self (alone_in p o a.slots [] s) c.ends.ensures.becomes ran a.stands.domain.layout c.leave.ensures.makes
    c.flush.ensures.makes c.flush.ensures.kept)

pub invariant_of-self-2-clause-stands : goal.invariant_of-self-2-clause-stands
invariant_of-self-2-clause-stands c =
    let a = c.args.self.now in
    stands_of (public_model a.public.now).hardware (own_model a.own.now) _ _ (over c)

pub invariant_of-self-2-clause-facts : goal.invariant_of-self-2-clause-facts
invariant_of-self-2-clause-facts c =
    let a = c.args.self.now in
    ∣ facts_of (public_model a.public.now).hardware (own_model a.own.now) _ _ (over c) ∣₁
