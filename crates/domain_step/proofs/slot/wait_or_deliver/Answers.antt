use Rattle.std.proofs.Common.{◌≡◌, ◌+◌, None, false, refl, ap, ◌∙◌, arith}
use Rattle.irq_partition.specs.Interrupts.{due, next_cycle}
use Rattle.thread_set.specs.Threads.{is_ready}
use Rattle.kernel_clone.specs.Footprints.{delivery_op}
use Rattle.mem_system.specs.Operations.{plain}
use Rattle.world_view.specs.Event.{idle_until}
use Rattle.world_view.specs.Machine.{step}
use Rattle.domain_step.proofs.Counts.{counts_later}
use Rattle.domain_step.proofs.Moved.{due_by, due_line, due_left, none_before, moves_due, moves_idle, moves_still, not_ready, not_running, runs_on}
use Rattle.mem_system.specs.Contents.{system}
use Rattle.domain_step.proofs.slot.wait_or_deliver.Goals as goal

-- ---- a domain that doesn't run

pub returns-in_default : goal.returns-in_default
returns-in_default g c =
    let still =
    moves_still g.P.Policy.rule g.P.Policy.stands_for c.args.end c.args.memory.now c.args.mail.now c.args.domain.now
    (system c.args.core.now c.args.l2.now) c.args.now
    (not_running c.args.domain.now.status c.in_default.not-Running) in
    record {
      becomes = still;
      hierarchy = refl;
      pinned = refl;
      runs =
          runs_on g.P.Policy.rule g.P.Policy.stands_for c.args.end c.args.memory.now c.args.memory.now c.args.mail.now c.args.mail.now
          c.args.domain.now c.args.domain.now (system c.args.core.now c.args.l2.now)
          (system c.args.core.now c.args.l2.now)
          (λ w. step w c.args.end) c.args.now c.args.end still c.requires.runs;
      few = counts_later c.args.now c.args.end c.args.domain.now (omega (arith, c.requires.before)) c.requires.few;
      later = c.requires.before;
      soon = omega arith;
    }

-- ---- a moment that is due

pub deliver_due-requires-clause-left : goal.deliver_due-requires-clause-left
deliver_due-requires-clause-left g c =
    let s = c.args.domain.now.interrupts in
    let until : c.idle_until-next.result ≡ idle_until c.args.end (next_cycle s) =
    c.idle_until-next.ensures.value ∙ ap (idle_until c.args.end) c.next_moment.ensures.next in
    let comes = due_by s c.args.now c.args.end c.requires.before (omega (arith, until, c.if-next-now.true)) in
    due_left s c.args.now comes.0 comes.1

pub returns-then-next-now-clause-becomes : goal.returns-then-next-now-clause-becomes
returns-then-next-now-clause-becomes g c =
    let old = c.args.domain.now in
    let new = c.deliver_due.new.domain in
    let keeps = c.deliver_due.ensures.keeps in
    let until : c.idle_until-next.result ≡ idle_until c.args.end (next_cycle old.interrupts) =
    c.idle_until-next.ensures.value ∙ ap (idle_until c.args.end) c.next_moment.ensures.next in
    let comes = due_by old.interrupts c.args.now c.args.end c.requires.before (omega (arith, until, c.if-next-now.true)) in
    moves_due g.P.Policy.rule g.P.Policy.stands_for c.args.end c.args.memory.now c.args.mail.now old new
    (system c.args.core.now c.args.l2.now) (system c.deliver_due.new.core c.deliver_due.new.l2)
    c.args.now (c.args.now + c.from.result) c.deliver_due.result comes.0 (plain delivery_op) c.in-Running.is comes.1
    (c.deliver_due.ensures.delivers comes.0 (due_line old.interrupts c.args.now comes.0 comes.1))
    keeps.caps keeps.pool keeps.map keeps.layout keeps.calls keeps.number keeps.moments refl
    c.deliver_due.ensures.makes c.deliver_due.ensures.buffer
    (ap (λ n. c.args.now + n) c.from.ensures)

pub returns-then-next-now-clause-runs : goal.returns-then-next-now-clause-runs
returns-then-next-now-clause-runs g c =
    runs_on g.P.Policy.rule g.P.Policy.stands_for c.args.end c.args.memory.now c.args.memory.now c.args.mail.now c.args.mail.now
    c.args.domain.now c.deliver_due.new.domain (system c.args.core.now c.args.l2.now)
    (system c.deliver_due.new.core c.deliver_due.new.l2)
    (λ w. step w c.args.end) c.args.now _ (returns-then-next-now-clause-becomes g c) c.requires.runs

-- ---- no thread is ready

pub returns-clause-becomes : goal.returns-clause-becomes
returns-clause-becomes g c =
    let d = c.args.domain.now in
    let until : c.idle_until-next.result ≡ idle_until c.args.end (next_cycle d.interrupts) =
    c.idle_until-next.ensures.value ∙ ap (idle_until c.args.end) c.next_moment.ensures.next in
    let none : due c.args.now d.interrupts ≡ None =
    none_before d.interrupts c.args.now c.args.end (omega (arith, until, c.if-next-now.false)) in
    let idle : is_ready d.threads.active.state ≡ false =
    not_ready d c.args.now c.args.end c.requires.before c.in-Running.is none c.requires.other in
    moves_idle g.P.Policy.rule g.P.Policy.stands_for c.args.end c.args.memory.now c.args.mail.now d
    (system c.args.core.now c.args.l2.now) c.args.now c.idle_until-next.result c.in-Running.is none idle
    until

pub returns-clause-runs : goal.returns-clause-runs
returns-clause-runs g c =
    runs_on g.P.Policy.rule g.P.Policy.stands_for c.args.end c.args.memory.now c.args.memory.now c.args.mail.now c.args.mail.now
    c.args.domain.now c.args.domain.now (system c.args.core.now c.args.l2.now)
    (system c.args.core.now c.args.l2.now)
    (λ w. step w c.args.end) c.args.now _ (returns-clause-becomes g c) c.requires.runs

pub returns-clause-few : goal.returns-clause-few
returns-clause-few g c =
    counts_later c.args.now c.idle_until-next.result c.args.domain.now (omega (arith, c.if-next-now.false)) c.requires.few

pub returns-then-next-now-clause-later : goal.returns-then-next-now-clause-later
returns-then-next-now-clause-later g c = omega (arith, c.deliver_due.ensures.some, c.from.ensures)

pub returns-then-next-now-clause-soon : goal.returns-then-next-now-clause-soon
returns-then-next-now-clause-soon g c = omega (arith, c.requires.before, c.deliver_due.ensures.few, c.from.ensures)

pub overflow_add-result : goal.overflow_add-result
overflow_add-result g c = omega (arith, c.requires.before, c.requires.end, c.deliver_due.ensures.few, c.from.ensures)

pub deliver_due-requires-clause-replies : goal.deliver_due-requires-clause-replies
deliver_due-requires-clause-replies g c = omega (arith, c.requires.few.replies, c.requires.before, c.requires.end)

pub returns-clause-hierarchy : goal.returns-clause-hierarchy
returns-clause-hierarchy g c = refl

pub returns-clause-pinned : goal.returns-clause-pinned
returns-clause-pinned g c = refl

pub returns-clause-later : goal.returns-clause-later
returns-clause-later g c = omega (arith, c.if-next-now.false)
