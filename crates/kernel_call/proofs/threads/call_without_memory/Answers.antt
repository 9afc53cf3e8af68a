use Rattle.std.proofs.Common.{arith, length, refl, ap}
use Rattle.std.specs.Prelude.{slice_index}
use Rattle.tp_base.specs.Act.{give}
use Rattle.call_table.specs.Domain.{Dom, exited, turned, done, thread_ended}
use Rattle.call_table.specs.Calls.{call_of, poll, wait, signal, spawn}
use Rattle.kernel_call.specs.declared.error.CallError.TheVariants as error
use Rattle.kernel_call.specs.Models.{dom_model}
use Rattle.kernel_clone.specs.Footprints.{call_number}
use Rattle.kernel_call.proofs.TiesThreads.{answered_by, answered_not, answered_refused, answered_turned, last_without_memory, no_memory_call}
use Rattle.kernel_call.proofs.threads.call_without_memory.Goals as goal

pub returns-in-Exit-clause-answers : goal.returns-in-Exit-clause-answers
unfolding call_of give exited
returns-in-Exit-clause-answers c e readings replies m logged kept =
    let d : Dom = dom_model c.args.domain.now readings replies in
    answered_by (call_number c.args.call) 0 e d (slice_index c.args.args 0) (slice_index c.args.args 1) (slice_index c.args.args 2) m
    (length replies) c.exit.result c.exit.new.domain
    (give (exited (slice_index c.args.args 0) d) m)
    (ap call_number c.in-Exit.is) refl (answered_not m (length replies) c.exit.new.domain _
    (exited (slice_index c.args.args 0) d) c.exit.result
    refl (omega arith) c.exit.ensures.reply (c.exit.ensures.becomes readings replies logged kept))

pub returns-in-Poll : goal.returns-in-Poll
unfolding call_of
returns-in-Poll c = record {
  answers = λ e readings replies m logged kept.
      let d : Dom = dom_model c.args.domain.now readings replies in
      answered_by (call_number c.args.call) 9 e d (slice_index c.args.args 0) (slice_index c.args.args 1) (slice_index c.args.args 2) m
      (length replies) c.poll.result c.poll.new.domain
      (poll d (slice_index c.args.args 0) m)
      (ap call_number c.in-Poll.is) refl (c.poll.ensures.answers e readings replies m logged kept);
  keeps = c.poll.ensures.keeps;
  caps = c.poll.ensures.caps;
  pool = c.poll.ensures.pool;
  refused = c.poll.ensures.refused;
}

pub returns-in-Wait : goal.returns-in-Wait
unfolding call_of
returns-in-Wait c = record {
  answers = λ e readings replies m logged kept.
      let d : Dom = dom_model c.args.domain.now readings replies in
      answered_by (call_number c.args.call) 10 e d (slice_index c.args.args 0) (slice_index c.args.args 1) (slice_index c.args.args 2) m
      (length replies) c.wait.result c.wait.new.domain
      (wait d (slice_index c.args.args 0) m)
      (ap call_number c.in-Wait.is) refl (c.wait.ensures.answers e readings replies m logged kept);
  keeps = c.wait.ensures.keeps;
  caps = c.wait.ensures.caps;
  pool = c.wait.ensures.pool;
  refused = c.wait.ensures.refused;
}

pub returns-in-Signal : goal.returns-in-Signal
unfolding call_of
returns-in-Signal c = record {
  answers = λ e readings replies m logged kept.
      let d : Dom = dom_model c.args.domain.now readings replies in
      answered_by (call_number c.args.call) 11 e d (slice_index c.args.args 0) (slice_index c.args.args 1) (slice_index c.args.args 2) m
      (length replies) c.signal.result c.signal.new.domain
      (signal d (slice_index c.args.args 0) m)
      (ap call_number c.in-Signal.is) refl (c.signal.ensures.answers e readings replies m logged kept);
  keeps = c.signal.ensures.keeps;
  caps = c.signal.ensures.caps;
  pool = c.signal.ensures.pool;
  refused = c.signal.ensures.refused;
}

pub returns-in-Spawn : goal.returns-in-Spawn
unfolding call_of
returns-in-Spawn c = record {
  answers = λ e readings replies m logged kept.
      let d : Dom = dom_model c.args.domain.now readings replies in
      answered_by (call_number c.args.call) 12 e d (slice_index c.args.args 0) (slice_index c.args.args 1) (slice_index c.args.args 2) m
      (length replies) c.spawn.result c.spawn.new.domain
      (spawn d (slice_index c.args.args 0) (slice_index c.args.args 1) m)
      (ap call_number c.in-Spawn.is) refl (c.spawn.ensures.answers e readings replies m logged kept);
  keeps = c.spawn.ensures.keeps;
  caps = c.spawn.ensures.caps;
  pool = c.spawn.ensures.pool;
  refused = c.spawn.ensures.refused;
}

pub returns-in-Yield-clause-answers : goal.returns-in-Yield-clause-answers
unfolding call_of give
returns-in-Yield-clause-answers c e readings replies m logged kept =
    let d : Dom = dom_model c.args.domain.now readings replies in
    answered_by (call_number c.args.call) 13 e d (slice_index c.args.args 0) (slice_index c.args.args 1) (slice_index c.args.args 2) m
    (length replies) c.yield_turn.result c.yield_turn.new.domain
    (give (turned (done 0 d)) m)
    (ap call_number c.in-Yield.is) refl (answered_turned m (length replies) c.yield_turn.new.domain _ d c.yield_turn.result
    refl (omega arith) c.yield_turn.ensures.reply (c.yield_turn.ensures.becomes readings replies logged kept))

pub returns-in-EndThread-clause-answers : goal.returns-in-EndThread-clause-answers
unfolding call_of give thread_ended
returns-in-EndThread-clause-answers c e readings replies m logged kept =
    let d : Dom = dom_model c.args.domain.now readings replies in
    answered_by (call_number c.args.call) 14 e d (slice_index c.args.args 0) (slice_index c.args.args 1) (slice_index c.args.args 2) m
    (length replies) c.end_thread.result c.end_thread.new.domain
    (give (thread_ended d) m)
    (ap call_number c.in-EndThread.is) refl (answered_not m
    (length replies) c.end_thread.new.domain _ (thread_ended d) c.end_thread.result
    refl (omega arith) c.end_thread.ensures.reply (c.end_thread.ensures.becomes readings replies logged kept))

pub returns-in-Exit-clause-keeps : goal.returns-in-Exit-clause-keeps
returns-in-Exit-clause-keeps c = c.exit.ensures.keeps

pub returns-in-Exit-clause-caps : goal.returns-in-Exit-clause-caps
returns-in-Exit-clause-caps c = c.exit.ensures.caps

pub returns-in-Exit-clause-pool : goal.returns-in-Exit-clause-pool
returns-in-Exit-clause-pool c = c.exit.ensures.pool

pub returns-in-Yield-clause-keeps : goal.returns-in-Yield-clause-keeps
returns-in-Yield-clause-keeps c = c.yield_turn.ensures.keeps

pub returns-in-Yield-clause-caps : goal.returns-in-Yield-clause-caps
returns-in-Yield-clause-caps c = c.yield_turn.ensures.caps

pub returns-in-Yield-clause-pool : goal.returns-in-Yield-clause-pool
returns-in-Yield-clause-pool c = c.yield_turn.ensures.pool

pub returns-in-EndThread-clause-keeps : goal.returns-in-EndThread-clause-keeps
returns-in-EndThread-clause-keeps c = c.end_thread.ensures.keeps

pub returns-in-EndThread-clause-caps : goal.returns-in-EndThread-clause-caps
returns-in-EndThread-clause-caps c = c.end_thread.ensures.caps

pub returns-in-EndThread-clause-pool : goal.returns-in-EndThread-clause-pool
returns-in-EndThread-clause-pool c = c.end_thread.ensures.pool

pub returns-in_default-clause-answers : goal.returns-in_default-clause-answers
returns-in_default-clause-answers c e readings replies m logged kept =
    let d : Dom = dom_model c.args.domain.now readings replies in
    answered_refused m (length replies) c.reply_to.new.domain _ d error.BadCall c.reply.result c.reply_to.result
    (no_memory_call c.args.call
    (last_without_memory c.args.call c.requires.others c.in_default.not-Exit c.in_default.not-Poll c.in_default.not-Wait
    c.in_default.not-Signal c.in_default.not-Spawn c.in_default.not-Yield c.in_default.not-EndThread) e d m
    (slice_index c.args.args 0) (slice_index c.args.args 1) (slice_index c.args.args 2))
    (omega arith) c.reply.ensures.value c.reply_to.ensures.reply (c.reply_to.ensures.becomes readings replies logged kept)
