use Rattle.std.proofs.Common.{◌∷◌, ◌++◌, [], List, ap, sym, refl, true, true≢false, ◌∙◌}
use Rattle.thread_set.specs.Threads.{Threads, woken}
use Rattle.call_table.specs.Domain.{Dom, signalled, recorded, with_bit}
use Rattle.call_table.specs.declared.Reply.{Reply}
use Rattle.kernel_call.specs.Models.{dom_model}
use Rattle.kernel_call.proofs.TiesThreads.{signal_wakes, signal_sets, bit_given, stands_as}
use Rattle.kernel_call.proofs.threads.signal_line.Goals as goal

pub returns-then-wake-clause-becomes : goal.returns-then-wake-clause-becomes
unfolding recorded
returns-then-wake-clause-becomes c readings replies logged kept =
    let d : Dom = dom_model c.args.domain.now readings replies in
    let all : List Reply = replies ++ record { code = 0; value = 1 } ∷ [] in
    stands_as _ (recorded 0 1 (record d { threads = woken c.args.line d.threads })) (signalled c.args.line d)
    (sym (signal_wakes c.args.line d (c.wake.ensures.waited.0 c.if-wake.true)))
    (record {
      same = ap (λ (ts : Threads). record d { threads = ts; replies = all }) c.wake.ensures.woken;
      readings = logged;
      replies = c.push.ensures.pushed replies kept;
    })

pub returns-clause-becomes : goal.returns-clause-becomes
unfolding with_bit
returns-clause-becomes c readings replies logged kept =
    let d : Dom = dom_model c.args.domain.now readings replies in
    stands_as _ (with_bit c.args.line true d) (signalled c.args.line d)
    (sym (signal_sets c.args.line d (λ some. true≢false (sym (c.wake.ensures.waited.1 some) ∙ c.if-wake.false))))
    (record {
      same =
          ap (λ (ts : Threads).
          record d { threads = ts; delivered = c.signal.new.self.delivered; bits = c.signal.new.self.bits })
          c.if-wake.ensures.unchanged
          ∙ bit_given d c.args.domain.now.interrupts c.signal.new.self c.args.line true c.signal.ensures.set refl refl;
      readings = logged;
      replies = kept;
    })
