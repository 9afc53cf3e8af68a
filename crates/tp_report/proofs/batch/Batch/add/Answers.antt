-- One more full batch.
use Rattle.std.proofs.Common.{arith, rules}
use Rattle.std.proofs.lemmas.Result.{err_from_is_err_and}
use Rattle.tp_report.proofs.Batches.{added_nothing}
use Rattle.tp_report.proofs.Full.{full_sent, full_cut}
use Rattle.tp_report.proofs.batch.Batch.add.Goals as goal

pub returns-in_err-hand_on : goal.returns-in_err-hand_on
returns-in_err-hand_on g c =
    let p = err_from_is_err_and c.from_residual.result c.from_residual.ensures.1 in
    rw p.1 (record {
      adds =
          full_cut c.args.text.now c.loop-self.added _ _ _ _ c.loop-self.self c.hold.new.self
          c.hand_on.new.self c.loop-self.invariant.so_far c.hold.ensures.value
          c.in_err-hand_on.ensures.sends;
    })

pub loop-self-preserved : goal.loop-self-preserved
loop-self-preserved g c = record {
  within = search rules;
  so_far =
      full_sent c.args.text.now c.loop-self.added _ _ _ _ c.loop-self.self c.hold.new.self c.hand_on.new.self
      _ (omega arith) c.loop-self.invariant.so_far c.hold.ensures.value c.in_ok-hand_on.ensures.empty
      c.in_ok-hand_on.ensures.sends;
}

pub loop-self-init : goal.loop-self-init
loop-self-init g c = record { within = omega arith; so_far = added_nothing _ }

pub overflow_sub-text : goal.overflow_sub-text
overflow_sub-text g c = c.loop-self.invariant.within

pub slice_bounds-hold-count : goal.slice_bounds-hold-count
slice_bounds-hold-count g c = omega arith

pub slice_bounds-hold-count-2 : goal.slice_bounds-hold-count-2
slice_bounds-hold-count-2 g c = c.loop-self.invariant.within
