use Rattle.std.proofs.Common.{arith, rules}
use Rattle.std.proofs.lemmas.Result.{err_from_is_err_and}
use Rattle.tp_report.proofs.Digits.{digits_none, digits_fail, digits_more, digits_added}
use Rattle.tp_report.proofs.pieces.write_digits.Goals as goal

pub loop-sent-init : goal.loop-sent-init
loop-sent-init g c = record { within = search rules; so_far = digits_none _ }

pub returns-in_err-write_chunk : goal.returns-in_err-write_chunk
returns-in_err-write_chunk g c =
    let p = err_from_is_err_and c.from_residual.result c.from_residual.ensures.1 in
    rw p.1 (record {
      adds =
          digits_fail c.args.bytes.now c.loop-sent.sent _ _ _ _ c.loop-sent.invariant.so_far
          c.in_err-write_chunk.ensures.adds;
    })

pub loop-sent-preserved : goal.loop-sent-preserved
loop-sent-preserved g c = record {
  within = search rules;
  so_far =
      digits_more c.args.bytes.now c.loop-sent.sent _ _ _ _ _ (omega (arith, c.min-next.ensures))
      c.loop-sent.invariant.so_far c.in_ok-write_chunk.ensures.adds;
}

pub slice_bounds-write_chunk-count : goal.slice_bounds-write_chunk-count
slice_bounds-write_chunk-count g c = omega (arith, c.min-next.ensures, c.loop-sent-test.true)

pub loop-sent-smaller : goal.loop-sent-smaller
loop-sent-smaller g c = omega (arith, c.min-next.ensures, c.loop-sent-test.true)

pub returns : goal.returns
returns g c = record { adds = digits_added c.args.bytes.now c.loop-sent.sent _ _ c.loop-sent-test.false c.loop-sent.invariant.so_far }
