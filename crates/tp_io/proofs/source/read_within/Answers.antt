-- The exit where memory runs out.
use Rattle.std.proofs.lemmas.Result.{err_from_is_err_and}
use Rattle.tp_io.proofs.Known.{took_more}
use Rattle.tp_io.proofs.source.read_within.Goals as goal

pub returns-in_err-extend_from_slice-clause-lost : goal.returns-in_err-extend_from_slice-clause-lost
returns-in_err-extend_from_slice-clause-lost g c =
    let p = err_from_is_err_and c.from_residual-in_err-extend_from_slice.result c.from_residual-in_err-extend_from_slice.ensures.1 in
    rw p.1 (took_more _ _ _ _ _ c.loop-buf.invariant.so_far c.in_ok-count.ensures.bytes.1)
