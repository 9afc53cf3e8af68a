use Rattle.std.proofs.lemmas.Result.{err_from_is_err_and}
use Rattle.tp_report.proofs.Batches.{then_adds, cut_in_first}
use Rattle.tp_report.proofs.pieces.write_after.Goals as goal

pub returns-in_err-add : goal.returns-in_err-add
returns-in_err-add g c =
    let p = err_from_is_err_and c.from_residual.result c.from_residual.ensures.1 in
    rw p.1 (record { adds = cut_in_first _ _ _ _ (rw c.as_bytes.ensures.value at c.in_err-add.ensures.adds) })

pub returns : goal.returns
returns g c = record {
  adds =
      then_adds _ _ _ c.write_text.result _ _ (rw c.as_bytes.ensures.value at c.in_ok-add.ensures.adds)
      c.write_text.ensures.adds;
}
