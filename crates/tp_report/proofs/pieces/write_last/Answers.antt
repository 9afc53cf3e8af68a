use Rattle.std.proofs.lemmas.Result.{err_from_is_err_and}
use Rattle.tp_report.proofs.Batches.{then_adds, cut_in_first}
use Rattle.tp_report.proofs.Texts.{last_text-Some}
use Rattle.tp_report.proofs.pieces.write_last.Goals as goal

pub returns-in_err-write_after : goal.returns-in_err-write_after
returns-in_err-write_after g c =
    let p = err_from_is_err_and c.from_residual.result c.from_residual.ensures.1 in
    rw (p.1, last_text-Some g.T.WriteText.text c.args.item.now) (record { adds = cut_in_first _ _ _ _ c.in_err-write_after.ensures.adds })

pub returns : goal.returns
returns g c =
    rw (last_text-Some g.T.WriteText.text c.args.item.now)
    (record { adds = then_adds _ _ _ c.add.result _ _ c.in_ok-write_after.ensures.adds c.add.ensures.adds })
