use Rattle.std.proofs.Common.{◌≢◌, length, rules}
use Rattle.std.proofs.lemmas.Result.{err_from_is_err_and}
use Rattle.tp_report.proofs.Batches.{then_adds, cut_in_first}
use Rattle.tp_report.proofs.Texts.{bytes_text-some}
use Rattle.tp_report.proofs.pieces.write_bytes.Goals as goal

pub returns-in_err-add : goal.returns-in_err-add
returns-in_err-add g c =
    let some : length c.args.bytes.now ≢ 0 = search rules in
    let p = err_from_is_err_and c.from_residual.result c.from_residual.ensures.1 in
    rw (p.1, bytes_text-some c.args.bytes.now some) (record { adds = cut_in_first _ _ _ _ c.in_err-add.ensures.adds })

pub returns : goal.returns
returns g c =
    let some : length c.args.bytes.now ≢ 0 = search rules in
    rw (bytes_text-some c.args.bytes.now some) (record {
      adds = then_adds _ _ _ c.write_digits.result _ _ c.in_ok-add.ensures.adds c.write_digits.ensures.adds;
    })
