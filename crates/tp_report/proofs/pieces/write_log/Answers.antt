use Rattle.std.proofs.Common.{◌≡◌, ◌≢◌, arith, rules}
use Rattle.std.proofs.lemmas.Result.{err_from_is_err_and}
use Rattle.tp_report.proofs.Batches.{then_adds, cut_between}
use Rattle.tp_report.proofs.Texts.{log_text-none, log_text-some, cut_in_count}
use Rattle.tp_report.proofs.pieces.write_log.Goals as goal

pub returns-in_err-write_number : goal.returns-in_err-write_number
returns-in_err-write_number g c =
    let p = err_from_is_err_and c.from_residual.result c.from_residual.ensures.1 in
    rw p.1 (record {
      adds =
          cut_in_count g.T.WriteText.text (g.L.Items.log c.args.log.now) _ _
          (rw c.count-count.ensures.value at c.in_err-write_number.ensures.adds);
    })

pub returns-in_err-write_last : goal.returns-in_err-write_last
returns-in_err-write_last g c =
    let p = err_from_is_err_and c.from_residual-in_err-write_last.result c.from_residual-in_err-write_last.ensures.1 in
    let l = g.L.Items.log c.args.log.now in
    let some : l.count ≢ 0 = search rules in
    rw (p.1, log_text-some g.T.WriteText.text l some, c.last.ensures.value)
    (record {
      adds =
          cut_between _ _ _ _ _ _ (rw c.count-count.ensures.value at c.in_ok-write_number.ensures.adds)
          c.in_err-write_last.ensures.adds;
    })

pub returns : goal.returns
returns g c =
    let l = g.L.Items.log c.args.log.now in
    let some : l.count ≢ 0 = search rules in
    rw (log_text-some g.T.WriteText.text l some, c.last.ensures.value) (record {
      adds = then_adds _ _ _ c.write_kept.result _ _ (rw c.count-count.ensures.value at c.in_ok-write_number.ensures.adds)
          (then_adds _ _ _ c.write_kept.result _ _ c.in_ok-write_last.ensures.adds c.write_kept.ensures.adds);
    })

pub returns-then-count-eq0 : goal.returns-then-count-eq0
returns-then-count-eq0 g c =
    let l = g.L.Items.log c.args.log.now in
    let none : l.count ≡ 0 = search rules in
    rw (log_text-none g.T.WriteText.text l none) (record { adds = rw c.count-count.ensures.value at c.in_ok-write_number.ensures.adds })

pub overflow_cast-min : goal.overflow_cast-min
overflow_cast-min g c = omega (arith, c.min.ensures)

pub write_kept-requires-clause-kept : goal.write_kept-requires-clause-kept
write_kept-requires-clause-kept g c = c.count-count.ensures.kept

pub write_kept-requires-clause-all : goal.write_kept-requires-clause-all
write_kept-requires-clause-all g c = omega (arith, c.min.ensures, c.count-count.ensures.value)
