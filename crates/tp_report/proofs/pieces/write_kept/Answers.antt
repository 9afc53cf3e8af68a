use Rattle.std.proofs.Common.{◌≤◌, length, sym, arith}
use Rattle.std.proofs.lemmas.Option.{slice_get_within, get_or_from_slice_get}
use Rattle.std.proofs.lemmas.Result.{err_from_is_err_and}
use Rattle.tp_report.proofs.Batches.{added_nothing}
use Rattle.tp_report.proofs.Each.{added_each, cut_in_each, added_all}
use Rattle.tp_report.specs.Texts.{spaced}
use Rattle.tp_report.proofs.pieces.write_kept.Goals as goal

pub loop-i-init : goal.loop-i-init
loop-i-init g c = added_nothing _

pub returns-in_err-write_after : goal.returns-in_err-write_after
unfolding spaced
returns-in_err-write_after g c =
    let p = err_from_is_err_and c.from_residual.result c.from_residual.ensures.1 in
    let xs = (g.L.Items.log c.args.log.now).first in
    let i = c.loop-i.i in
    let x = c.item.result in
    rw p.1 (record {
      adds =
          cut_in_each (spaced g.T.WriteText.text) xs i x _ _ _ (slice_get_within xs i x c.item.ensures.value)
          (sym (get_or_from_slice_get xs i x x c.item.ensures.value)) c.loop-i.invariant
          c.in_err-write_after.ensures.adds;
    })

pub loop-i-preserved : goal.loop-i-preserved
unfolding spaced
loop-i-preserved g c =
    let xs = (g.L.Items.log c.args.log.now).first in
    let i = c.loop-i.i in
    let x = c.item.result in
    added_each (spaced g.T.WriteText.text) xs i x _ _ _ (slice_get_within xs i x c.item.ensures.value)
    (sym (get_or_from_slice_get xs i x x c.item.ensures.value)) c.loop-i.invariant
    c.in_ok-write_after.ensures.adds

pub returns : goal.returns
returns g c =
    let xs = (g.L.Items.log c.args.log.now).first in
    let end : length xs ≤ c.loop-i.i = omega (arith, c.requires.kept.first, c.requires.all) in
    record { adds = added_all (spaced g.T.WriteText.text) xs c.loop-i.i _ _ end c.loop-i.invariant }
