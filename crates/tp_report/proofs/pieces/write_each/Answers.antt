use Rattle.std.proofs.lemmas.Result.{err_from_is_err_and}
use Rattle.tp_report.proofs.Batches.{added_nothing}
use Rattle.tp_report.proofs.Each.{added_each, cut_in_each, added_all}
use Rattle.tp_report.specs.Pieces.{after}
use Rattle.tp_report.proofs.pieces.write_each.Goals as goal

pub loop-item-init : goal.loop-item-init
loop-item-init g c = added_nothing _

pub loop-item-preserved : goal.loop-item-preserved
loop-item-preserved g c =
    added_each (after c.args.before.now g.T.WriteText.text) c.args.items.now c.loop-item.item-index
    c.item-item.result _ _ _ c.loop-item-test.true c.item-item.is c.loop-item.invariant
    c.in_ok-write_after.ensures.adds

pub returns-in_err-write_after : goal.returns-in_err-write_after
returns-in_err-write_after g c =
    let p = err_from_is_err_and c.from_residual.result c.from_residual.ensures.1 in
    rw p.1 (record {
      adds =
          cut_in_each (after c.args.before.now g.T.WriteText.text) c.args.items.now c.loop-item.item-index
          c.item-item.result _ _ _ c.loop-item-test.true c.item-item.is c.loop-item.invariant
          c.in_err-write_after.ensures.adds;
    })

pub returns : goal.returns
returns g c = record {
  adds =
      added_all (after c.args.before.now g.T.WriteText.text) c.args.items.now c.loop-item.item-index _ _
      c.loop-item-test.false c.loop-item.invariant;
}
