use Rattle.image_text.specs.Models.{row_model}
use Rattle.image_text.specs.Rows.{passes}
use Rattle.image_text.proofs.Loops.{passed, failed, none_failed}
use Rattle.image_text.proofs.rows.first_failing.Goals as goal

pub loop-number-preserved : goal.loop-number-preserved
loop-number-preserved c =
    passed (passes c.args.row.now.place (row_model c.args.row.now)) c.args.values.now c.loop-number.number _ c.loop-number.invariant
    c.index-values-number.result c.index-values-number.result c.loop-number-test.true c.index-values-number.is c.if-not-passes.ensures.value

pub returns-then-not-passes-clause-value : goal.returns-then-not-passes-clause-value
returns-then-not-passes-clause-value c =
    failed (passes c.args.row.now.place (row_model c.args.row.now)) c.args.values.now c.loop-number.number _ c.loop-number.invariant
    c.index-values-number.result c.index-values-number.result c.loop-number-test.true c.index-values-number.is c.if-not-passes.ensures.value

pub returns-clause-value : goal.returns-clause-value
returns-clause-value c =
    none_failed (passes c.args.row.now.place (row_model c.args.row.now)) c.args.values.now
    c.loop-number.number _ c.loop-number.invariant c.loop-number-test.false
