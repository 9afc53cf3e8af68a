use Rattle.std.proofs.Common.{refl, true, map}
use Rattle.toml.specs.View.{table_view}
use Rattle.image_text.specs.Models.{row_model}
use Rattle.image_text.specs.Unknown as unknown
use Rattle.image_text.proofs.Loops.{holds, fails, ended}
use Rattle.image_text.proofs.unknown.no_more_in.Goals as goal

pub loop-row-preserved : goal.loop-row-preserved
loop-row-preserved c =
    holds (λ rs.
    unknown.no_more_in c.args.version c.args.place (map row_model rs) (table_view c.args.table.now))
    (λ r. unknown.no_more_if (unknown.is_of c.args.version c.args.place (row_model r)) (row_model r)
    (table_view c.args.table.now)) c.args.rows.now c.loop-row.row-index _ _ c.loop-row-test.true refl
    (λ y ys. refl) (rw c.is_of.ensures.value at c.if-not-no_more_if.ensures.value) c.loop-row.invariant

pub returns-then-not-no_more_if : goal.returns-then-not-no_more_if
returns-then-not-no_more_if c = record {
  value =
      fails (λ rs.
      unknown.no_more_in c.args.version c.args.place (map row_model rs) (table_view c.args.table.now))
      (λ r. unknown.no_more_if (unknown.is_of c.args.version c.args.place (row_model r)) (row_model r)
      (table_view c.args.table.now)) c.args.rows.now c.loop-row.row-index _ _ c.loop-row-test.true refl
      (λ y ys. refl) (rw c.is_of.ensures.value at c.if-not-no_more_if.ensures.value) c.loop-row.invariant;
}

pub returns : goal.returns
returns c = record {
  value =
      ended (λ rs.
      unknown.no_more_in c.args.version c.args.place (map row_model rs) (table_view c.args.table.now)) true
      c.args.rows.now c.loop-row.row-index c.loop-row-test.false refl c.loop-row.invariant;
}
