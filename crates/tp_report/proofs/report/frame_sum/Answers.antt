use Rattle.std.proofs.Common.{[]}
use Rattle.std.specs.Prelude.{slice_index_or}
use Rattle.domain_view.specs.Models.{view_model}
use Rattle.tp_report.proofs.Sums.{frame_sum_blank}
use Rattle.tp_report.proofs.report.frame_sum.Goals as goal

pub returns-then-pool_frame_is_blank : goal.returns-then-pool_frame_is_blank
returns-then-pool_frame_is_blank c = record {
  value =
      frame_sum_blank (slice_index_or (view_model c.args.view.now).frames c.args.i [])
      (c.pool_frame_is_blank.ensures.zero c.if-pool_frame_is_blank.true);
}
