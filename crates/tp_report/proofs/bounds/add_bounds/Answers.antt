use Rattle.std.proofs.lemmas.Result.{err_from_is_err_and}
use Rattle.tp_report.proofs.Batches.{then_adds, cut_in_first}
use Rattle.tp_report.specs.Report.{bound_2_text}
use Rattle.tp_report.proofs.bounds.add_bounds.Goals as goal

pub returns-in_err-write_shared_parts : goal.returns-in_err-write_shared_parts
unfolding bound_2_text
returns-in_err-write_shared_parts g c =
    let p = err_from_is_err_and c.from_residual.result c.from_residual.ensures.1 in
    rw p.1 (record { adds = cut_in_first _ _ _ _ c.in_err-write_shared_parts.ensures.adds })

pub returns : goal.returns
unfolding bound_2_text
returns g c = record {
  adds =
      then_adds _ _ _ c.write_entries.result _ _ c.in_ok-write_shared_parts.ensures.adds
      c.write_entries.ensures.adds;
}
