use Rattle.std.proofs.lemmas.Result.{err_from_is_err_and}
use Rattle.tp_report.proofs.Batches.{then_adds, cut_between, cut_in_first}
use Rattle.tp_report.specs.Texts.{section}
use Rattle.tp_report.proofs.report.add_section.Goals as goal

pub returns-in_err-write_head : goal.returns-in_err-write_head
unfolding section
returns-in_err-write_head g c =
    let p = err_from_is_err_and c.from_residual.result c.from_residual.ensures.1 in
    rw p.1 (record { adds = cut_in_first _ _ _ _ c.in_err-write_head.ensures.adds })

pub returns-in_err-write_threads : goal.returns-in_err-write_threads
unfolding section
returns-in_err-write_threads g c =
    let p = err_from_is_err_and c.from_residual-in_err-write_threads.result c.from_residual-in_err-write_threads.ensures.1 in
    rw p.1 (record { adds = cut_between _ _ _ _ _ _ c.in_ok-write_head.ensures.adds c.in_err-write_threads.ensures.adds })

pub returns : goal.returns
unfolding section
returns g c = record {
  adds = then_adds _ _ _ c.write_rest.result _ _ c.in_ok-write_head.ensures.adds
      (then_adds _ _ _ c.write_rest.result _ _ c.in_ok-write_threads.ensures.adds c.write_rest.ensures.adds);
}
