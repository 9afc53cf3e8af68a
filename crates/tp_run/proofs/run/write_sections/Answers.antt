use Rattle.std.proofs.Common.{rules}
use Rattle.std.proofs.lemmas.Result.{err_from_is_err_and}
use Rattle.world_view.specs.View.{view_in}
use Rattle.tp_report.specs.Report.{section_of, sections}
use Rattle.tp_answer.proofs.Numbers.{number_sent, cut_in_number, numbers_sent}
use Rattle.tp_run.proofs.run.write_sections.Goals as goal

pub returns-in_err-write_domain : goal.returns-in_err-write_domain
unfolding sections
returns-in_err-write_domain g c =
    let m = c.args.machine.now in
    let i = g.M.Reported.image m in
    let p = err_from_is_err_and c.from_residual.result c.from_residual.ensures.1 in
    rw p.1 (record {
      sends = cut_in_number (section_of i (λ e. view_in i e (g.M.Reported.world m))) i.all.domains c.loop-d.d _ _ _
          (search rules) c.loop-d.invariant c.in_err-write_domain.ensures.sends;
    })

pub loop-d-preserved : goal.loop-d-preserved
loop-d-preserved g c =
    let m = c.args.machine.now in
    let i = g.M.Reported.image m in
    number_sent (section_of i (λ e. view_in i e (g.M.Reported.world m))) i.all.domains c.loop-d.d _ _ _
    (search rules) c.loop-d.invariant c.in_ok-write_domain.ensures.sends

pub returns : goal.returns
unfolding sections
returns g c =
    let m = c.args.machine.now in
    let i = g.M.Reported.image m in
    record {
      sends = numbers_sent (section_of i (λ e. view_in i e (g.M.Reported.world m))) i.all.domains c.loop-d.d _ _
          (search rules) c.loop-d.invariant;
    }
