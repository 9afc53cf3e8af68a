use Rattle.std.proofs.Common.{rules}
use Rattle.std.proofs.lemmas.Result.{err_from_is_err_and}
use Rattle.image_check.specs.Image.{image_from}
use Rattle.tp_report.specs.Demo.{demo_line, demo_lines}
use Rattle.tp_answer.proofs.Numbers.{number_sent, cut_in_number, numbers_sent}
use Rattle.tp_run.proofs.generate.write_lines.Goals as goal

pub returns-in_err-write_demo : goal.returns-in_err-write_demo
unfolding demo_lines
returns-in_err-write_demo g c =
    let i = image_from c.args.machine.now.record_of in
    let p = err_from_is_err_and c.from_residual.result c.from_residual.ensures.1 in
    rw p.1 (record {
      sends =
          cut_in_number (demo_line i c.args.machine.now.slots) i.all.domains c.loop-d.d _ _ _
          (search rules) c.loop-d.invariant (rw c.view.ensures.view at c.in_err-write_demo.ensures.sends);
    })

pub loop-d-preserved : goal.loop-d-preserved
loop-d-preserved g c =
    let i = image_from c.args.machine.now.record_of in
    number_sent (demo_line i c.args.machine.now.slots) i.all.domains c.loop-d.d _ _ _ (search rules)
    c.loop-d.invariant (rw c.view.ensures.view at c.in_ok-write_demo.ensures.sends)

pub returns : goal.returns
unfolding demo_lines
returns g c =
    let i = image_from c.args.machine.now.record_of in
    record { sends = numbers_sent (demo_line i c.args.machine.now.slots) i.all.domains c.loop-d.d _ _ (search rules) c.loop-d.invariant }
