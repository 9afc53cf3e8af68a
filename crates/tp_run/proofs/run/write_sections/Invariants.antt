use Rattle.std.proofs.Common.{take}
use Rattle.std.specs.List.{flat_map, range_with_len}
use Rattle.tp_io.specs.Sends.{Sent}
use Rattle.tp_io.specs.Sink.{state}
use Rattle.world_view.specs.View.{view_in}
use Rattle.tp_report.specs.Report.{section_of}
use Rattle.tp_run.proofs.run.write_sections.Given as goal

abbrev pub invariant-loop-d : goal.invariant-loop-d
invariant-loop-d g l =
    let i = g.M.Reported.image l.machine in
    Sent (state g.K.Sink l.fn.out) (state g.K.Sink l.out)
    (flat_map (section_of i (λ e. view_in i e (g.M.Reported.world l.machine))) (take l.d (range_with_len 0 i.all.domains)))
