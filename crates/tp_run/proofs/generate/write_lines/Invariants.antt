use Rattle.std.proofs.Common.{take}
use Rattle.std.specs.List.{flat_map, range_with_len}
use Rattle.tp_io.specs.Sends.{Sent}
use Rattle.tp_io.specs.Sink.{state}
use Rattle.image_check.specs.Image.{image_from}
use Rattle.tp_report.specs.Demo.{demo_line}
use Rattle.tp_run.proofs.generate.write_lines.Given as goal

abbrev pub invariant-loop-d : goal.invariant-loop-d
invariant-loop-d g l =
    let i = image_from l.machine.record_of in
    Sent (state g.K.Sink l.fn.out) (state g.K.Sink l.out)
    (flat_map (demo_line i l.machine.slots) (take l.d (range_with_len 0 i.all.domains)))
