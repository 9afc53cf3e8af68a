use Rattle.std.proofs.Common.{length, take}
use Rattle.std.specs.List.{flat_map, range_with_len}
use Rattle.tp_report.specs.Batches.{Added, holding}
use Rattle.tp_report.specs.Switches.{switch_at}
use Rattle.tp_report.proofs.report.write_lines.Given as goal

abbrev pub invariant-loop-e : goal.invariant-loop-e
invariant-loop-e g l =
    Added (holding g.K.Sink l.fn.out l.fn.held) (holding g.K.Sink l.out l.held)
    (flat_map (switch_at l.entries l.used) (take l.e (range_with_len 0 (length l.entries))))
