use Rattle.std.proofs.Common.{length, take}
use Rattle.std.specs.List.{flat_map, range_with_len}
use Rattle.pad_bound.specs.Models.{shape_model}
use Rattle.tp_report.specs.Batches.{Added, holding}
use Rattle.tp_report.specs.Report.{entry_text}
use Rattle.tp_report.proofs.bounds.write_entries.Given as goal

abbrev pub invariant-loop-e : goal.invariant-loop-e
invariant-loop-e g l =
    Added (holding g.K.Sink l.fn.out l.fn.held) (holding g.K.Sink l.out l.held)
    (flat_map (entry_text (shape_model l.shape) l.entries l.calls)
    (take l.e (range_with_len 0 (length l.entries))))
