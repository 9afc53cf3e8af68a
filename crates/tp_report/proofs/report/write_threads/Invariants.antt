use Rattle.std.proofs.Common.{take}
use Rattle.std.specs.List.{flat_map, enumerate_from}
use Rattle.tp_report.specs.Batches.{Added, holding}
use Rattle.domain_view.specs.Models.{view_model}
use Rattle.tp_report.specs.Texts.{thread_text}
use Rattle.tp_report.proofs.report.write_threads.Given as goal

abbrev pub invariant-loop-t : goal.invariant-loop-t
invariant-loop-t g l =
    Added (holding g.K.Sink l.fn.out l.fn.held) (holding g.K.Sink l.out l.held)
    (flat_map thread_text (take l.t (enumerate_from 0 (view_model l.view).threads)))
