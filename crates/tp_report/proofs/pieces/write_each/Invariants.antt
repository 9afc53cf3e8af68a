use Rattle.std.proofs.Common.{take}
use Rattle.std.specs.List.{flat_map}
use Rattle.tp_report.specs.Batches.{Added, holding}
use Rattle.tp_report.specs.Pieces.{after}
use Rattle.tp_report.proofs.pieces.write_each.Given as goal

abbrev pub invariant-loop-item : goal.invariant-loop-item
invariant-loop-item g l =
    Added (holding g.K.Sink l.fn.out l.fn.held) (holding g.K.Sink l.out l.held)
    (flat_map (after l.before g.T.WriteText.text) (take l.item-index l.items))
