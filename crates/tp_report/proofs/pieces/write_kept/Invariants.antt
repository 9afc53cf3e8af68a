use Rattle.std.proofs.Common.{take}
use Rattle.std.specs.List.{flat_map}
use Rattle.tp_report.specs.Batches.{Added, holding}
use Rattle.tp_report.specs.Texts.{spaced}
use Rattle.tp_report.proofs.pieces.write_kept.Given as goal

abbrev pub invariant-loop-i : goal.invariant-loop-i
invariant-loop-i g l =
    Added (holding g.K.Sink l.fn.out l.fn.held) (holding g.K.Sink l.out l.held)
    (flat_map (spaced g.T.WriteText.text) (take l.i (g.L.Items.log l.log).first))
