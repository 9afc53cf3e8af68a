use Rattle.std.proofs.Common.{take}
use Rattle.std.specs.List.{flat_map, enumerate_from}
use Rattle.tp_report.specs.Batches.{Added, holding}
use Rattle.tp_report.specs.Texts.{register_text}
use Rattle.tp_report.proofs.pieces.write_registers.Given as goal

abbrev pub invariant-loop-x : goal.invariant-loop-x
invariant-loop-x g l =
    Added (holding g.K.Sink l.fn.out l.fn.held) (holding g.K.Sink l.out l.held)
    (flat_map register_text (take l.x (enumerate_from 0 l.regs)))
