use Rattle.domain_step.proofs.SwitchCounts.{is_used_noted, counted_noted}
use Rattle.domain_step.proofs.used.note_switch.Goals as goal

pub returns-clause-noted : goal.returns-clause-noted
returns-clause-noted c us old =
    is_used_noted c.args.used.now c.args.entry _ c.requires.entry c.args.cycles c.max.result us c.max.ensures
    old

pub returns-clause-few : goal.returns-clause-few
returns-clause-few c n old = counted_noted c.args.used.now c.args.entry _ c.requires.entry n c.max.result old
