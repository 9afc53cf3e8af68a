use Rattle.kernel_clone.specs.Models.{layout_model}
use Rattle.kernel_clone.proofs.Runs.{stack_run, stack_room}
use Rattle.kernel_clone.proofs.footprint.stack_start.Goals as goal

pub returns-clause-touches : goal.returns-clause-touches
returns-clause-touches c = rw c.line_of.ensures.value (stack_run (layout_model c.args.layout.now))

pub returns-clause-room : goal.returns-clause-room
returns-clause-room c = rw c.line_of.ensures.value (stack_room (layout_model c.args.layout.now) c.requires.layout)
