use Rattle.kernel_clone.specs.Models.{layout_model}
use Rattle.kernel_clone.proofs.Runs.{data_run, data_room}
use Rattle.kernel_clone.proofs.footprint.data_start.Goals as goal

pub returns-clause-touches : goal.returns-clause-touches
returns-clause-touches c =
    rw (c.line_of.ensures.value, c.place_in_frame.ensures.value, c.from.ensures)
    (data_run (layout_model c.args.layout.now) c.requires.layout c.args.op)

pub returns-clause-room : goal.returns-clause-room
returns-clause-room c =
    rw (c.line_of.ensures.value, c.place_in_frame.ensures.value, c.from.ensures)
    (data_room (layout_model c.args.layout.now) c.requires.layout c.args.op)
