use Rattle.kernel_clone.specs.Models.{layout_model}
use Rattle.kernel_clone.proofs.Runs.{text_run, text_room}
use Rattle.kernel_clone.proofs.footprint.text_start.Goals as goal

pub returns-clause-touches : goal.returns-clause-touches
returns-clause-touches c =
    rw (c.text_line.ensures.value, c.place_in_text.ensures.value, c.from.ensures)
    (text_run (layout_model c.args.layout.now) c.requires.layout c.args.op)

pub returns-clause-room : goal.returns-clause-room
returns-clause-room c =
    rw (c.text_line.ensures.value, c.place_in_text.ensures.value, c.from.ensures)
    (text_room (layout_model c.args.layout.now) c.requires.layout c.args.op)
