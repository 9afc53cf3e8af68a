-- How contracts see the code's harts: the image that they run, a hart's own entries, and what they are after an order.
use Rattle.std.specs.Prelude.{ℕ, List}
use Rattle.image_record.specs.Record.{Raw}
use Rattle.sched_table.specs.declared.schedule.Entry.{Entry}
use Rattle.sched_table.specs.Schedule.{on_hart}
use Rattle.image_check.specs.Image.{Image, image_from}
use Rattle.world_view.specs.Harts.{Harts, harts}
use Rattle.hart_set.specs.declared.set.State.{State}
use Rattle.hart_set.specs.Standing.{StandsFor}

abbrev pub image_of : Raw × State → Image
image_of s = image_from s.0

abbrev pub entries_of : Raw × State → ℕ → List Entry
entries_of s h = on_hart (image_of s).all.schedule h

abbrev pub harts_after : Raw × State → List ℕ → Harts
harts_after s order = harts (image_of s) order

abbrev pub StandsAfter : Raw × State → List ℕ → Type 0
StandsAfter s order = StandsFor (image_of s) (harts_after s order) s.1
