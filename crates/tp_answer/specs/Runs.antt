-- What a run comes to, and what is written of it.
use Rattle.std.specs.Prelude.{ℕ, List}
use Rattle.image_check.specs.Image.{Image}
use Rattle.mail_slots.specs.Sides.{Arrival}
use Rattle.world_view.specs.Machine.{World, arrivals}
use Rattle.world_view.specs.View.{view_in}
use Rattle.world_view.specs.Harts.{view_mailed_on, view_alone_on}
use Rattle.hart_orders.specs.Order.{ran}
use Rattle.hart_orders.specs.declared.choice.Choice.{Choice}
use Rattle.tp_report.specs.Report.{section_of, report_of, report_with}

-- the machine after n slots of each hart, where the next event's hart is chosen so
abbrev pub world_after : Image → Choice → ℕ → World
world_after = ran

unfoldable pub report : Image → Choice → ℕ → List ℕ
report i c n = report_of i (world_after i c n)

-- what came to a domain in boxes, for each of its slots
abbrev pub arrivals_after : Image → Choice → ℕ → ℕ → List Arrival
arrivals_after i c n d = arrivals d (world_after i c n)

-- the report in which each section is that of its domain alone, by the entries of its hart, with what came to it in boxes
unfoldable pub report_apart : Image → Choice → ℕ → List ℕ
report_apart i c n = report_with i (λ d. view_mailed_on i d (arrivals_after i c n d) n) (world_after i c n).used

-- the section of domain d in the report
abbrev pub section_among : Image → Choice → ℕ → ℕ → List ℕ
section_among i c d n = section_of i (λ e. view_in i e (world_after i c n)) d

-- the section of domain d, alone after n slots of its hart, with nothing that comes
unfoldable pub section_alone : Image → ℕ → ℕ → List ℕ
section_alone i d n = section_of i (λ e. view_alone_on i e n) d
