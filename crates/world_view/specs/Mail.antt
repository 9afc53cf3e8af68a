-- What comes in boxes as slots begin, and what a switch does to them.
use Rattle.std.specs.Prelude.{ℕ, zero, suc, ◌==◌, if◌then◌else◌, List, [], ◌∷◌, slice_index_or, Option, Some, None}
use Rattle.sched_table.specs.declared.schedule.Entry.{Entry}
use Rattle.sched_table.specs.Schedule.{entry_of_slot}
use Rattle.mail_slots.specs.Boxes.{Boxes, ends, begins}
use Rattle.mail_slots.specs.Sides.{Arrival, arrival}

-- what came as a slot of a domain began
pub record Came : Type 0 where
  pub domain : ℕ
  pub words : Arrival

-- for each slot of a domain that has begun, in order, what it began with
unfoldable pub arrivals_in : ℕ → List Came → List Arrival
arrivals_in d [] = []
arrivals_in d (x ∷ came) = if x.domain == d then x.words ∷ arrivals_in d came else arrivals_in d came

-- at a switch the slot of who leaves has ended: nobody's at the boot
abbrev pub left_boxes : Option ℕ → Boxes → Boxes
left_boxes None boxes = boxes
left_boxes (Some d) boxes = ends d boxes

-- and then the slot of who enters begins
abbrev pub switched_boxes : Option ℕ → ℕ → Boxes → Boxes
switched_boxes out d boxes = begins d (left_boxes out boxes)

-- what it begins with
abbrev pub came_to : Option ℕ → ℕ → Boxes → Came
came_to out d boxes = record { domain = d; words = arrival d (left_boxes out boxes) }

-- ---- the slots of one domain

-- how many of the slots before slot k are its own
unfoldable pub turns : List Entry → ℕ → ℕ → ℕ
turns es d zero = 0
turns es d (suc k) = if (entry_of_slot es k).domain == d then suc (turns es d k) else turns es d k

-- what its own slot number n begins with: nothing, where the list is shorter
abbrev pub nth_of : List Arrival → ℕ → Arrival
nth_of came n = slice_index_or came n []
