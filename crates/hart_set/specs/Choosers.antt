-- The harts that a word names one of, where slots are run whole and their events counted off.
use Rattle.std.specs.Prelude.{◌≡◌, ℕ, ◌<◌, List, take, slice_index}
use Rattle.tp_base.specs.Table.{Table, at}
use Rattle.image_record.specs.Record.{Raw}
use Rattle.image_check.specs.Image.{Image}
use Rattle.sched_table.specs.Schedule.{harts_in}
use Rattle.event_orders.specs.Orders.{Counted, passing, is_owed_or_left}
use Rattle.world_view.specs.Harts.{Harts}
use Rattle.hart_machine.specs.HartMachine.{machine_of}
use Rattle.hart_set.specs.declared.set.State.{State}
use Rattle.hart_set.specs.declared.choice.Names.{Names}
use Rattle.hart_set.specs.Models.{image_of, harts_after}

-- after an order of events, where these are owed
abbrev pub counted_after : Raw × State → List ℕ → Table ℕ → Counted Harts
counted_after s order owed = record { world = harts_after s order; owed = owed }

-- by hart, so many are owed
abbrev pub Owes : Image → List ℕ → Table ℕ → Type 0
Owes i owed table = (h : ℕ) → h < harts_in i.all.schedule → slice_index owed h ≡ at 0 table h

-- those that have had fewer slots than n, or of which events are owed
abbrev pub left_in : Raw × State → List ℕ → Table ℕ → ℕ → List ℕ
left_in s order owed n =
    passing (is_owed_or_left (machine_of (image_of s)) n (counted_after s order owed)) (harts_in (image_of s).all.schedule)

abbrev pub names_in : Names → List ℕ
names_in x = take x.many x.numbers
