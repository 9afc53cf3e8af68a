-- In what order the harts of an image have their events, until each has had so many slots.
use Rattle.std.specs.Prelude.{ℕ, zero, suc, ◌+◌, ◌%◌, nat_lt, if◌then◌else◌, List, [], ◌∷◌, ◌++◌, length, fold, slice_get, Option, Some, None}
use Rattle.seed_words.specs.Words.{seeded, word}
use Rattle.image_check.specs.Image.{Image}
use Rattle.sched_table.specs.Schedule.{harts_in}
use Rattle.world_view.specs.Machine.{World, clock_of}
use Rattle.world_view.specs.Harts.{Harts, slots_of, start_on, next, harts}
use Rattle.hart_orders.specs.declared.choice.Choice.{Choice}
use Rattle.hart_orders.specs.declared.choice.Choice.TheVariants.{LeastClock, Drawn}

-- ---- whose event is next

-- the harts below this number that have had fewer slots, ascending
unfoldable pub left : ℕ → Harts → ℕ → List ℕ
left n s zero = []
left n s (suc h) = if nat_lt (slots_of h s) n then left n s h ++ h ∷ [] else left n s h

-- the second, where its clock is less
abbrev pub earlier : Harts → Option ℕ → ℕ → Option ℕ
earlier s None h = Some h
earlier s (Some g) h = if nat_lt (clock_of h s.world) (clock_of g s.world) then Some h else Some g

-- of some harts the one with the least clock; of such the first
unfoldable pub least : Harts → List ℕ → Option ℕ
least s hs = fold (earlier s) None hs

-- of some harts the one that this word names
unfoldable pub drawn : ℕ → List ℕ → Option ℕ
drawn w hs = slice_get hs (w % length hs)

-- a seed draws a word for each event: there were j events before
unfoldable pub chosen : Choice → ℕ → Harts → List ℕ → Option ℕ
chosen LeastClock j s hs = least s hs
chosen (Drawn seed) j s hs = drawn (word (seeded seed) j) hs

-- of those that have had fewer than n slots: none, where each has had them
abbrev pub next_hart : Image → Choice → ℕ → ℕ → Harts → Option ℕ
next_hart i c n j s = chosen c j s (left n s (harts_in i.all.schedule))

-- ---- all events

-- whose the next events are, this many at most
unfoldable pub events_from : Image → Choice → ℕ → ℕ → ℕ → Harts → List ℕ
events_from i c n zero j s = []
events_from i c n (suc f) j s =
    elim (next_hart i c n j s) [ None ↦ [] | Some h ↦ h ∷ events_from i c n f (suc j) (next i h s) ]

-- the cycles before slot n of each hart below this number
unfoldable pub cycles_before : Image → ℕ → ℕ → ℕ
cycles_before i n zero = 0
cycles_before i n (suc h) = cycles_before i n h + start_on i h n

-- until each hart has had n slots: an event takes a cycle of its hart's or more
unfoldable pub order_of : Image → Choice → ℕ → List ℕ
order_of i c n = events_from i c n (cycles_before i n (harts_in i.all.schedule)) 0 (harts i [])

-- the image's machine then
unfoldable pub ran : Image → Choice → ℕ → World
ran i c n = (harts i (order_of i c n)).world
