-- The laws at every small machine: a law over all machines is too large a type for a clause.
use Rattle.event_orders.specs.Laws as laws
use Rattle.event_orders.specs.Small.{Small, IsSmall, machine}
use Rattle.event_orders.specs.Example.{two}

abbrev pub CommuteTheorem : Type 0
CommuteTheorem = (p : Small) → IsSmall p → laws.CommuteLaw (machine p)

abbrev pub PassTheorem : Type 0
PassTheorem = (p : Small) → IsSmall p → laws.PassLaw (machine p)

abbrev pub OneSlotTheorem : Type 0
OneSlotTheorem = (p : Small) → IsSmall p → laws.OneSlotLaw (machine p)

abbrev pub EndsTheorem : Type 0
EndsTheorem = (p : Small) → IsSmall p → laws.EndsLaw (machine p)

abbrev pub SlotsTheorem : Type 0
SlotsTheorem = (p : Small) → IsSmall p → laws.SlotsLaw (machine p)

abbrev pub SortedTheorem : Type 0
SortedTheorem = (p : Small) → IsSmall p → laws.SortedLaw (machine p)

abbrev pub AnyOrderTheorem : Type 0
AnyOrderTheorem = (p : Small) → IsSmall p → laws.AnyOrderLaw (machine p)

abbrev pub DrawnTheorem : Type 0
DrawnTheorem = (p : Small) → IsSmall p → laws.DrawnLaw (machine p)

abbrev pub ExampleTheorem : Type 0
ExampleTheorem = IsSmall two
