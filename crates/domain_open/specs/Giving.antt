-- What the capability slots of a domain name while its pages are given out. A page has a place among the domain's pages,
-- ascending, and the frame at that place of a list.
use Rattle.std.specs.Prelude.{◌≡◌, ℕ, ◌*◌, ◌≤◌, nat_eq, nat_lt, not, if◌then◌else◌, List, length, map, filter, slice_index, Option, Some, None}
use Rattle.std.specs.List.{list_any, range_with_len}
use Rattle.std.specs.List.Sorted.{IsStrictlyIncreasing}
use Rattle.cap_table.specs.declared.Cap.{Cap}
use Rattle.cap_table.specs.declared.Cap.TheVariants as cap
use Rattle.cap_table.specs.Slots.{Slots, same_number, page_of}
use Rattle.domain_check.specs.declared.capabilities.InitialCap.{InitialCap}
use Rattle.domain_check.specs.declared.capabilities.InitialCap.TheVariants as initial
use Rattle.image_check.specs.Own.{Segment, Own, cap_at}
use Rattle.image_check.specs.Pages.{pages_below, pages_in}
use Rattle.world_view.specs.Opening.{rights_in}
use Rattle.world_view.specs.Kernel.{rights_or_none}

-- the page that is named, if it stands at this place
abbrev pub page_at : List Segment → ℕ → InitialCap → Option ℕ
page_at ss place initial.None = None
page_at ss place (initial.Page n) = if nat_eq (pages_below ss n) place then Some n else None
page_at ss place (initial.Irq line) = None

-- ---- what a slot names

abbrev pub line_cap : InitialCap → Option Cap
line_cap initial.None = None
line_cap (initial.Page n) = None
line_cap (initial.Irq line) = Some (cap.Irq line)

-- a page in a frame, mapped at its page with its segment's rights
abbrev pub page_cap : Own → ℕ → ℕ → Cap
page_cap o f n = cap.Frame f (rights_or_none (rights_in o.segments n)) (Some (n * 4096))

-- its line, or its page if that stands at one of the first so many places
abbrev pub cap_after : Own → List ℕ → ℕ → InitialCap → Option Cap
cap_after o frames places initial.None = None
cap_after o frames places (initial.Page n) =
    if nat_lt (pages_below o.segments n) places
    then Some (page_cap o (slice_index frames (pages_below o.segments n)) n) else None
cap_after o frames places (initial.Irq line) = Some (cap.Irq line)

-- ---- what the slots name

-- lines alone
unfoldable pub line_slots : Own → Slots
line_slots o = map (λ i. line_cap (cap_at o i)) (range_with_len 0 64)

-- and the pages of the first so many places
unfoldable pub slots_after : Own → List ℕ → ℕ → Slots
slots_after o frames places = map (λ i. cap_after o frames places (cap_at o i)) (range_with_len 0 64)

-- those of these frames whose page no slot names
unfoldable pub unnamed : Slots → List ℕ → List ℕ
unnamed slots frames = filter (λ f. not (list_any (λ c. same_number (Some f) (page_of c)) slots)) frames

-- the pages before this place have been given out, and this frame is for the page that stands there
pub record IsGiving (o : Own) (frames : List ℕ) (place frame : ℕ) (slots : Slots) : Type 0 where
  pub ascend : IsStrictlyIncreasing frames
  pub enough : pages_in o.segments ≤ length frames
  pub at : slice_index frames place ≡ frame
  pub given : slots ≡ slots_after o frames place
