-- What the code that opens a domain relies on, and what it leaves.
use Rattle.std.specs.Prelude.{◌≡◌, ℕ, ◌+◌, ◌^◌, ◌<◌, ◌≤◌, ◌++◌, ◌∷◌, [], not, Bool, true, false, List, length, map, filter, take, slice_get, slice_index_or, Some}
use Rattle.std.specs.List.{list_any}
use Rattle.hardware_check.specs.Hardware.{Hardware}
use Rattle.phys_mem.specs.Contents.{Contents, word_of}
use Rattle.phys_mem.specs.Mem.{Mem, zeroed_frame}
use Rattle.phys_mem.specs.Holds.{Holds}
use Rattle.frame_colours.specs.Colours.{Share, has}
use Rattle.image_check.specs.Image.{Image}
use Rattle.world_view.specs.Opening.{all_placed}
use Rattle.image_check.specs.Own.{Segment, Own, own_at, no_segment}
use Rattle.image_check.specs.Laws.{IsSegment, IsOwn}
use Rattle.image_check.specs.Pages.{has_page, pages_below, pages_in, frames_in, share_of}
use Rattle.world_view.specs.Frames.{own_frame, pool, clone_frames, first_tables, page_frames}
use Rattle.cap_table.specs.Slots.{same_number, page_of}
use Rattle.kernel_clone.specs.Models.{layout_model}
use Rattle.kernel_call.specs.declared.domain.Domain.{Domain}
use Rattle.kernel_call.specs.Models.{Stands, CountsUpTo}
use Rattle.kernel_call.specs.Facts.{Has}
use Rattle.world_view.specs.Kernel.{first_slots, opening_dom, estate, layout}
use Rattle.world_view.specs.Machine.{domains_of}

-- the domain's pool has all frames that it wants, and no frame's number is too large
pub record HasPool (p : Hardware) (o : Own) : Type 0 where
  pub few : p.frames ≤ 2 ^ 15
  pub enough : frames_in o.segments ≤ length (pool p o)
  pub sound : IsOwn o

-- each is a segment of an accepted image
abbrev pub AreSegments : List Segment → Type 0
AreSegments ss = (k : ℕ) → IsSegment (slice_index_or ss k no_segment)

-- no page is of two segments
pub record AreApart (ss : List Segment) : Type 0 where
  pub once : (j k n : ℕ) → j < k → k < length ss
      → has_page (slice_index_or ss j no_segment) n ≡ true
      → has_page (slice_index_or ss k no_segment) n ≡ false

-- so many pages, from one on, are the domain's
pub record HasPages (o : Own) (page pages : ℕ) : Type 0 where
  pub each : (n : ℕ) → page ≤ n → n < page + pages → pages_below o.segments n < pages_in o.segments

-- the frames of the pages that no capability names at first, ascending
abbrev pub is_named : Hardware → Own → ℕ → Bool
is_named p o f = list_any (λ c. same_number (Some f) (page_of c)) (first_slots p o)

unfoldable pub kept_frames : Hardware → Own → List ℕ
kept_frames p o = filter (λ f. not (is_named p o f)) (page_frames p o)

-- a domain of the code at its entry, with the frames of its share each as what it is used as at first
pub record IsOpened (p : Hardware) (o : Own) (d : Domain) : Type 0 where
  pub stands : Stands d (opening_dom p o)
  pub has : Has (estate p o) d
  pub tables : d.tables.items ≡ first_tables p o
  pub kept : d.kept.items ≡ clone_frames p o ++ kept_frames p o
  pub layout : layout_model d.layout ≡ layout p o
  pub moments : d.interrupts.moments ≡ o.moments
  pub few : CountsUpTo 0 d

-- ---- what opening a domain does to memory, whatever was in it

-- memory of which these frames are zeroed, one after the other
unfoldable pub frames_zeroed : List ℕ → Mem → Mem
frames_zeroed [] m = m
frames_zeroed (f ∷ fs) m = frames_zeroed fs (zeroed_frame m f)

-- these frames are zeroed, and no other is changed
pub record AreZeroed (frames : List ℕ) (old new : Contents) : Type 0 where
  pub holds : (m : Mem) → Holds old m → Holds new (frames_zeroed frames m)
  pub others : (f i : ℕ) → has frames f ≡ false → word_of new f i ≡ word_of old f i

-- the frames that a domain makes use of at first: its kernel clone's, its root, tables and pages
abbrev pub used_frames : Hardware → Own → List ℕ
used_frames p o = take (frames_in o.segments) (pool p o)

-- the same in all frames but those of the domain's pool
abbrev pub SameElsewhere : Hardware → Own → Contents → Contents → Type 0
SameElsewhere p o new old = (f i : ℕ) → f < p.frames → i < 1024 → own_frame p o f ≡ false
    → word_of new f i ≡ word_of old f i

-- ---- all domains

-- the first n of these domains are at their entries
pub record AreOpened (p : Hardware) (owns : List Own) (n : ℕ) (domains : List Domain) : Type 0 where
  pub all : length domains ≡ n
  pub each : (d : ℕ) (x : Domain) → slice_get domains d ≡ Some x → IsOpened p (own_at owns d) x

-- all domains of an image are
abbrev pub AllOpened : Image → List Domain → Type 0
AllOpened i domains = AreOpened i.all.hardware i.owns (length i.owns) domains

-- the share of each domain
abbrev pub all_shares : Image → List Share
all_shares i = map (share_of i.all.hardware) i.owns

-- the memory that the machine of an image opens with
abbrev pub placed_all : Image → Mem
placed_all i = all_placed i.all.hardware (domains_of i)
