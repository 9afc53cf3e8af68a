-- What the kernel has of a domain: its frames and what they are used as for good, the calls that it may make, its
-- capabilities at first, and where its kernel clone lies.
use Rattle.std.specs.Prelude.{ℕ, ◌*◌, nat_eq, Bool, false, not, List, [], ◌∷◌, ◌++◌, map, filter, Option, Some, None}
use Rattle.std.specs.List.{list_any, range_with_len}
use Rattle.cap_table.specs.declared.Cap.{Cap}
use Rattle.cap_table.specs.declared.Cap.TheVariants as cap
use Rattle.cap_table.specs.Slots.{Slots}
use Rattle.kernel_clone.specs.Footprints.{Layout}
use Rattle.call_table.specs.Claims.{Claim, Estate, entry_places}
use Rattle.call_table.specs.declared.DomainStatus.TheVariants.{Exited}
use Rattle.call_table.specs.Domain as domain
use Rattle.call_table.specs.Domain.{Dom}
use Rattle.hardware_check.specs.Hardware.{Hardware, colours_of}
use Rattle.domain_check.specs.declared.capabilities.InitialCap.{InitialCap}
use Rattle.domain_check.specs.declared.capabilities.InitialCap.TheVariants as initial
use Rattle.image_check.specs.Own.{Segment, Own, cap_at}
use Rattle.image_check.specs.Pages.{has_page_in, has_region, share_of}
use Rattle.world_view.specs.Frames.{pool_frame, clone_frames, root_of, table_frame, page_frame}
use Rattle.world_view.specs.Opening.{rights_in}

-- ---- capabilities at first

-- none where there is no page
abbrev pub rights_or_none : Option ℕ → ℕ
rights_or_none None = 0
rights_or_none (Some r) = r

-- a page's is mapped at its page, with its segment's rights
unfoldable pub first_cap : Hardware → Own → InitialCap → Option Cap
first_cap p o initial.None = None
first_cap p o (initial.Page n) = Some (cap.Frame (page_frame p o n) (rights_or_none (rights_in o.segments n)) (Some (n * 4096)))
first_cap p o (initial.Irq line) = Some (cap.Irq line)

unfoldable pub first_slots : Hardware → Own → Slots
first_slots p o = map (λ i. first_cap p o (cap_at o i)) (range_with_len 0 64)

-- thread 0 is ready at the entry
unfoldable pub opening_dom : Hardware → Own → Dom
opening_dom p o = domain.dom_at_entry o.entry (first_slots p o)

-- ---- what its frames are used as for good

abbrev pub names_page : ℕ → InitialCap → Bool
names_page n initial.None = false
names_page n (initial.Page m) = nat_eq m n
names_page n (initial.Irq line) = false

-- a page that no capability names at first
abbrev pub stays : Own → ℕ → Bool
stays o n = not (list_any (names_page n) o.caps)

-- the pages of a segment, by their numbers
abbrev pub pages_of : Segment → List ℕ
pages_of s = range_with_len s.page s.pages

-- the pages of segments, each once: of a segment those that no later one has
unfoldable pub page_numbers : List Segment → List ℕ
page_numbers [] = []
page_numbers (s ∷ ss) = filter (λ n. not (has_page_in ss n)) (pages_of s) ++ page_numbers ss

-- the pages that stay
unfoldable pub kept_pages : Own → List ℕ
kept_pages o = filter (stays o) (page_numbers o.segments)

-- the regions that have a table at first
unfoldable pub first_regions : Own → List ℕ
first_regions o = filter (has_region o.segments) (range_with_len 0 1024)

abbrev pub table_claim : Hardware → Own → ℕ → Claim
table_claim p o r = Claim.Directory (table_frame p o r) (Some r)

-- a page that stays is mapped at its place in the table of its region
abbrev pub page_claim : Hardware → Own → ℕ → Claim
page_claim p o n = Claim.Leaf false (page_frame p o n) (entry_places (Some (n * 4096)))

-- the kernel clone's frames, the root, the first tables, and the pages that stay
unfoldable pub fixed_claims : Hardware → Own → List Claim
fixed_claims p o =
    map Claim.Fixed (clone_frames p o)
    ++ (Claim.Fixed (root_of p o)
    ∷ (map (table_claim p o) (first_regions o) ++ map (page_claim p o) (kept_pages o)))

unfoldable pub estate : Hardware → Own → Estate
estate p o = record {
  share = share_of p o;
  root = root_of p o;
  fixed = fixed_claims p o;
  calls = o.makes;
  number = o.number;
}

-- ---- its kernel clone

unfoldable pub layout : Hardware → Own → Layout
layout p o = record {
  text = pool_frame p o 0;
  more_text = pool_frame p o 1;
  stack = pool_frame p o 2;
  data_frame = pool_frame p o 3;
  line = p.line;
  shared = p.shared;
  colours = colours_of p;
}

-- ---- its frames for good

-- those of its kernel clone, its root, its first tables, and its pages that no capability names at first
abbrev pub frames_for_good : Hardware → Own → List ℕ
frames_for_good p o =
    let l = layout p o in
    l.text ∷ l.more_text ∷ l.stack ∷ l.data_frame ∷ root_of p o
    ∷ (map (table_frame p o) (first_regions o) ++ map (page_frame p o) (kept_pages o))

-- where no domain is
unfoldable pub no_dom : Dom
no_dom = record (domain.dom_at_entry 0 []) { status = Exited 0 }
