-- The memory in which each domain's page tables and pages stand in their frames.
use Rattle.std.specs.Prelude.{ℕ, zero, suc, ◌+◌, ◌*◌, ◌/◌, ◌^◌, if◌then◌else◌, List, [], ◌∷◌, length, map, take, drop, slice_index, Option, Some, None}
use Rattle.std.specs.List.{range_with_len}
use Rattle.tp_base.specs.Table.{empty, at, put}
use Rattle.phys_mem.specs.Mem.{Frame, Mem}
use Rattle.sv32_walk.specs.PageTableEntry.{table_word, leaf_word}
use Rattle.hardware_check.specs.Hardware.{Hardware}
use Rattle.image_check.specs.Own.{Segment, Own}
use Rattle.image_check.specs.Pages.{has_page, has_region}
use Rattle.world_view.specs.Frames.{root_of, table_frame, page_frame}

-- all words of a frame, in order
unfoldable pub frame_words : Frame → List ℕ
frame_words x = map (at 0 x) (range_with_len 0 1024)

-- a word at a place where nothing was put yet; a zero need not be put
unfoldable pub put_word : Frame → ℕ → ℕ → Frame
put_word x i zero = x
put_word x i (suc w) = put x i (suc w)

-- the first n values of f
unfoldable pub tabled : (ℕ → ℕ) → ℕ → Frame
tabled f zero = empty
tabled f (suc n) = put_word (tabled f n) n (f n)

-- ---- page tables

-- the root's entry for a region points to the region's table
unfoldable pub root_entry : Hardware → Own → ℕ → ℕ
root_entry p o r = if has_region o.segments r then table_word (table_frame p o r) else 0

-- the rights of a page, if there is that page
unfoldable pub rights_in : List Segment → ℕ → Option ℕ
rights_in [] n = None
rights_in (s ∷ ss) n = if has_page s n then Some s.rights else rights_in ss n

unfoldable pub leaf_with : Hardware → Own → ℕ → Option ℕ → ℕ
leaf_with p o n None = 0
leaf_with p o n (Some r) = leaf_word (page_frame p o n) r

-- a table's entry for a page names the page's frame
unfoldable pub leaf_entry : Hardware → Own → ℕ → ℕ
leaf_entry p o n = leaf_with p o n (rights_in o.segments n)

unfoldable pub root_placed : Hardware → Own → Mem → Mem
root_placed p o m = put m (root_of p o) (tabled (root_entry p o) 1024)

unfoldable pub table_placed : Hardware → Own → ℕ → Mem → Mem
table_placed p o r m = put m (table_frame p o r) (tabled (λ i. leaf_entry p o (1024 * r + i)) 1024)

-- the tables of the regions below r that have a page
unfoldable pub tables_placed : Hardware → Own → ℕ → Mem → Mem
tables_placed p o zero m = m
tables_placed p o (suc r) m =
    if has_region o.segments r then table_placed p o r (tables_placed p o r m) else tables_placed p o r m

-- ---- pages

-- word i of bytes, least byte first; zeros follow the last
abbrev pub word_of : List ℕ → ℕ → ℕ
word_of bytes i =
    slice_index bytes (4 * i) + 2 ^ 8 * slice_index bytes (4 * i + 1) + 2 ^ 16 * slice_index bytes (4 * i + 2)
    + 2 ^ 24 * slice_index bytes (4 * i + 3)

unfoldable pub page_words : List ℕ → Frame
page_words bytes = tabled (word_of bytes) ((length bytes + 3) / 4)

-- so many pages, from page n on; the bytes fill them in turn, and zeros follow
unfoldable pub pages_placed : Hardware → Own → ℕ → ℕ → List ℕ → Mem → Mem
pages_placed p o n zero bytes m = m
pages_placed p o n (suc many) bytes m =
    pages_placed p o (suc n) many (drop 4096 bytes) (put m (page_frame p o n) (page_words (take 4096 bytes)))

-- the pages of segments, one after the other
unfoldable pub segments_placed : Hardware → Own → List Segment → Mem → Mem
segments_placed p o [] m = m
segments_placed p o (s ∷ ss) m = segments_placed p o ss (pages_placed p o s.page s.pages s.bytes m)

-- ---- domains

unfoldable pub placed : Hardware → Own → Mem → Mem
placed p o m = segments_placed p o o.segments (tables_placed p o 1024 (root_placed p o m))

unfoldable pub all_placed : Hardware → List Own → Mem
all_placed p [] = empty
all_placed p (o ∷ os) = placed p o (all_placed p os)
