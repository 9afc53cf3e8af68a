-- The pages of a domain and its regions, and the frames that they need. A page's number is its address divided by 4,096;
-- region r is the 4 MiB of the pages from 1,024 * r on.
use Rattle.std.specs.Prelude.{ℕ, zero, suc, ◌+◌, ◌-◌, ◌*◌, ◌&&◌, ◌||◌, min, nat_le, nat_lt, Bool, false, if◌then◌else◌, List, [], ◌∷◌}
use Rattle.domain_check.specs.Segments.{Segment}

-- ---- what a domain has

-- the page is one of the segment's
abbrev pub has_page : Segment → ℕ → Bool
has_page s n = nat_le s.page n && nat_lt n (s.page + s.pages)

-- the page is one of some segment's
unfoldable pub has_page_in : List Segment → ℕ → Bool
has_page_in [] n = false
has_page_in (s ∷ ss) n = has_page s n || has_page_in ss n

-- some page of the segment lies in the region
abbrev pub meets : Segment → ℕ → Bool
meets s r = nat_lt s.page (1024 * r + 1024) && nat_lt (1024 * r) (s.page + s.pages)

-- some page lies in the region
unfoldable pub has_region : List Segment → ℕ → Bool
has_region [] r = false
has_region (s ∷ ss) r = meets s r || has_region ss r

-- ---- how many there are

-- regions below r that have a page
unfoldable pub regions_below : List Segment → ℕ → ℕ
regions_below ss zero = 0
regions_below ss (suc r) = regions_below ss r + (if has_region ss r then 1 else 0)

-- pages below page n
unfoldable pub pages_below : List Segment → ℕ → ℕ
pages_below [] n = 0
pages_below (s ∷ ss) n = min s.pages (n - s.page) + pages_below ss n

abbrev pub regions_in : List Segment → ℕ
regions_in ss = regions_below ss 1024

unfoldable pub pages_in : List Segment → ℕ
pages_in [] = 0
pages_in (s ∷ ss) = s.pages + pages_in ss

-- two of the kernel clone's text, its stack, its data, and the root; then tables; then pages
abbrev pub frames_in : List Segment → ℕ
frames_in ss = 5 + regions_in ss + pages_in ss
