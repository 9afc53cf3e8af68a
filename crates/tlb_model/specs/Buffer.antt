-- A translation buffer: which pages it keeps, and the kept leaf word of each.
use Rattle.std.specs.Prelude.{◌≡◌, ℕ, false, List, Option, option_map, is_some, slice_index, refl, if◌then◌else◌}
use Rattle.std.specs.Coded.{Coded, code_by, coded×, coded_ℕ, coded_list}
use Rattle.set_cache.specs.Cache.{Shape, Sets, touch_of, place_of}
use Rattle.set_cache.specs.Contents.{Contents, coded_contents}
use Rattle.set_cache.specs.Lines.{place_in}

-- the pages as a cache's lines, and a leaf word at each place
pub record Buffer (P : Type 0) : Type 0 where
  pub pages : Contents P
  pub leaves : List ℕ

abbrev pub coded_buffer : {P : Type 0} → Coded P → Coded (Buffer P)
coded_buffer {P} p =
    code_by (Contents P × List ℕ) (coded× (coded_contents p) (coded_list coded_ℕ)) (λ b. (b.pages, b.leaves))
    (λ t. record { pages = t.0; leaves = t.1 }) (λ _. refl)

-- the leaf word that is kept for a page
abbrev pub leaf_of : {P : Type 0} → Buffer P → ℕ → Option ℕ
leaf_of buffer page = option_map (λ place. slice_index buffer.leaves place) (place_in buffer.pages page)

-- a look-up: a touch where the page is here, else nothing
abbrev pub found_of : Shape → Sets → ℕ → Sets
found_of shape sets page =
    if is_some (place_of shape sets page) then (touch_of shape sets page false).next else sets

-- a fill: a touch that gives the page a place
abbrev pub filled_of : Shape → Sets → ℕ → Sets
filled_of shape sets page = (touch_of shape sets page false).next
