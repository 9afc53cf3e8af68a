-- A set whose places stay where its policy's list changes, and two whose places are other ones.
use Rattle.std.specs.Prelude.{◌≡◌, ◌≢◌, ℕ, Bool, true, false, List, [], ◌∷◌, Option, Some, None, slice_index_or, ◌==◌, refl}
use Rattle.std.proofs.Common.{ap, sym, true≢false}
use Rattle.tp_base.specs.Table.{empty, at, put}
use Rattle.set_cache.specs.declared.KeptLine.{KeptLine}
use Rattle.set_cache.specs.Cache.{CacheSet, Sets, set_at, is_line, is_dirty, places_at}

-- a way that keeps this line, and a cache of set 0 alone, which has two ways
abbrev pub way : ℕ → Bool → Option KeptLine
way number dirty = Some (record { number = number; dirty = dirty })

abbrev pub two_ways : Option KeptLine → Option KeptLine → List ℕ → Sets
two_ways first second order = put empty 0 (record { places = first ∷ second ∷ []; order = order })

-- lines 4 and 6 are loaded; then line 4 is once more
abbrev pub loaded : Sets
loaded = two_ways (way 4 false) (way 6 false) (1 ∷ 0 ∷ [])

abbrev pub again : Sets
again = two_ways (way 4 false) (way 6 false) (0 ∷ 1 ∷ [])

pub same_places : places_at 2 again 0 ≡ places_at 2 loaded 0
unfolding at put
same_places = refl

pub other_set : set_at 2 again 0 ≢ set_at 2 loaded 0
unfolding at put
other_set same = true≢false (ap (λ (set : CacheSet). slice_index_or set.order 0 0 == 0) same)

-- each in the other's way
pub other_ways : places_at 2 (two_ways (way 6 false) (way 4 false) (1 ∷ 0 ∷ [])) 0 ≢ places_at 2 loaded 0
unfolding at put
other_ways same =
    true≢false (sym (ap (λ (places : List (Option KeptLine)). is_line 4 (slice_index_or places 0 None)) same))

-- one of them has a mark
pub other_marks : places_at 2 (two_ways (way 4 true) (way 6 false) (1 ∷ 0 ∷ [])) 0 ≢ places_at 2 loaded 0
unfolding at put
other_marks same =
    true≢false (ap (λ (places : List (Option KeptLine)). is_dirty (slice_index_or places 0 None)) same)
