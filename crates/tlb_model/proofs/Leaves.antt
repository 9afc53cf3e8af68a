-- The kept leaf words after a fill.
use Rattle.std.proofs.Common.{◌≡◌, ◌≢◌, ℕ, List, get_or, set, Option, Some, option_map, is_some, ap, sym, ◌∙◌, get_or-set_other}
use Rattle.std.specs.Prelude.{slice_index}
use Rattle.set_cache.specs.declared.Touch.{Touch}
use Rattle.set_cache.specs.Contents.{Contents, IsSound}
use Rattle.set_cache.specs.Lines.{MovesLines, place_in}
use Rattle.set_cache.proofs.Places.{mapped, place_in-injective}
use Rattle.set_cache.proofs.Ways.{kept_before}
use Rattle.tlb_model.specs.Buffer.{leaf_of}

-- what is kept for another page after a fill was kept for it before
pub leaf_before : {P : Type 0} (takes : P → ℕ → Type 0) (stands : P → ℕ → ℕ → List ℕ → Type 0)
    (answer : Touch) (page : ℕ) (old new : Contents P) (leaves : List ℕ) (place leaf : ℕ)
    → MovesLines answer page (place_in old) (place_in new) → IsSound takes stands new
    → place_in new page ≡ Some place → (other word : ℕ) → other ≢ page
    → leaf_of (record { pages = new; leaves = set leaves place leaf }) other ≡ Some word
    → leaf_of (record { pages = old; leaves = leaves }) other ≡ Some word
leaf_before takes stands answer page old new leaves place leaf moves sound at other word n e =
    let read : ℕ → ℕ = λ p. slice_index leaves p in
    let there = mapped (λ (p : ℕ). slice_index (set leaves place leaf) p) (place_in new other) word e in
    let apart : there.0 ≢ place = λ same. n (place_in-injective takes stands new other page place sound (there.1 ∙ ap Some same) at) in
    let word_there : read there.0 ≡ word = sym (get_or-set_other leaves place there.0 leaf 0 apart) ∙ there.2 in
    let before : place_in old other ≡ Some there.0 =
    sym (kept_before answer page (place_in old) (place_in new) moves other n (ap is_some there.1))
    ∙ there.1 in
    ap (option_map read) before ∙ ap Some word_there
