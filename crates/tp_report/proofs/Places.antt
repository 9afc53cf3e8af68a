-- Numbers with their places in a list.
use Rattle.std.proofs.Common.{◌≡◌, ℕ, ◌<◌, List, length, get_or, Some, sym, ◌∙◌, zero-add}
use Rattle.std.specs.Prelude.{slice_get}
use Rattle.std.specs.List.{enumerate_from}
use Rattle.std.proofs.lemmas.List.{get_or_default}
use Rattle.std.proofs.lemmas.List.FromFn.{get_or-enumerate_from}
use Rattle.std.proofs.lemmas.Option.{slice_get_within, get_or_from_slice_get}

pub place_at : (xs : List ℕ) (i : ℕ) → i < length xs
    → get_or (enumerate_from 0 xs) i (i, get_or xs i 0) ≡ (i, get_or xs i 0)
place_at xs i h = get_or-enumerate_from 0 xs i (i, get_or xs i 0) h ∙ rw (zero-add, get_or_default xs i (get_or xs i 0) 0 h)

-- the item that stands at i, with its place
pub place_of : {A : Type 0} (xs : List A) (i : ℕ) (x : A) → slice_get xs i ≡ Some x
    → (i, x) ≡ get_or (enumerate_from 0 xs) i (i, x)
place_of {A} xs i x found =
    let read : get_or xs i x ≡ x = get_or_from_slice_get xs i x x found in
    sym (get_or-enumerate_from 0 xs i (i, x) (slice_get_within xs i x found) ∙ rw (zero-add, read))
