-- Worked rows: which domains are kept, and which name stands beside the kept ones.
use Rattle.std.specs.Prelude.{◌≡◌, refl, codes, ℤ, pos, true, false, List, [], ◌∷◌}
use Rattle.std.specs.Fmt.{digits}
use Rattle.image_record.specs.Record.{RawMailbox}
use Rattle.image_redact.specs.Redacted.{leads, free_number, name_beside}

-- ---- boxes from 0 to 1, and from 1 to 2

abbrev pub box : ℤ → ℤ → RawMailbox
box from to = record { from = from; to = to }

abbrev pub chain : List RawMailbox
chain = box (pos 0) (pos 1) ∷ box (pos 1) (pos 2) ∷ []

pub of_the_last : leads chain 3 2 3 ≡ true ∷ true ∷ true ∷ []
unfolding leads
of_the_last = refl

pub of_the_middle : leads chain 3 1 3 ≡ true ∷ true ∷ false ∷ []
unfolding leads
of_the_middle = refl

pub of_the_first : leads chain 3 0 3 ≡ true ∷ false ∷ false ∷ []
unfolding leads
of_the_first = refl

-- and one from 2 to 0: each leads to each
abbrev pub cycle : List RawMailbox
cycle = box (pos 2) (pos 0) ∷ chain

pub of_the_cycle : leads cycle 4 0 4 ≡ true ∷ true ∷ true ∷ false ∷ []
unfolding leads
of_the_cycle = refl

-- ---- names

pub by_its_number : name_beside (codes "red" ∷ []) 3 ≡ codes "e3"
unfolding name_beside free_number digits
by_its_number = refl

pub where_that_is_taken : name_beside (codes "e3" ∷ []) 3 ≡ codes "e35"
unfolding name_beside free_number digits
where_that_is_taken = refl

pub where_both_are_taken : name_beside (codes "e35" ∷ codes "e3" ∷ []) 3 ≡ codes "e67"
unfolding name_beside free_number digits
where_both_are_taken = refl

pub anothers_number : name_beside (codes "e35" ∷ []) 3 ≡ codes "e3"
unfolding name_beside free_number digits
anothers_number = refl
