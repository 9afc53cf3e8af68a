-- What an image says of lent colours: those that a domain sets aside, each for a child that it may make while it runs,
-- and the entries that are set aside for that child.
use Rattle.std.specs.Prelude.{ℕ, ◌+◌, ℤ, pos, negsuc, List, [], ◌∷◌, ◌++◌, map, slice_index_or, Option}
use Rattle.image_record.specs.Numbers.{natural_of}

pub record LendingDomain : Type 0 where
  pub colours : List ℤ  -- its own
  pub lend : List ℤ  -- those that it lends

pub record LendingEntry : Type 0 where
  pub domain : ℤ
  pub lend : Option ℤ  -- the colour of the child whose entry it is; none: the domain's own

pub record Lending : Type 0 where
  pub version : ℕ  -- of the format, 1 or 2
  pub domains : List LendingDomain
  pub schedule : List LendingEntry

abbrev pub no_domain : LendingDomain
no_domain = record { colours = []; lend = [] }

-- domain d; past the last one it has and lends nothing
abbrev pub domain_at : List LendingDomain → ℕ → LendingDomain
domain_at domains d = slice_index_or domains d no_domain

-- the colours that a domain lends, by its number as the image says it
abbrev pub lend_of : List LendingDomain → ℤ → List ℤ
lend_of domains (pos d) = (domain_at domains d).lend
lend_of domains (negsuc n) = []

-- in natural numbers
abbrev pub own_colours : List LendingDomain → ℕ → List ℕ
own_colours domains d = map natural_of (domain_at domains d).colours

-- ---- the lent colours, each with the number of the domain that lends it: domains upwards, in the order of their lists

abbrev pub lent_by : ℕ → List ℤ → List (ℕ × ℤ)
lent_by d lend = map (λ x. (d, x)) lend

-- where the first of these is domain d
abbrev pub lent_from : ℕ → List LendingDomain → List (ℕ × ℤ)
lent_from d [] = []
lent_from d (o ∷ os) = lent_by d o.lend ++ lent_from (d + 1) os

-- as the image says them
abbrev pub said : List LendingDomain → List (ℕ × ℤ)
said domains = lent_from 0 domains

abbrev pub in_naturals : ℕ × ℤ → ℕ × ℕ
in_naturals l = (l.0, natural_of l.1)

abbrev pub lent : List LendingDomain → List (ℕ × ℕ)
lent domains = map in_naturals (said domains)
