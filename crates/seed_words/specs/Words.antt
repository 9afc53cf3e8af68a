-- The words that a seed draws, one after the other.
use Rattle.std.specs.Prelude.{ℕ}
use Rattle.rand_pcg.specs.Lcg.{Lcg, started, advance, increment_of}
use Rattle.rand_pcg.specs.Pcg.{multiplier_64, output_xsh_rr}

-- before its first word
abbrev pub seeded : ℕ → Lcg
seeded seed = started 64 multiplier_64 seed (increment_of 64 1)

-- after n words
abbrev pub after : ℕ → Lcg → Lcg
after n g = advance 64 multiplier_64 n g

-- the word that comes after n others
unfoldable pub word : Lcg → ℕ → ℕ
word g n = output_xsh_rr (after n g).state
