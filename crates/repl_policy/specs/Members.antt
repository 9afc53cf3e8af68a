-- The members of a policy that is one of four.
use Rattle.std.specs.Prelude.{ℕ, List}
use Rattle.set_cache.specs.Rule.{Rule}
use Rattle.repl_policy.specs.Orders.{lru_rule, fifo_rule}
use Rattle.repl_policy.specs.Halves.{plru_rule, depth_of, UpToSixteen, IsPowerUpToSixteen}
use Rattle.repl_policy.specs.Marks.{nmru_rule, Marks}
use Rattle.repl_policy.specs.Packed.{Packs}
use Rattle.repl_policy.specs.Bits.{Points}
use Rattle.repl_policy.specs.declared.AnyPolicy.{AnyPolicy}
use Rattle.repl_policy.specs.declared.AnyPolicy.TheVariants.{Lru, Fifo, TreePlru, Nmru}

abbrev pub any_takes : AnyPolicy → ℕ → Type 0
any_takes Lru ways = UpToSixteen ways
any_takes Fifo ways = UpToSixteen ways
any_takes TreePlru ways = IsPowerUpToSixteen ways
any_takes Nmru ways = UpToSixteen ways

abbrev pub any_rule : AnyPolicy → ℕ → Rule
any_rule Lru = lru_rule
any_rule Fifo = fifo_rule
any_rule TreePlru = plru_rule
any_rule Nmru = nmru_rule

abbrev pub any_stands_for : AnyPolicy → ℕ → ℕ → List ℕ → Type 0
any_stands_for Lru ways state list = Packs ways state list
any_stands_for Fifo ways state list = Packs ways state list
any_stands_for TreePlru ways state list = Points (depth_of ways) 0 state list
any_stands_for Nmru ways state list = Marks ways state list
