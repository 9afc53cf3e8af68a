-- What decides costs: their table, the bytes of a line, and the shape of each part.
use Rattle.std.specs.Prelude.{ℕ, Bool, Option}
use Rattle.cycle_cost.specs.Costs.{CostTable, ProductCosts}
use Rattle.set_cache.specs.Cache.{Shape}
use Rattle.l2_colour.specs.Colours as colours
use Rattle.branch_pred.specs.declared.Sizes.{Sizes}

pub record Hierarchy : Type 0 where
  pub costs : CostTable
  pub products : Option ProductCosts  -- of products and divisions, where the core makes them
  pub line_size : ℕ
  pub back : Bool  -- whether dirty lines are written back into the second level, else past it
  pub predictor : Sizes
  pub l1i : Shape
  pub l1d : Shape
  pub l2 : Shape
  pub tlb : Shape

-- the colour of a physical line
unfoldable pub colour_of_line : Hierarchy → ℕ → ℕ
colour_of_line h line = colours.colour_of_line h.line_size h.l2.count line
