-- How contracts see the code's shape.
use Rattle.cycle_cost.specs.Models.{costs_of}
use Rattle.pad_bound.specs.Bound.{MachineShape}
use Rattle.pad_bound.specs.declared.shape.Shape.{Shape}

abbrev pub shape_model : Shape → MachineShape
shape_model s = record {
  costs = costs_of s.costs;
  line = s.line;
  shared = s.shared;
  sets = s.sets;
  ways = s.ways;
  written = s.written;
  again = s.again;
  product = s.product;
}
