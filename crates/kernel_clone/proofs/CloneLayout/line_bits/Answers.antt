use Rattle.kernel_clone.specs.Models.{layout_model}
use Rattle.kernel_clone.proofs.Powers.{line_power, some_bits, few_bits}
use Rattle.kernel_clone.proofs.CloneLayout.line_bits.Goals as goal

pub returns-clause-power : goal.returns-clause-power
returns-clause-power c = line_power (layout_model c.args.self.now) c.requires.layout

pub returns-clause-some : goal.returns-clause-some
returns-clause-some c = some_bits (layout_model c.args.self.now) c.requires.layout

pub returns-clause-few : goal.returns-clause-few
returns-clause-few c = few_bits (layout_model c.args.self.now) c.requires.layout
