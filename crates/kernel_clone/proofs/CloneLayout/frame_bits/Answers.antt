use Rattle.kernel_clone.specs.Models.{layout_model}
use Rattle.kernel_clone.proofs.Powers.{frame_power}
use Rattle.kernel_clone.proofs.CloneLayout.frame_bits.Goals as goal

pub returns-clause-power : goal.returns-clause-power
returns-clause-power c = frame_power (layout_model c.args.self.now) c.line_bits.result c.line_bits.ensures.power c.line_bits.ensures.few
