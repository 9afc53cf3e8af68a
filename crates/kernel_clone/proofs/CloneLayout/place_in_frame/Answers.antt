use Rattle.kernel_clone.specs.Models.{layout_model}
use Rattle.kernel_clone.proofs.Powers.{frame_mask}
use Rattle.kernel_clone.proofs.CloneLayout.place_in_frame.Goals as goal

pub returns-clause-value : goal.returns-clause-value
returns-clause-value c = rw c.lines_in_frame.ensures.value (frame_mask (layout_model c.args.self.now) c.args.place c.requires.layout)
