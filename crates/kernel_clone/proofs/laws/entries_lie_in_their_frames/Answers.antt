use Rattle.kernel_clone.proofs.LineLaws.{entry_frame}
use Rattle.kernel_clone.proofs.laws.entries_lie_in_their_frames.Goals as goal

pub returns : goal.returns
returns c = record { entry = entry_frame }
