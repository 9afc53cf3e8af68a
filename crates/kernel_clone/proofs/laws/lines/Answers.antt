use Rattle.kernel_clone.proofs.LineLaws.{text_lines_are, shared_frame, shared_once}
use Rattle.kernel_clone.proofs.laws.lines.Goals as goal

pub returns-clause-text : goal.returns-clause-text
returns-clause-text c = text_lines_are

pub returns-clause-shared_frame : goal.returns-clause-shared_frame
returns-clause-shared_frame c = shared_frame

pub returns-clause-shared_once : goal.returns-clause-shared_once
returns-clause-shared_once c = shared_once
