use Rattle.image_reading.proofs.ReadingLaws.{read_runs}
use Rattle.image_reading.proofs.laws.reading.Goals as goal

pub returns : goal.returns
returns c = record { accepted = read_runs }
