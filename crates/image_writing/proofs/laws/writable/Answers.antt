use Rattle.image_writing.proofs.Writable.{writable_law}
use Rattle.image_writing.proofs.laws.writable.Goals as goal

pub returns : goal.returns
returns c = record { writable = writable_law }
