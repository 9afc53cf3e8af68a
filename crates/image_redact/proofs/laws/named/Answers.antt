use Rattle.image_redact.proofs.Names.{name_law, apart_law}
use Rattle.image_redact.proofs.laws.named.Goals as goal

pub returns : goal.returns
returns c = record { named = name_law; apart = apart_law }
