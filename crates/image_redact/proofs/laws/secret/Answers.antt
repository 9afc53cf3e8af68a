use Rattle.image_redact.proofs.Alike.{emptied_law, secret_law}
use Rattle.image_redact.proofs.laws.secret.Goals as goal

pub returns : goal.returns
returns c = record { emptied = emptied_law; secret = secret_law }
