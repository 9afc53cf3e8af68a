use Rattle.image_redact.proofs.Seen.{seen_alone, seen_law, seen_together}
use Rattle.image_redact.proofs.laws.seen.Goals as goal

pub returns : goal.returns
returns c = record { alone = seen_alone; among = seen_law; together = seen_together }
