use Rattle.domain_check.proofs.CapTexts.{cap_text_law}
use Rattle.domain_check.proofs.laws.cap_text.Goals as goal

pub returns : goal.returns
returns c = record { cap_text = cap_text_law }
