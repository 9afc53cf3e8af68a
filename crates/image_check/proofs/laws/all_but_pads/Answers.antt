use Rattle.image_check.proofs.Kept.{but_pads_law, pads_law}
use Rattle.image_check.proofs.laws.all_but_pads.Goals as goal

pub returns : goal.returns
returns c = record { acceptance = but_pads_law; besides = pads_law }
