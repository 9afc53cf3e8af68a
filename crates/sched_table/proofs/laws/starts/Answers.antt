use Rattle.sched_table.proofs.Starts.{round_law, order_law, pad_law, soon_law}
use Rattle.sched_table.proofs.laws.starts.Goals as goal

pub returns : goal.returns
returns c = record { round = round_law; order = order_law; pad = pad_law; soon = soon_law }
