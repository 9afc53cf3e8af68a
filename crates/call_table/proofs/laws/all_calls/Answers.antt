use Rattle.call_table.proofs.MailCalls.{on_memory_law, on_boxes_law, storage_kept, pairs_stay, turned_down_law, unmade, within_own, storage_empties, storage_walks, allowed_work}
use Rattle.call_table.proofs.laws.all_calls.Goals as goal

pub returns : goal.returns
returns c = record {
  on_memory = on_memory_law;
  on_boxes = on_boxes_law;
  kept = storage_kept;
  pairs = pairs_stay;
  refused = turned_down_law;
  left_out = unmade;
  confined = within_own;
  empties = storage_empties;
  walks = storage_walks;
  work = allowed_work;
}
