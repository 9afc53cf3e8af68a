use Rattle.world_view.specs.Harts.{harts}
use Rattle.world_view.proofs.harts.Isolation.{next_law, hart_counts}
use Rattle.world_view.proofs.harts.Clocks.{hart_between, hart_begun, hart_rises, hart_slots, hart_stays}
use Rattle.world_view.proofs.harts.OneHart.{one_hart}
use Rattle.world_view.proofs.harts.Counted.{events_law, same_events}
use Rattle.world_view.proofs.harts.Always.{slot_step}
use Rattle.world_view.proofs.harts.Whole.{whole_law}
use Rattle.world_view.proofs.laws.orders.Goals as goal

pub returns : goal.returns
returns c = record {
  next = next_law;
  step = λ i h order r below is. slot_step i h (harts i order);
  counted = hart_counts;
  between = hart_between;
  begun = hart_begun;
  rises = hart_rises;
  slots = hart_slots;
  stays = hart_stays;
  events = events_law;
  same_events = same_events;
  one = one_hart;
  whole = whole_law;
}
