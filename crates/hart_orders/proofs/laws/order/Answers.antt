use Rattle.hart_orders.proofs.Chosen.{has_left, somebody, least_law}
use Rattle.hart_orders.proofs.RunThrough.{each_chosen}
use Rattle.hart_orders.proofs.laws.order.Goals as goal

pub returns : goal.returns
returns c = record { each = each_chosen; has_left = has_left; somebody = somebody; least = least_law }
