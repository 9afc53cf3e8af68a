use Rattle.hart_orders.proofs.cold.cold_caches.Goals as goal

pub cold_l2-requires : goal.cold_l2-requires
cold_l2-requires c = record { hardware = c.requires.hardware }

pub cold_harts-requires : goal.cold_harts-requires
cold_harts-requires c = record { hardware = c.requires.hardware; l2 = c.in_ok-l2.ensures.cold }

pub returns : goal.returns
returns c = record { all = c.in_ok-harts.ensures.all; each = c.in_ok-harts.ensures.each }
