use Rattle.world_view.specs.Harts.{harts}
use Rattle.world_view.proofs.runs.PartyLaws.{others_step, others_leave, others_enter, prefetch_leaves, flush_leaves, settled}
use Rattle.world_view.proofs.harts.Isolation.{running}
use Rattle.world_view.proofs.harts.Always.{others_event}
use Rattle.world_view.proofs.laws.others_events.Goals as goal

pub returns : goal.returns
returns c = record {
  step = others_step;
  leave = others_leave;
  enter = others_enter;
  prefetch = prefetch_leaves;
  flush = flush_leaves;
  settled = settled;
  event = λ i h order r below is. others_event i r h is (harts i order) (running i r order below);
}
