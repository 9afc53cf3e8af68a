use Rattle.world_view.specs.Harts.{harts}
use Rattle.world_view.proofs.time.ClockLaws.{clocks_fit}
use Rattle.world_view.proofs.harts.Isolation.{hart_pads, hart_largest, running}
use Rattle.world_view.proofs.harts.Clocks.{hart_starts}
use Rattle.world_view.proofs.harts.Always.{time}
use Rattle.world_view.proofs.laws.pads.Goals as goal

pub returns : goal.returns
returns c = record {
  used = hart_pads;
  largest = hart_largest;
  start = hart_starts;
  in_time = λ i h order r below is. time i r h is (harts i order) (running i r order below);
  fit = λ i h order r below is. clocks_fit i r h is (harts i order) ((running i r order below).hart h is);
}
