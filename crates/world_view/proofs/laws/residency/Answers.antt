use Rattle.world_view.specs.Harts.{harts}
use Rattle.world_view.proofs.harts.Isolation.{running}
use Rattle.world_view.proofs.harts.Always.{resident}
use Rattle.world_view.proofs.laws.residency.Goals as goal

pub returns : goal.returns
returns c = record { resident = λ i h order r below is. resident i r h is (harts i order) (running i r order below) }
