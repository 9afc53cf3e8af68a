use Rattle.world_view.specs.Machine.{dom_of}
use Rattle.world_view.specs.Harts.{harts}
use Rattle.world_view.proofs.opening.Separate.{separated}
use Rattle.world_view.proofs.opening.OpeningFacts.{kernel_of}
use Rattle.world_view.proofs.facts.ForGood.{kept_for_good}
use Rattle.world_view.proofs.harts.Isolation.{running}
use Rattle.world_view.proofs.laws.kernels.Goals as goal

pub returns-clause-kernel : goal.returns-clause-kernel
returns-clause-kernel c i d r is = kernel_of i (separated i r) d is

pub returns-clause-for_good : goal.returns-clause-for_good
returns-clause-for_good c i d order r is below =
    let w = (harts i order).world in
    kept_for_good i (separated i r) d is (dom_of w d) w.storage ((running i r order below).facts d is).facts
