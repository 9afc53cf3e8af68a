use Rattle.image_check.specs.Image.{own_of}
use Rattle.world_view.specs.Harts.{harts, domain_on, owner_on, local_on, slot_end_on}
use Rattle.world_view.proofs.opening.Separate.{separated}
use Rattle.world_view.proofs.opening.OpeningFacts.{kernel_of}
use Rattle.world_view.proofs.steps.StepLaws.{step_may, step_caches}
use Rattle.world_view.proofs.harts.Isolation.{running}
use Rattle.world_view.proofs.harts.Always.{named, its_facts}
use Rattle.world_view.proofs.laws.touches.Goals as goal

pub returns-clause-all : goal.returns-clause-all
returns-clause-all c = step_caches

pub returns-clause-own : goal.returns-clause-own
returns-clause-own c i d end s r is facts = step_may i.all.hardware (own_of i d) (kernel_of i (separated i r) d is) end s facts

pub returns-clause-in_slots : goal.returns-clause-in_slots
returns-clause-in_slots c i h order r below is within =
    let s = harts i order in
    let was = running i r order below in
    step_may i.all.hardware (owner_on i h s) (kernel_of i (separated i r) (domain_on i h s) (named i r h is s was))
    (slot_end_on i h s) (local_on i h s) (its_facts i r h is s was)
