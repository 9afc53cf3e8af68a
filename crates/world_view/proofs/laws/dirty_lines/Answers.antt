use Rattle.world_view.specs.Machine.{caches_of}
use Rattle.world_view.specs.Harts.{image_on, slots_of, harts}
use Rattle.world_view.proofs.facts.KernelSets.{in_switch}
use Rattle.world_view.proofs.harts.OnHart.{separated_on}
use Rattle.world_view.proofs.harts.Isolation.{running}
use Rattle.world_view.proofs.harts.Always.{inside, sets_always}
use Rattle.world_view.proofs.laws.dirty_lines.Goals as goal

pub returns-clause-in_switches : goal.returns-clause-in_switches
returns-clause-in_switches c i h order r below is n outside =
    let s = harts i order in
    (in_switch (image_on i h) (separated_on i r h is) (slots_of h s) n (caches_of h s.world) (sets_always i r order below h is)).clean

pub returns-clause-clean : goal.returns-clause-clean
returns-clause-clean c i h order r below is = (sets_always i r order below h is).clean

pub returns-clause-own : goal.returns-clause-own
returns-clause-own c i h order r below is within = (inside i r h is (harts i order) (running i r order below) within).dirty
