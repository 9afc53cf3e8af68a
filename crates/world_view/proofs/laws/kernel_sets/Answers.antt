use Rattle.std.proofs.Common.{◌∙◌, ap, sym}
use Rattle.world_view.specs.Machine.{caches_of}
use Rattle.world_view.specs.Harts.{image_on, slots_of, harts}
use Rattle.world_view.proofs.facts.KernelSets.{in_switch, after_switch}
use Rattle.world_view.proofs.harts.OnHart.{separated_on}
use Rattle.world_view.proofs.harts.Always.{next_out, empty, sets_always}
use Rattle.world_view.proofs.laws.kernel_sets.Goals as goal

pub returns-clause-empty : goal.returns-clause-empty
returns-clause-empty c = empty

pub returns-clause-after_switch : goal.returns-clause-after_switch
returns-clause-after_switch c i h order r below is outside =
    let s = harts i order in
    after_switch (image_on i h) (separated_on i r h is) h (slots_of h s) s.world
    ∙ ap (caches_of h) (sym (next_out i h s outside))

pub returns-clause-in_switches : goal.returns-clause-in_switches
returns-clause-in_switches c i h order r below is n outside =
    let s = harts i order in
    (in_switch (image_on i h) (separated_on i r h is) (slots_of h s) n (caches_of h s.world) (sets_always i r order below h is)).alone

pub returns-clause-alone : goal.returns-clause-alone
returns-clause-alone c i h order r below is = (sets_always i r order below h is).alone
