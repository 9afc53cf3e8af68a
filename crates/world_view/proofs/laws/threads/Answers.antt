use Rattle.std.proofs.Common.{sym, subst}
use Rattle.image_check.specs.Own.{Own}
use Rattle.call_table.specs.Domain.{Dom}
use Rattle.call_table.specs.ThreadLaws.{HasTurn}
use Rattle.world_view.specs.Harts.{harts, domain_on, owner_on, local_on, slot_end_on}
use Rattle.world_view.proofs.interrupts.ThreadLaws.{Wakes, first_turn, step_turn, step_wakes}
use Rattle.world_view.proofs.harts.Isolation.{running}
use Rattle.world_view.proofs.harts.Always.{named, slot_step, each_domain}
use Rattle.world_view.proofs.laws.threads.Goals as goal

pub returns-clause-turn : goal.returns-clause-turn
returns-clause-turn c = λ i d order r is below.
    let p = i.all.hardware in
    each_domain i r (λ (o : Own) (x : Dom). HasTurn x.threads) (first_turn p) (step_turn p) order below d is

pub returns-clause-wakes : goal.returns-clause-wakes
returns-clause-wakes c = λ i h order r below is t line within fits waits.
    let p = i.all.hardware in
    let s = harts i order in
    let was = running i r order below in
    let turn = each_domain i r (λ (o : Own) (x : Dom). HasTurn x.threads) (first_turn p) (step_turn p) order below
    (domain_on i h s) (named i r h is s was) in
    subst (Wakes p (owner_on i h s) t line (local_on i h s)) (sym (slot_step i h s within))
    (step_wakes p (owner_on i h s) (slot_end_on i h s) t line (local_on i h s)) turn fits waits
