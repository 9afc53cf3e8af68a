use Rattle.std.proofs.Common.{◌≡◌, ◌+◌, ap, sym, subst}
use Rattle.image_check.specs.Own.{Own}
use Rattle.call_table.specs.Domain.{Dom}
use Rattle.world_view.specs.Machine.{Local}
use Rattle.world_view.specs.Harts.{harts, owner_on, local_on, slot_end_on}
use Rattle.world_view.proofs.opening.Separate.{separated}
use Rattle.world_view.proofs.interrupts.InterruptLaws.{Delivers, AreFew, step_delivers, step_prompt, none_first, few_stay}
use Rattle.world_view.proofs.harts.Isolation.{running}
use Rattle.world_view.proofs.harts.Always.{slot_step, others_same, each_domain}
use Rattle.world_view.proofs.laws.interrupts.Goals as goal

pub returns-clause-due : goal.returns-clause-due
returns-clause-due c = λ i h order r below is within.
    let s = harts i order in
    subst (Delivers i.all.hardware (owner_on i h s) (local_on i h s)) (sym (slot_step i h s within))
    (step_delivers i.all.hardware (owner_on i h s) (slot_end_on i h s) (local_on i h s))

pub returns-clause-prompt : goal.returns-clause-prompt
returns-clause-prompt c = λ i h order r below is within runs due.
    let s = harts i order in
    subst (λ (x : Local). x.dom.delivered ≡ (local_on i h s).dom.delivered + 1) (sym (slot_step i h s within))
    (step_prompt i.all.hardware (owner_on i h s) (slot_end_on i h s) (local_on i h s) runs due)

pub returns-clause-few : goal.returns-clause-few
returns-clause-few c = λ i d order r is below.
    let p = i.all.hardware in
    each_domain i r (λ (o : Own) (x : Dom). AreFew p o o x) (none_first p) (few_stay p) order below d is

pub returns-clause-ascend : goal.returns-clause-ascend
returns-clause-ascend c =
    λ i d m n x y r is less first second. ((separated i r).sound d).moments.ascend m n x y less first second

pub returns-clause-own_slots : goal.returns-clause-own_slots
returns-clause-own_slots c = λ i h order r below is d id other.
    ap (λ (x : Dom). x.delivered) (others_same i r h is (harts i order) (running i r order below) d id other)
