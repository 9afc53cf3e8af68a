use Rattle.world_view.specs.Laws.{comes_to}
use Rattle.std.proofs.Common.{sym, subst}
use Rattle.image_check.specs.Image.{own_of}
use Rattle.world_view.specs.Machine.{World, part_of, alone_enter, alone_out}
use Rattle.world_view.specs.Relations.{Within, Apiece}
use Rattle.world_view.specs.Harts.{public_on, image_on, slots_of, harts}
use Rattle.world_view.proofs.runs.SwitchLaws.{switch_parts, boot_parts, switch_past, switch_out, switch_in, switch_both}
use Rattle.world_view.proofs.harts.OnHart.{separated_on}
use Rattle.world_view.proofs.harts.Isolation.{running}
use Rattle.world_view.proofs.harts.Always.{next_out, time}
use Rattle.world_view.proofs.laws.switches.Goals as goal

pub returns-clause-work : goal.returns-clause-work
returns-clause-work c = switch_parts

pub returns-clause-boot : goal.returns-clause-boot
returns-clause-boot c = boot_parts

pub returns-clause-out : goal.returns-clause-out
returns-clause-out c i h order r below is d a id outside out other near =
    let s = harts i order in
    subst (λ (w : World). Apiece i.all.hardware (own_of i d) (part_of h d w) (alone_out i.all.hardware (own_of i d) a))
    (sym (next_out i h s outside))
    (switch_out (image_on i h) (separated_on i r h is) h (slots_of h s) d id s.world a
    (time i r h is s (running i r order below) outside) out other near)

pub returns-clause-into : goal.returns-clause-into
returns-clause-into c i h order r below is d a id outside out e near =
    let s = harts i order in
    subst (λ (w : World). Within i.all.hardware (own_of i d) (part_of h d w)
    (alone_enter (public_on i.all h) (own_of i d) (slots_of h s) (comes_to i h d s) a)) (sym (next_out i h s outside))
    (switch_in (image_on i h) (separated_on i r h is) h (slots_of h s) d id s.world a
    (time i r h is s (running i r order below) outside) out e near)

pub returns-clause-both : goal.returns-clause-both
returns-clause-both c i h order r below is d a id outside out e near =
    let s = harts i order in
    subst (λ (w : World). Within i.all.hardware (own_of i d) (part_of h d w)
    (alone_enter (public_on i.all h) (own_of i d) (slots_of h s) (comes_to i h d s) (alone_out i.all.hardware (own_of i d) a)))
    (sym (next_out i h s outside))
    (switch_both (image_on i h) (separated_on i r h is) h (slots_of h s) d id s.world a
    (time i r h is s (running i r order below) outside) out e near)

pub returns-clause-past : goal.returns-clause-past
returns-clause-past c i h order r below is d a id outside out other near =
    let s = harts i order in
    subst (λ (w : World). Apiece i.all.hardware (own_of i d) (part_of h d w) a) (sym (next_out i h s outside))
    (switch_past (image_on i h) (separated_on i r h is) h (slots_of h s) d id s.world a
    (time i r h is s (running i r order below) outside) out other near)
