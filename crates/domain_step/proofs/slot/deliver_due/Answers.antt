use Rattle.std.proofs.Common.{sym, subst}
use Rattle.kernel_clone.specs.declared.CloneLayout.{CloneLayout}
use Rattle.kernel_clone.specs.Models.{layout_model}
use Rattle.kernel_clone.specs.Footprints.{IsLayout}
use Rattle.domain_step.proofs.slot.deliver_due.Goals as goal

pub deliver-work-requires : goal.deliver-work-requires
deliver-work-requires g c = record { left = c.requires.left; replies = c.requires.replies }

pub charge-requires-clause-layout : goal.charge-requires-clause-layout
charge-requires-clause-layout g c =
    subst (λ (l : CloneLayout). IsLayout (layout_model l)) (sym c.deliver-work.ensures.keeps.layout)
    c.requires.clone

pub charge-requires-clause-work : goal.charge-requires-clause-work
charge-requires-clause-work g c = c.deliver-work.ensures.is_work

pub returns : goal.returns
returns g c = record {
  delivers = c.deliver-work.ensures.delivers;
  keeps = c.deliver-work.ensures.keeps;
  makes = rw c.deliver-work.ensures.work at c.charge.ensures.makes;
  buffer = c.charge.ensures.buffer;
  some = c.charge.ensures.some;
  few = c.charge.ensures.few;
}
