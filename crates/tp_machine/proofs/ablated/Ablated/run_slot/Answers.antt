use Rattle.std.proofs.Common.{◌≡◌, ◌+◌, ◌<◌, Some, subst, sym}
use Rattle.image_record.specs.Record.{Raw}
use Rattle.tp_machine.specs.Ablated.{Ablation}
use Rattle.tp_machine.specs.OneHart.{HasRun}
use Rattle.tp_machine.proofs.OneHart.{first_there, few, one_more}
use Rattle.tp_machine.proofs.ablated.Ablated.run_slot.Goals as goal

pub run_slot-requires : goal.run_slot-requires
run_slot-requires c =
    let m = c.self.inside in
    record {
      hart = first_there (Some m.off) m.harts m.slots c.self.invariant;
      slots = few (Some m.off) m.harts m.slots c.self.invariant
          (subst (λ (r : Ablation). r.slots < 65536) (sym c.self.view_is) c.requires.slots);
    }

pub invariant_of-self : goal.invariant_of-self
invariant_of-self c =
    let m = c.self.inside in
    let has = c.self.invariant in
    subst (λ (x : Raw). HasRun (Some m.off) (x, c.run_slot.new.self.1) (m.slots + 1)) (sym c.run_slot.ensures.image)
    (one_more (Some m.off) m.harts m.slots has c.run_slot.new.self.1 c.run_slot.ensures.off c.run_slot.ensures.ends)
