use Rattle.std.proofs.Common.{◌≡◌, ◌+◌, ◌<◌, None, subst, sym}
use Rattle.image_record.specs.Record.{Raw}
use Rattle.sched_table.specs.Schedule.{start}
use Rattle.world_view.specs.Machine.{clock_of, switch}
use Rattle.tp_machine.specs.Models.{Ran, image_of, world_of}
use Rattle.tp_machine.specs.OneHart.{HasRun}
use Rattle.tp_machine.proofs.OneHart.{first_there, few, one_more, on_time}
use Rattle.tp_machine.proofs.machine.Machine.run_slot.Goals as goal

pub run_slot-requires : goal.run_slot-requires
run_slot-requires c =
    let m = c.self.inside in
    record {
      hart = first_there None m.harts m.slots c.self.invariant;
      slots = few None m.harts m.slots c.self.invariant
          (subst (λ (r : Ran). r.slots < 65536) (sym c.self.view_is) c.requires.slots);
    }

pub invariant_of-self : goal.invariant_of-self
invariant_of-self c =
    let m = c.self.inside in
    let has = c.self.invariant in
    subst (λ (x : Raw). HasRun None (x, c.run_slot.new.self.1) (m.slots + 1)) (sym c.run_slot.ensures.image)
    (one_more None m.harts m.slots has c.run_slot.new.self.1 c.run_slot.ensures.off c.run_slot.ensures.ends)

pub returns-clause-begins : goal.returns-clause-begins
returns-clause-begins c =
    let m = c.self.inside in
    subst
    (λ (r : Ran). clock_of 0 (switch (image_of r) r.slots (world_of r)) ≡ start (image_of r).all.schedule r.slots)
    c.self.view_is (on_time m.harts m.slots c.self.invariant)
