use Rattle.std.proofs.Common.{◌≡◌}
use Rattle.phys_mem.specs.Holds.{Holds}
use Rattle.phys_mem.specs.Mem.{Mem}
use Rattle.hardware_check.specs.Models.{hardware_model}
use Rattle.image_check.specs.Models.{own_model}
use Rattle.world_view.specs.Opening as spec
use Rattle.domain_open.proofs.memory.place_tables.Given as goal

abbrev pub invariant-loop-region : goal.invariant-loop-region
invariant-loop-region l = record {
  placed : (m : Mem) → Holds l.fn.memory m
      → Holds l.memory
      (spec.tables_placed (hardware_model l.at.hardware.now) (own_model l.at.own.now) l.region m);
  frames : l.memory.frames ≡ l.fn.memory.frames;
}
