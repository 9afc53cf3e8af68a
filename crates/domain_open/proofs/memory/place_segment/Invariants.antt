use Rattle.std.proofs.Common.{◌≡◌, ◌+◌, ◌-◌}
use Rattle.phys_mem.specs.Holds.{Holds}
use Rattle.phys_mem.specs.Mem.{Mem}
use Rattle.hardware_check.specs.Models.{hardware_model}
use Rattle.image_check.specs.Models.{own_model}
use Rattle.world_view.specs.Opening as spec
use Rattle.domain_open.proofs.Loading.{Placing}
use Rattle.domain_open.proofs.memory.place_segment.Given as goal

abbrev pub invariant-loop-i : goal.invariant-loop-i
invariant-loop-i l = record {
  placed : (m : Mem) → Holds l.fn.memory m
      → Placing l.memory
      (spec.pages_placed (hardware_model l.at.hardware.now) (own_model l.at.own.now)
      (l.segment.page + l.i) (l.segment.pages - l.i) l.rest) (spec.pages_placed
      (hardware_model l.at.hardware.now) (own_model l.at.own.now) l.segment.page l.segment.pages
      l.segment.bytes.items m);
  frames : l.memory.frames ≡ l.fn.memory.frames;
}
