use Rattle.std.proofs.Common.{◌≡◌, map, drop}
use Rattle.phys_mem.specs.Holds.{Holds}
use Rattle.phys_mem.specs.Mem.{Mem}
use Rattle.hardware_check.specs.Models.{hardware_model}
use Rattle.image_check.specs.Models.{segment_model, own_model}
use Rattle.world_view.specs.Opening as spec
use Rattle.domain_open.proofs.Loading.{Placing}
use Rattle.domain_open.proofs.memory.place_segments.Given as goal

abbrev pub invariant-loop-segment : goal.invariant-loop-segment
invariant-loop-segment l = record {
  placed : (m : Mem) → Holds l.fn.memory m
      → Placing l.memory
      (spec.segments_placed (hardware_model l.at.hardware.now) (own_model l.at.own.now)
      (map segment_model (drop l.segment-index l.at.own.now.segments.items)))
      (spec.segments_placed (hardware_model l.at.hardware.now) (own_model l.at.own.now)
      (map segment_model l.at.own.now.segments.items) m);
  frames : l.memory.frames ≡ l.fn.memory.frames;
}
