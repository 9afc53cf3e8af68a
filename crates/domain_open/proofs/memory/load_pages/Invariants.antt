use Rattle.std.proofs.Common.{◌≡◌, ◌≤◌, length, drop}
use Rattle.phys_mem.specs.Holds.{Holds}
use Rattle.image_check.specs.Own.{owns_of}
use Rattle.image_check.specs.Public.{public_of}
use Rattle.world_view.specs.Opening as spec
use Rattle.domain_open.proofs.memory.load_pages.Given as goal

abbrev pub invariant-loop-left : goal.invariant-loop-left
invariant-loop-left l = record {
  within : l.left ≤ length (owns_of l.image);
  frames : l.memory.frames ≡ (public_of l.image).hardware.frames;
  holds : Holds l.memory (spec.all_placed (public_of l.image).hardware (drop l.left (owns_of l.image)));
}

abbrev pub decreases-loop-left : goal.decreases-loop-left
decreases-loop-left l = l.left
