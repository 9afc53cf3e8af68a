use Rattle.std.proofs.Common.{◌≡◌, ◌≤◌, length, map, take}
use Rattle.frame_colours.specs.Colours.{colours_in}
use Rattle.image_check.specs.Own.{Own}
use Rattle.image_check.specs.Image.{image_from}
use Rattle.domain_open.proofs.frames.colours_of.Given as goal

abbrev pub invariant-loop-d : goal.invariant-loop-d
invariant-loop-d l = record {
  named : colours_in l.lists.items ≡ map (λ (o : Own). o.colours) (take l.d (image_from l.image).owns);
  long : length l.lists.items ≡ l.d;
  room : length (image_from l.image).owns ≤ l.lists.cap;
}
