-- The first colours are looked up.
use Rattle.std.proofs.Common.{◌≡◌, ◌<◌, ℕ, false, length}
use Rattle.std.specs.Prelude.{slice_index_or}
use Rattle.frame_colours.specs.Colours.{has}
use Rattle.frame_colours.proofs.share.named.Given as goal

abbrev pub invariant-loop-colour : goal.invariant-loop-colour
invariant-loop-colour l = record {
  whole : length l.named ≡ 64;
  so_far : (colour : ℕ) → colour < l.colour-counter → slice_index_or l.named colour false ≡ has l.own colour;
}
