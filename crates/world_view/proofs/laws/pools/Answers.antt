use Rattle.image_check.specs.Image.{own_of}
use Rattle.world_view.proofs.opening.Separate.{separated, frames_apart}
use Rattle.world_view.proofs.opening.Parts.{pool_parts, no_kernel_colour}
use Rattle.world_view.proofs.laws.pools.Goals as goal

pub returns : goal.returns
returns c = record {
  apart = λ i d e f r is ie other own. frames_apart i.all.hardware (own_of i d) (own_of i e) f ((separated i r).apart d e is ie other) own;
  kernel = λ i d f r is own. no_kernel_colour i d f r is own;
  parts = λ i d r is. pool_parts i (separated i r) d is;
}
