use Rattle.std.proofs.Common.{◌∙◌, ap}
use Rattle.phys_mem.specs.Mem.{Mem, word}
use Rattle.sv32_walk.specs.Walk.{walk}
use Rattle.image_check.specs.Image.{own_of}
use Rattle.world_view.specs.Frames.{pool_frame, root_of}
use Rattle.world_view.proofs.opening.Separate.{separated}
use Rattle.world_view.proofs.opening.OpenedWalks.{opened_page, opened_refused, opened_nowhere, pages_apart}
use Rattle.world_view.proofs.opening.Parts.{opened_zero, opened_elsewhere}
use Rattle.world_view.proofs.harts.Runs.{opening_memory_is}
use Rattle.world_view.proofs.laws.opening.Goals as goal

pub returns : goal.returns
returns c = record {
  page = λ i d va a q r is fits e given.
      ap (λ (m : Mem). (walk m i.all.hardware.frames (root_of i.all.hardware (own_of i d)) va a).result) (opening_memory_is i)
      ∙ opened_page i (separated i r) d is va a q fits e given;
  rights = λ i d va a q r is fits e refused.
      ap (λ (m : Mem). (walk m i.all.hardware.frames (root_of i.all.hardware (own_of i d)) va a).result) (opening_memory_is i)
      ∙ opened_refused i (separated i r) d is va a q fits e refused;
  no_page = λ i d va a r is fits e.
      ap (λ (m : Mem). (walk m i.all.hardware.frames (root_of i.all.hardware (own_of i d)) va a).result) (opening_memory_is i)
      ∙ opened_nowhere i (separated i r) d is va a fits e;
  frames = λ i d n m q s r is. pages_apart i d n m q s (separated i r) is;
  zero = λ i d n j r is within past.
      ap (λ (m : Mem). word m (pool_frame i.all.hardware (own_of i d) n) j) (opening_memory_is i)
      ∙ opened_zero i (separated i r) d n j is within past;
  elsewhere = λ i f j r out. ap (λ (m : Mem). word m f j) (opening_memory_is i) ∙ opened_elsewhere i (separated i r) f j out;
}
