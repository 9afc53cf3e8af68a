use Rattle.std.proofs.Common.{◌≡◌}
use Rattle.image_check.specs.Image.{image_from, own_of}
use Rattle.image_check.specs.Models.{public_model, own_model}
use Rattle.tp_run.proofs.alone.run_domain.Given as goal

abbrev pub invariant-loop-slot : goal.invariant-loop-slot
invariant-loop-slot g l = record {
  slots : l.alone.slots ≡ l.slot;
  number : l.alone.number ≡ l.fn.d;
  public : public_model l.alone.public.now ≡ (image_from l.fn.image).all;
  own : own_model l.alone.own.now ≡ own_of (image_from l.fn.image) l.fn.d;
}
