use Rattle.std.proofs.Common.{◌≡◌, map, take}
use Rattle.image_check.specs.Own.{Own}
use Rattle.image_check.specs.Image.{image_from}
use Rattle.tp_answer.proofs.bounds.calls_of.Given as goal

abbrev pub invariant-loop-d : goal.invariant-loop-d
invariant-loop-d l = l.calls.items ≡ map (λ (o : Own). o.calls) (take l.d (image_from l.image).owns)
