use Rattle.hart_set.proofs.Offs.{loads, flushes}
use Rattle.hart_set.proofs.off.parts_off.Goals as goal

pub returns : goal.returns
returns c = record {
  loads = λ i. loads c.args.off i c.is_on-loads.result c.is_on-loads.ensures.on c.is_on-loads.ensures.off;
  flushes = λ i. flushes c.args.off i c.is_on-flushes.result c.is_on-flushes.ensures.on c.is_on-flushes.ensures.off;
}
