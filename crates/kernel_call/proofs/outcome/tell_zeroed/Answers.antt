use Rattle.std.proofs.Common.{ap, Some}
use Rattle.kernel_clone.specs.Footprints.{WorkDone}
use Rattle.kernel_call.proofs.outcome.tell_zeroed.Goals as goal

pub returns : goal.returns
returns c = record {
  zeroed = λ op fresh. ap (λ (w : WorkDone). record w { zeroed = Some c.args.frame }) fresh;
}
