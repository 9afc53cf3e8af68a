use Rattle.kernel_call.specs.LogModel.{log_model}
use Rattle.kernel_call.proofs.Logs.{log_of-pushed}
use Rattle.kernel_call.proofs.log.Log.push.Goals as goal

pub returns-clause-pushed : goal.returns-clause-pushed
returns-clause-pushed g c all is =
    log_of-pushed (log_model c.args.self.now) c.keep.new.first.items all c.args.item is
    (c.keep.ensures.first all)
