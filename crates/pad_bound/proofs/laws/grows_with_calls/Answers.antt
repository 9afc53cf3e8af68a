use Rattle.pad_bound.proofs.Parts.{more_calls}
use Rattle.pad_bound.proofs.Written.{every_written, none_written}
use Rattle.pad_bound.proofs.laws.grows_with_calls.Goals as goal

pub returns-clause-bound : goal.returns-clause-bound
returns-clause-bound c = more_calls

pub returns-clause-every : goal.returns-clause-every
returns-clause-every c s = every_written s.line

pub returns-clause-none : goal.returns-clause-none
returns-clause-none c s = none_written s.line
