use Rattle.std.proofs.Common.{arith}
use Rattle.repl_policy.proofs.Packing.{highest}
use Rattle.repl_policy.proofs.order.oldest.Goals as goal

pub overflow_cast-result-2 : goal.overflow_cast-result-2
overflow_cast-result-2 c =
    let h = highest c.args.ways c.args.state c.requires.valid.0 c.requires.valid.1 c.requires.some c.requires.few in
    omega arith

pub returns-clause-below : goal.returns-clause-below
returns-clause-below c =
    let h = highest c.args.ways c.args.state c.requires.valid.0 c.requires.valid.1 c.requires.some c.requires.few in
    omega arith

pub returns-clause-value : goal.returns-clause-value
returns-clause-value c = λ list packs. (highest c.args.ways c.args.state list packs c.requires.some c.requires.few).0
