use Rattle.std.proofs.Common.{◌≡◌, ◌<◌, ◌%◌, ◌-◌, arith}
use Rattle.std.proofs.lemmas.Nat.{mod_below}
use Rattle.set_cache.proofs.Powers.{positive, low_bits}
use Rattle.branch_pred.proofs.modulo.Goals as goal

pub overflow_sub-result : goal.overflow_sub-result
overflow_sub-result c = let some = positive c.args.power c.requires.power in omega arith

pub returns-clause-value : goal.returns-clause-value
returns-clause-value c = low_bits c.args.number c.args.power c.requires.power

pub returns-clause-below : goal.returns-clause-below
returns-clause-below c =
    let some = positive c.args.power c.requires.power in
    let same = low_bits c.args.number c.args.power c.requires.power in
    let small = mod_below c.args.number c.args.power some in
    omega arith
