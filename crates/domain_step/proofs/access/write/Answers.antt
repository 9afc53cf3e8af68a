use Rattle.std.proofs.Common.{◌≢◌, arith}
use Rattle.domain_step.proofs.Accesses.{stored_four}
use Rattle.domain_step.proofs.access.write.Goals as goal

pub returns-in-1-clause-holds : goal.returns-in-1-clause-holds
returns-in-1-clause-holds c m h = rw c.in-1.is (c.write_byte.ensures.holds m h)

pub returns-in-2-clause-holds : goal.returns-in-2-clause-holds
returns-in-2-clause-holds c m h = rw c.in-2.is (c.write_half.ensures.holds m h)

pub returns-in_default-clause-holds : goal.returns-in_default-clause-holds
returns-in_default-clause-holds c m h =
    let one : c.args.size ≢ 1 = omega arith in
    let two : c.args.size ≢ 2 = omega arith in
    rw (stored_four c.args.size c.requires.size one two) (c.write_word.ensures.holds m h)
