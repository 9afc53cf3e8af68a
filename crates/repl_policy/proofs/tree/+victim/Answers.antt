use Rattle.std.proofs.Common.{arith, ◌≡◌, ◌+◌, ◌/◌}
use Rattle.std.proofs.lemmas.Nat.Bits.{shr_and_one, bit_at-lt}
use Rattle.std.specs.Int.{bit_at}
use Rattle.repl_policy.proofs.Trees.{victim_upper}
use Rattle.repl_policy.proofs.tree.+victim.Goals as goal

pub returns-else-state-middle-eq0-clause-value : goal.returns-else-state-middle-eq0-clause-value
returns-else-state-middle-eq0-clause-value t c = λ depth list is points.
    let middle = c.args.low + c.args.size / 2 in
    let one : bit_at c.args.state middle ≡ 1 =
    omega (
      arith,
      shr_and_one c.args.state middle,
      bit_at-lt c.args.state middle,
      c.if-state-middle-eq0.false,
    ) in
    victim_upper depth c.args.low c.args.size c.args.state c.victim-else-state-middle-eq0.result list c.if-size-lt2.false one
    (λ e. c.victim-else-state-middle-eq0.ensures.value e list) is points
