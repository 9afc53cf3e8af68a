use Rattle.repl_policy.proofs.Marking.{unmarked_is, unmarked_none}
use Rattle.repl_policy.proofs.marks.least_unmarked.Goals as goal

pub returns-then-least-ways-clause-value : goal.returns-then-least-ways-clause-value
returns-then-least-ways-clause-value c = λ list marks.
    let least = c.trailing_ones-least in
    unmarked_is c.args.ways c.args.state least.result list c.requires.few least.ensures marks c.if-least-ways.true

pub returns-else-least-ways-clause-value : goal.returns-else-least-ways-clause-value
returns-else-least-ways-clause-value c = λ list marks.
    let least = c.trailing_ones-least in
    unmarked_none c.args.ways c.args.state least.result list c.requires.few least.ensures marks c.if-least-ways.false
