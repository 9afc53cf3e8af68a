use Rattle.repl_policy.proofs.Marking.{kept_alone, kept_with, again_alone, again_with}
use Rattle.repl_policy.proofs.marks.with_mark.Goals as goal

pub returns-then-marks-ways-clause-marked : goal.returns-then-marks-ways-clause-marked
returns-then-marks-ways-clause-marked c = λ list.
    kept_alone c.args.ways c.args.way c.requires.few c.requires.below c.args.state list c.if-marks-ways.true

pub returns-then-marks-ways-clause-again : goal.returns-then-marks-ways-clause-again
returns-then-marks-ways-clause-again c = λ list.
    again_alone c.args.ways c.args.way c.requires.few c.requires.below list

pub returns-else-marks-ways-clause-marked : goal.returns-else-marks-ways-clause-marked
returns-else-marks-ways-clause-marked c = λ list.
    kept_with c.args.ways c.args.way c.requires.few c.requires.below c.args.state list c.if-marks-ways.false

pub returns-else-marks-ways-clause-again : goal.returns-else-marks-ways-clause-again
returns-else-marks-ways-clause-again c = λ list.
    again_with c.args.ways c.args.way c.requires.few c.requires.below c.args.state list c.if-marks-ways.false
