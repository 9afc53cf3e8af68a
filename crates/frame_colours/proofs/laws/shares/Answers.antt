use Rattle.frame_colours.proofs.Disjoint.{apart_by_lists, disjoint_by_test}
use Rattle.frame_colours.proofs.laws.shares.Goals as goal

pub returns-clause-apart : goal.returns-clause-apart
returns-clause-apart c = apart_by_lists

pub returns-clause-tested : goal.returns-clause-tested
returns-clause-tested c = disjoint_by_test
