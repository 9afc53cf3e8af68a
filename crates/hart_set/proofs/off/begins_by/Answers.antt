use Rattle.std.proofs.Common.{◌≡◌, ◌∙◌, true, false}
use Rattle.hart_set.proofs.Offs.{pads}
use Rattle.hart_set.proofs.off.begins_by.Goals as goal

pub returns-then-is_on-clause-unpadded : goal.returns-then-is_on-clause-unpadded
returns-then-is_on-clause-unpadded c i not =
    let no : true ≡ false = pads c.args.off i (c.is_on.ensures.on c.if-is_on.true) ∙ not in absurd (cc no)
