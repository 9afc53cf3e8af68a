use Rattle.std.proofs.Common.{◌∷◌, [], ℕ, sym, subst}
use Rattle.domain_open.specs.Placing.{AreZeroed}
use Rattle.domain_open.proofs.Taking.{one_zeroed}
use Rattle.domain_open.proofs.frames.TablePurpose.of.Goals as goal

pub returns-clause-zeroed : goal.returns-clause-zeroed
returns-clause-zeroed c =
    subst (λ (f : ℕ). AreZeroed (f ∷ []) c.args.memory.now c.table.new.memory) (sym c.table.ensures.frame)
    (one_zeroed c.args.memory.now c.table.new.memory c.args.frame c.requires.frame c.table.ensures.memory c.table.ensures.others)
