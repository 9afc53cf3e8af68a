use Rattle.std.proofs.Common.{◌∷◌, [], ℕ, sym, subst}
use Rattle.domain_open.specs.Placing.{AreZeroed}
use Rattle.domain_open.proofs.Taking.{one_zeroed}
use Rattle.domain_open.proofs.frames.HeldPurpose.of.Goals as goal

pub returns-clause-zeroed : goal.returns-clause-zeroed
returns-clause-zeroed c =
    subst (λ (f : ℕ). AreZeroed (f ∷ []) c.args.memory.now c.hold.new.memory) (sym c.hold.ensures.frame)
    (one_zeroed c.args.memory.now c.hold.new.memory c.args.frame c.requires.frame c.hold.ensures.memory c.hold.ensures.others)
