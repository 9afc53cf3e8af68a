-- The effect is the table's, of which the rest is proved.
use Rattle.std.proofs.Common.{◌≡◌, sym, subst, subst₂, ℕ, ◌%◌, List}
use Rattle.std.specs.Prelude.{IfSome}
use Rattle.rv_core.specs.declared.Effect.{Effect}
use Rattle.rv_core.specs.Effect.{NothingElse}
use Rattle.rv_core.proofs.Effects.{each_proper}
use Rattle.rv_core.proofs.execution.execute.Goals as goal

pub returns-clause-trap : goal.returns-clause-trap
returns-clause-trap c =
    subst₂ (λ (new : List ℕ) (e : Effect). IfSome e.trap (λ _. NothingElse c.args.regs.now new c.args.pc e))
    (sym c.run.ensures.regs) (sym c.run.ensures.effect)
    (each_proper c.args.regs.now c.args.pc c.args.instr c.args.loaded).trap

pub returns-clause-aligned : goal.returns-clause-aligned
returns-clause-aligned c = λ at.
    subst (λ (e : Effect). e.next % 4 ≡ 0) (sym c.run.ensures.effect)
    ((each_proper c.args.regs.now c.args.pc c.args.instr c.args.loaded).aligned at)
