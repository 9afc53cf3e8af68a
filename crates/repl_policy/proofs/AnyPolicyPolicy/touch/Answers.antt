use Rattle.std.proofs.Common.{sym, subst, ℕ, List}
use Rattle.repl_policy.specs.declared.AnyPolicy.{AnyPolicy}
use Rattle.repl_policy.specs.Members.{any_rule, any_stands_for}
use Rattle.repl_policy.proofs.AnyPolicyPolicy.touch.Goals as goal

pub returns-in-Nmru-clause-touched : goal.returns-in-Nmru-clause-touched
returns-in-Nmru-clause-touched c =
    subst (λ (p : AnyPolicy). (list : List ℕ) → any_stands_for p c.args.ways c.args.state list
    → any_stands_for p c.args.ways c.touch-in-Nmru.result ((any_rule p c.args.ways).touched list c.args.way))
    (sym c.in-Nmru.is) c.touch-in-Nmru.ensures.touched

pub returns-in-Nmru-clause-again : goal.returns-in-Nmru-clause-again
returns-in-Nmru-clause-again c =
    subst (λ (p : AnyPolicy). (list : List ℕ) → any_stands_for p c.args.ways c.touch-in-Nmru.result list
    → any_stands_for p c.args.ways c.touch-in-Nmru.result ((any_rule p c.args.ways).touched list c.args.way))
    (sym c.in-Nmru.is) c.touch-in-Nmru.ensures.again
