use Rattle.std.proofs.Common.{sym, subst, ℕ, List}
use Rattle.repl_policy.specs.declared.AnyPolicy.{AnyPolicy}
use Rattle.repl_policy.specs.Members.{any_rule, any_stands_for}
use Rattle.repl_policy.proofs.AnyPolicyPolicy.fill.Goals as goal

pub returns-in-Nmru-clause-filled : goal.returns-in-Nmru-clause-filled
returns-in-Nmru-clause-filled c =
    subst (λ (p : AnyPolicy). (list : List ℕ) → any_stands_for p c.args.ways c.args.state list
    → any_stands_for p c.args.ways c.fill-in-Nmru.result ((any_rule p c.args.ways).filled list c.args.way))
    (sym c.in-Nmru.is) c.fill-in-Nmru.ensures.filled

pub returns-in-Nmru-clause-again : goal.returns-in-Nmru-clause-again
returns-in-Nmru-clause-again c =
    subst (λ (p : AnyPolicy). (list : List ℕ) → any_stands_for p c.args.ways c.fill-in-Nmru.result list
    → any_stands_for p c.args.ways c.fill-in-Nmru.result ((any_rule p c.args.ways).touched list c.args.way))
    (sym c.in-Nmru.is) c.fill-in-Nmru.ensures.again
