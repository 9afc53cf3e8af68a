use Rattle.std.proofs.Common.{sym, subst, ℕ, List, ◌≡◌}
use Rattle.repl_policy.specs.declared.AnyPolicy.{AnyPolicy}
use Rattle.repl_policy.specs.Members.{any_rule, any_stands_for}
use Rattle.repl_policy.proofs.AnyPolicyPolicy.victim.Goals as goal

pub returns-in-Nmru-clause-chosen : goal.returns-in-Nmru-clause-chosen
returns-in-Nmru-clause-chosen c =
    subst (λ (p : AnyPolicy). (list : List ℕ) → any_stands_for p c.args.ways c.args.state list
    → c.victim-in-Nmru.result ≡ (any_rule p c.args.ways).victim list)
    (sym c.in-Nmru.is) c.victim-in-Nmru.ensures.chosen
