-- An instruction is the step of a domain whose next event it is.
use Rattle.std.proofs.Common.{◌+◌, ap, ◌∙◌}
use Rattle.cycle_cost.specs.Costs.{CostTable}
use Rattle.world_view.specs.Machine.{step}
use Rattle.domain_step.proofs.Moved.{moves_running, runs_on, hierarchy_stays, pinned_stays}
use Rattle.mem_system.specs.Contents.{system}
use Rattle.domain_step.proofs.slot.run.Goals as goal

pub returns-clause-becomes : goal.returns-clause-becomes
returns-clause-becomes g c end =
    let new = c.run_instruction-goes_on.new in
    moves_running g.P.Policy.rule g.P.Policy.stands_for end c.args.memory.now new.memory c.args.mail.now new.mail c.args.domain.now
    new.domain (system c.args.core.now c.args.l2.now) (system new.core new.l2)
    c.args.now (c.args.now + c.from.result + c.from-2.result) c.from.result new.spent
    c.requires.plain.running c.run_instruction-goes_on.ensures.leaves c.requires.plain.none
    c.requires.plain.ready c.run_instruction-goes_on.ensures.moments
    (c.from.ensures ∙ ap (λ (t : CostTable). t.base) c.costs.ensures.table)
    (ap (λ n. c.args.now + c.from.result + n) c.from-2.ensures)

pub returns-clause-hierarchy : goal.returns-clause-hierarchy
returns-clause-hierarchy g c =
    let new = c.run_instruction-goes_on.new in
    hierarchy_stays g.P.Policy.rule g.P.Policy.stands_for 0 c.args.memory.now new.memory c.args.mail.now new.mail c.args.domain.now
    new.domain (system c.args.core.now c.args.l2.now) (system new.core new.l2)
    (λ w. step w 0) c.args.now _ (returns-clause-becomes g c 0) c.requires.runs

pub returns-clause-pinned : goal.returns-clause-pinned
returns-clause-pinned g c =
    let new = c.run_instruction-goes_on.new in
    pinned_stays g.P.Policy.rule g.P.Policy.stands_for 0 c.args.memory.now new.memory c.args.mail.now new.mail c.args.domain.now
    new.domain (system c.args.core.now c.args.l2.now) (system new.core new.l2)
    (λ w. step w 0) c.args.now _ (returns-clause-becomes g c 0) c.requires.runs

pub returns-clause-runs : goal.returns-clause-runs
returns-clause-runs g c =
    let new = c.run_instruction-goes_on.new in
    runs_on g.P.Policy.rule g.P.Policy.stands_for 0 c.args.memory.now new.memory c.args.mail.now new.mail c.args.domain.now new.domain
    (system c.args.core.now c.args.l2.now) (system new.core new.l2)
    (λ w. step w 0) c.args.now _ (returns-clause-becomes g c 0) c.requires.runs
