use Rattle.std.proofs.Common.{◌<◌, ◌≤◌, ℕ, ap, sym, subst, ◌∙◌}
use Rattle.world_view.specs.Event.{idle_until}
use Rattle.domain_step.proofs.Moved.{none_before, other_from}
use Rattle.domain_step.proofs.slot.plain_until.Goals as goal

pub returns-clause-plain : goal.returns-clause-plain
returns-clause-plain c now below =
    let d = c.args.domain.now in
    let until = c.idle_until.ensures.value ∙ ap (idle_until c.args.end) c.next_moment.ensures.next in
    record {
      running = c.in-Running.is;
      ready = sym c.is_ready.ensures.ready ∙ c.if-not-is_ready.false;
      none = none_before d.interrupts now c.args.end (subst (λ (n : ℕ). now < n) until below);
    }

pub returns-clause-other : goal.returns-clause-other
returns-clause-other c now late =
    let until = c.idle_until.ensures.value ∙ ap (idle_until c.args.end) c.next_moment.ensures.next in
    other_from c.args.domain.now now c.args.end (subst (λ (n : ℕ). n ≤ now) until late)
