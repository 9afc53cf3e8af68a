use Rattle.std.proofs.Common.{◌≡◌, replicate, rules}
use Rattle.domain_step.proofs.SwitchCounts.{is_used_none, counted_none}
use Rattle.domain_step.proofs.used.unused.Goals as goal

pub returns-clause-unused : goal.returns-clause-unused
returns-clause-unused c =
    let zeros : c.in_ok-used.used.items ≡ replicate c.args.entries (record { largest = 0; count = 0 }) = search rules in
    is_used_none c.in_ok-used.used.items c.args.entries zeros

pub returns-clause-few : goal.returns-clause-few
returns-clause-few c =
    let zeros : c.in_ok-used.used.items ≡ replicate c.args.entries (record { largest = 0; count = 0 }) = search rules in
    counted_none c.in_ok-used.used.items c.args.entries zeros
