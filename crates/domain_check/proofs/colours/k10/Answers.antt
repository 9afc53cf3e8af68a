use Rattle.std.proofs.Common.{rules}
use Rattle.domain_check.proofs.Shares.{small_domains}
use Rattle.domain_check.proofs.colours.k10.Goals as goal

pub k10_domains-requires-clause-small : goal.k10_domains-requires-clause-small
k10_domains-requires-clause-small c = let all = small_domains c.args.raw.now in search (rules, all)
