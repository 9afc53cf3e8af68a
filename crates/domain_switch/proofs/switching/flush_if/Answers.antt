use Rattle.domain_switch.proofs.switching.flush_if.Goals as goal

pub returns-else-all-clause-makes : goal.returns-else-all-clause-makes
returns-else-all-clause-makes g c = rw c.if-all.false (c.empty_tlb.ensures.makes c.args.l2.now)
