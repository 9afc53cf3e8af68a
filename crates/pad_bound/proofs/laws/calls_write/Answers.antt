use Rattle.pad_bound.proofs.Parts.{few_written, alloc_writes, revoke_writes, alloc_is_call, revoke_is_call}
use Rattle.pad_bound.proofs.laws.calls_write.Goals as goal

pub returns-clause-most : goal.returns-clause-most
returns-clause-most c = few_written

pub returns-clause-alloc : goal.returns-clause-alloc
returns-clause-alloc c = alloc_writes

pub returns-clause-revoke : goal.returns-clause-revoke
returns-clause-revoke c = revoke_writes

pub returns-clause-alloc_is_call : goal.returns-clause-alloc_is_call
returns-clause-alloc_is_call c = alloc_is_call

pub returns-clause-revoke_is_call : goal.returns-clause-revoke_is_call
returns-clause-revoke_is_call c = revoke_is_call
