use Rattle.lend_check.proofs.Numbers.{in_order, child_is, distinct, counted, below, each_number, entry_number}
use Rattle.lend_check.proofs.laws.parties.Goals as goal

pub returns-clause-order : goal.returns-clause-order
returns-clause-order c = in_order

pub returns-clause-child : goal.returns-clause-child
returns-clause-child c = child_is

pub returns-clause-distinct : goal.returns-clause-distinct
returns-clause-distinct c = distinct

pub returns-clause-count : goal.returns-clause-count
returns-clause-count c = counted

pub returns-clause-each : goal.returns-clause-each
returns-clause-each c = each_number

pub returns-clause-limit : goal.returns-clause-limit
returns-clause-limit c = below

pub returns-clause-entry : goal.returns-clause-entry
returns-clause-entry c = entry_number
