-- The laws of what a signal does, and of how many moments are delivered.
use Rattle.call_table.proofs.ThreadLaws.{signal_wakes, signal_sets, delivery_counts, call_counts}
use Rattle.call_table.proofs.laws.interrupts.Goals as goal

pub returns-clause-wakes : goal.returns-clause-wakes
returns-clause-wakes c = λ d line t sound is. signal_wakes d line t sound is

pub returns-clause-sets : goal.returns-clause-sets
returns-clause-sets c = λ d line sound below none. signal_sets d line sound below none

pub returns-clause-delivery_counts : goal.returns-clause-delivery_counts
returns-clause-delivery_counts c = λ d line. delivery_counts d line

pub returns-clause-call_counts : goal.returns-clause-call_counts
returns-clause-call_counts c = λ e d m. call_counts e d m
