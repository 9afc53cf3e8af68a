-- The laws of whose turn it is, and of who wakes a thread that waits.
use Rattle.call_table.proofs.ThreadLaws.{call_turn, delivery_turn, call_wakes, delivery_wakes}
use Rattle.call_table.proofs.laws.threads.Goals as goal

pub returns-clause-call_turn : goal.returns-clause-call_turn
returns-clause-call_turn c = λ e d m h run. call_turn e d m h run

pub returns-clause-delivery_turn : goal.returns-clause-delivery_turn
returns-clause-delivery_turn c = λ d line h. delivery_turn d line h

pub returns-clause-call_wakes : goal.returns-clause-call_wakes
returns-clause-call_wakes c = λ e d m t line h run below waits. call_wakes e d m t line h run below waits

pub returns-clause-delivery_wakes : goal.returns-clause-delivery_wakes
returns-clause-delivery_wakes c = λ d line other t sound apart waits. delivery_wakes d line other t sound apart waits
