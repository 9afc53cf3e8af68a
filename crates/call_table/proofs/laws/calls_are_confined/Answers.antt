-- The law that calls stay within the domain's own frames.
use Rattle.call_table.proofs.ConfinedCalls.{calls_are_confined}
use Rattle.call_table.proofs.laws.calls_are_confined.Goals as goal

pub returns : goal.returns
returns c = record { confined = λ e d m k h same. calls_are_confined e d m k h same }
