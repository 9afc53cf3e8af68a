use Rattle.std.proofs.Common.{arith, ◌∙◌, sym, ◌<◌, length, set}
use Rattle.std.proofs.Math.ListN.{length-set}
use Rattle.thread_set.specs.declared.ThreadSet.{ThreadSet}
use Rattle.thread_set.proofs.Turns.{turn-Some, turn-None, read-turned}
use Rattle.thread_set.proofs.ThreadSet.pass_turn.Goals as goal

pub returns-in-Some : goal.returns-in-Some
returns-in-Some c =
    let s : ThreadSet = c.args.self.now in
    let turned = turn-Some s.number s.others s.active c.in-Some.t s.below s.eight c.in-Some.ensures.next in
    let within : c.in-Some.t < length (set s.others s.number s.active) =
    omega (arith, turned.0, length-set s.others s.number s.active, s.eight) in
    record { yielded = sym (turned.1 ∙ read-turned c.in-Some.t (set s.others s.number s.active) c.index-self-t.result within) }

pub returns-in_default : goal.returns-in_default
returns-in_default c =
    let s : ThreadSet = c.args.self.now in
    record { yielded = sym (turn-None s.number s.others s.active s.below s.eight c.in_default.ensures.next) }
