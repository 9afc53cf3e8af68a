-- At a hit the kept leaf answers as the walk does; at a miss the walk itself.
use Rattle.std.proofs.Common.{sym, ◌/◌}
use Rattle.sv32_walk.specs.Walk.{walk}
use Rattle.mem_system.proofs.Looks.{look_held}
use Rattle.mem_system.proofs.Leaves.{answered, translated_within, missed_still}
use Rattle.mem_system.proofs.on_core.OnCore.translate.Goals as goal

pub returns-in-Some-clause-result : goal.returns-in-Some-clause-result
returns-in-Some-clause-result g c = λ m holds.
    rw (← c.self.view_is) (answered m c.args.mem.now.frames c.args.root c.args.va c.in-Some.leaf c.args.access
    c.at_leaf.result c.self.inside.tlb
    c.at_leaf.ensures.end c.requires.frames (sym c.in-Some.ensures.leaf))

pub returns-in-Some-clause-within : goal.returns-in-Some-clause-within
returns-in-Some-clause-within g c = λ m holds keeps.
    translated_within m c.args.mem.now.frames c.args.root c.args.va c.args.access c.at_leaf.result
    c.ranges.va.fits (returns-in-Some-clause-result g c m holds keeps)

pub returns-in-Some-clause-makes : goal.returns-in-Some-clause-makes
returns-in-Some-clause-makes g c = λ m holds keeps.
    rw (← c.self.view_is) (look_held g.P.Policy.rule g.P.Policy.stands_for c.args.va
    (walk m c.args.mem.now.frames c.args.root c.args.va c.args.access)
    _ c.args.l2.now c.find.new.self c.in-Some.ensures.shape c.in-Some.ensures.found c.in-Some.ensures.step)

pub returns-in-None-clause-within : goal.returns-in-None-clause-within
returns-in-None-clause-within g c = λ m holds keeps.
    translated_within m c.args.mem.now.frames c.args.root c.args.va c.args.access c.missed.result.result
    c.ranges.va.fits (c.missed.ensures.result m holds)

pub returns-in-None-clause-makes : goal.returns-in-None-clause-makes
returns-in-None-clause-makes g c = λ m holds keeps.
    rw (← c.self.view_is, ← c.in-None.ensures.missed) (c.missed.ensures.makes m holds)

pub missed-requires-clause-absent : goal.missed-requires-clause-absent
missed-requires-clause-absent g c =
    missed_still g.P.Policy.rule g.P.Policy.stands_for c.self.inside.tlb c.find.new.self (c.args.va / 4096) c.in-None.ensures.missed
    c.in-None.ensures.found
