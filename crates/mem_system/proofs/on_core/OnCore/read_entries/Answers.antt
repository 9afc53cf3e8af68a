-- None, one or two lines are read, one after the other.
use Rattle.std.proofs.Common.{arith, rules, ◌≡◌, length}
use Rattle.mem_system.proofs.WalkReads.{reads_none, reads_one, reads_both}
use Rattle.mem_system.proofs.on_core.OnCore.read_entries.Goals as goal

pub returns-then-walked-eq0-clause-steps : goal.returns-then-walked-eq0-clause-steps
returns-then-walked-eq0-clause-steps g c =
    reads_none g.P.Policy.rule g.P.Policy.stands_for c.args.self.now c.args.l2.now c.args.walked.now.reads
    c.args.walked.now.count c.if-walked-eq0.true

pub returns-then-walked-eq1-clause-steps : goal.returns-then-walked-eq1-clause-steps
returns-then-walked-eq1-clause-steps g c =
    let long : length c.args.walked.now.reads ≡ 2 = search rules in
    reads_one g.P.Policy.rule g.P.Policy.stands_for c.args.self.now c.args.l2.now c.args.walked.now.reads c.args.walked.now.count long
    c.line_of.result c.below-first.result c.below-first.new.l2 c.line_of.ensures.line c.below-first.ensures.steps c.if-walked-eq1.true

pub returns-clause-steps : goal.returns-clause-steps
returns-clause-steps g c =
    let long : length c.args.walked.now.reads ≡ 2 = search rules in
    let two : c.args.walked.now.count ≡ 2 = omega arith in
    reads_both g.P.Policy.rule g.P.Policy.stands_for c.args.self.now c.args.l2.now c.args.walked.now.reads c.args.walked.now.count long
    c.line_of.result c.below-first.result c.below-first.new.l2 c.line_of.ensures.line c.below-first.ensures.steps
    c.line_of-2.result c.below.result c.below.new.l2 two c.line_of-2.ensures.line c.below-first.ensures.same c.below.ensures.steps
