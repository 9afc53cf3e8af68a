-- The line is read of memory, after the victim is written back if it is dirty.
use Rattle.std.proofs.Common.{◌+◌, sym, subst}
use Rattle.set_cache.specs.Cache.{Sets}
use Rattle.set_cache.specs.Contents.{StandsFor}
use Rattle.mem_system.specs.Cost.{Read, below}
use Rattle.mem_system.specs.Contents.{CoreContents, BelowSteps, hierarchy_of, system}
use Rattle.mem_system.proofs.Belows.{read_dirty, read_clean, same_hierarchy}
use Rattle.mem_system.proofs.on_core.OnCore.below_absent.Goals as goal

pub returns-then-found-clause-steps : goal.returns-then-found-clause-steps
returns-then-found-clause-steps g c =
    let core : CoreContents _ = c.args.self.now in
    let told = c.touch_absent-found.ensures in
    subst (λ (k : CoreContents _). (sets : Sets) → StandsFor g.P.Policy.stands_for c.args.l2.now.cache sets
    → BelowSteps g.P.Policy.stands_for (k.costs.l2 + k.costs.mem + k.costs.wb) c.touch_absent-found.new.self
    (below (hierarchy_of g.P.Policy.rule (system core c.args.l2.now)) core.pinned sets (Read c.args.line)))
    (sym c.self.view_is)
    (read_dirty g.P.Policy.takes g.P.Policy.rule g.P.Policy.stands_for core c.args.l2.now c.touch_absent-found.new.self c.args.line
    c.touch_absent-found.result told.touch c.requires.absent c.requires.counts told.clean c.if-found.true)

pub returns-clause-steps : goal.returns-clause-steps
returns-clause-steps g c =
    let core : CoreContents _ = c.args.self.now in
    let told = c.touch_absent-found.ensures in
    subst (λ (k : CoreContents _). (sets : Sets) → StandsFor g.P.Policy.stands_for c.args.l2.now.cache sets
    → BelowSteps g.P.Policy.stands_for (k.costs.l2 + k.costs.mem) c.touch_absent-found.new.self
    (below (hierarchy_of g.P.Policy.rule (system core c.args.l2.now)) core.pinned sets (Read c.args.line)))
    (sym c.self.view_is)
    (read_clean g.P.Policy.takes g.P.Policy.rule g.P.Policy.stands_for core c.args.l2.now c.touch_absent-found.new.self c.args.line
    c.touch_absent-found.result told.touch c.requires.absent c.requires.counts told.clean c.if-found.false)

pub returns-then-found-clause-same : goal.returns-then-found-clause-same
returns-then-found-clause-same g c =
    let told = c.touch_absent-found.ensures in
    same_hierarchy g.P.Policy.rule c.args.self.now c.args.l2.now c.touch_absent-found.new.self told.line_size told.back told.touch.shape

pub returns-clause-same : goal.returns-clause-same
returns-clause-same g c =
    let told = c.touch_absent-found.ensures in
    same_hierarchy g.P.Policy.rule c.args.self.now c.args.l2.now c.touch_absent-found.new.self told.line_size told.back told.touch.shape
