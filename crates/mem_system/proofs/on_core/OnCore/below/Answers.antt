-- The second level holds the line, or it is read of memory.
use Rattle.std.proofs.Common.{◌∙◌, sym, ap, subst}
use Rattle.set_cache.specs.Cache.{Sets}
use Rattle.set_cache.specs.Contents.{StandsFor}
use Rattle.l2_colour.specs.Contents.{L2Contents}
use Rattle.mem_system.specs.Cost.{Read, below}
use Rattle.mem_system.specs.Contents.{CoreContents, BelowSteps, hierarchy_of, system}
use Rattle.mem_system.proofs.Belows.{read_pinned, read_held, same_hierarchy, still_absent, still_counts}
use Rattle.mem_system.proofs.on_core.OnCore.below.Goals as goal
use Rattle.mem_system.proofs.on_core.OnCore.below.Goals.{then-is_pinned-via-then-is_pinned, then-is_pinned-via-else-is_pinned+then-find}

pub returns-then-is_pinned-clause-steps : goal.returns-then-is_pinned-clause-steps
returns-then-is_pinned-clause-steps g c =
    let core : CoreContents _ = c.args.self.now in
    let old : L2Contents _ = c.args.l2.now in
    subst (λ (k : CoreContents _). (sets : Sets) → StandsFor g.P.Policy.stands_for old.cache sets
    → BelowSteps g.P.Policy.stands_for k.costs.l2 c.then-is_pinned.l2
    (below (hierarchy_of g.P.Policy.rule (system core old)) core.pinned sets (Read c.args.line)))
    (sym c.self.view_is)
    (λ sets for. elim c.then-is_pinned.branch [
      | then-is_pinned-via-then-is_pinned w ↦
          subst (λ (k : L2Contents _). BelowSteps g.P.Policy.stands_for core.costs.l2 k
          (below (hierarchy_of g.P.Policy.rule (system core old)) core.pinned sets (Read c.args.line))) (sym w.l2-is)
          (read_pinned g.P.Policy.takes g.P.Policy.rule g.P.Policy.stands_for core old c.args.line
          c.is_pinned.result c.is_pinned.ensures.value w.if-is_pinned.true sets for)
      | then-is_pinned-via-else-is_pinned+then-find w ↦
          subst (λ (k : L2Contents _). BelowSteps g.P.Policy.stands_for core.costs.l2 k
          (below (hierarchy_of g.P.Policy.rule (system core old)) core.pinned sets (Read c.args.line))) (sym w.l2-is)
          (read_held g.P.Policy.takes g.P.Policy.rule g.P.Policy.stands_for core old c.args.line
          c.is_pinned.result c.is_pinned.ensures.value w.find.new.self (w.find.ensures.found w.if-find.true) w.if-is_pinned.false sets for)
    ])

pub returns-clause-steps : goal.returns-clause-steps
returns-clause-steps g c =
    let core : CoreContents _ = c.args.self.now in
    subst (λ (k : L2Contents _). (sets : Sets) → StandsFor g.P.Policy.stands_for k.cache sets
    → BelowSteps g.P.Policy.stands_for c.below_absent.result c.below_absent.new.l2
    (below (hierarchy_of g.P.Policy.rule (system core k)) core.pinned sets (Read c.args.line)))
    (c.find.ensures.missed c.if-find.false) c.below_absent.ensures.steps

pub returns-then-is_pinned-clause-same : goal.returns-then-is_pinned-clause-same
returns-then-is_pinned-clause-same g c =
    let core : CoreContents _ = c.args.self.now in
    elim c.then-is_pinned.branch [
      | then-is_pinned-via-then-is_pinned w ↦
          ap (λ (k : L2Contents _). hierarchy_of g.P.Policy.rule (system core k)) w.l2-is
      | then-is_pinned-via-else-is_pinned+then-find w ↦
          ap (λ (k : L2Contents _). hierarchy_of g.P.Policy.rule (system core k)) w.l2-is
          ∙ same_hierarchy g.P.Policy.rule core c.args.l2.now w.find.new.self w.find.ensures.line_size
          w.find.ensures.back w.find.ensures.shape
    ]

pub below_absent-requires-clause-absent : goal.below_absent-requires-clause-absent
below_absent-requires-clause-absent g c =
    still_absent c.args.l2.now c.find.new.self c.args.line c.find.result c.find.ensures.here c.if-find.false
    (c.find.ensures.missed c.if-find.false)

pub below_absent-requires-clause-counts : goal.below_absent-requires-clause-counts
below_absent-requires-clause-counts g c =
    still_counts g.P.Policy.rule c.args.self.now c.args.l2.now c.find.new.self c.args.line c.is_pinned.result c.is_pinned.ensures.value
    c.if-is_pinned.false (c.find.ensures.missed c.if-find.false)

pub returns-clause-same : goal.returns-clause-same
returns-clause-same g c =
    let core : CoreContents _ = c.args.self.now in
    c.below_absent.ensures.same
    ∙ ap (λ (k : L2Contents _). hierarchy_of g.P.Policy.rule (system core k)) (c.find.ensures.missed c.if-find.false)
