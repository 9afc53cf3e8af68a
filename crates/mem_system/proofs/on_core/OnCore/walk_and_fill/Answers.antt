-- A fill keeps each page's leaf its walk's.
use Rattle.std.proofs.Common.{◌+◌, ◌/◌, sym, subst}
use Rattle.sv32_walk.specs.Walk.{Walk, walk}
use Rattle.set_cache.specs.Cache.{Sets}
use Rattle.set_cache.specs.Contents.{StandsFor, SameShape, shape_of}
use Rattle.tlb_model.specs.Buffer.{filled_of}
use Rattle.mem_system.specs.Contents.{CoreContents, MakesTouch, system}
use Rattle.mem_system.specs.Translation.{look_of}
use Rattle.mem_system.proofs.Leaves.{keeps_filled, leaf_of_walk}
use Rattle.mem_system.proofs.Looks.{look_filled, look_failed}
use Rattle.mem_system.proofs.on_core.OnCore.walk_and_fill.Goals as goal

pub returns-in-Ok-clause-kept : goal.returns-in-Ok-clause-kept
returns-in-Ok-clause-kept g c = λ m holds.
    rw (← c.self.view_is) (keeps_filled m c.args.mem.now.frames c.args.root (c.args.va / 4096) c.in-Ok.leaf
    c.self.inside.tlb c.fill.new.self
    (leaf_of_walk m c.args.mem.now.frames c.args.root c.args.va c.in-Ok.leaf c.args.access
    c.walk-walked.result.result c.ranges.va.fits (c.walk-walked.ensures.result m holds) c.in-Ok.is)
    c.fill.ensures.filled c.fill.ensures.others)

pub returns-in-Ok-clause-makes : goal.returns-in-Ok-clause-makes
returns-in-Ok-clause-makes g c = λ m holds.
    let core : CoreContents _ = c.args.self.now in
    let walks : Walk = walk m c.args.mem.now.frames c.args.root c.args.va c.args.access in
    let walked = c.walk-walked.ensures in
    subst (λ (k : CoreContents _). MakesTouch g.P.Policy.rule g.P.Policy.stands_for (look_of c.args.l2.now.line_size c.args.va walks)
    (k.costs.tlb + c.read_entries.result) (system core c.args.l2.now) (system (record k { tlb = c.fill.new.self }) c.read_entries.new.l2))
    (sym c.self.view_is)
    (look_filled g.P.Policy.rule g.P.Policy.stands_for c.args.va walks core c.args.l2.now c.requires.absent
    c.walk-walked.result.count c.walk-walked.result.reads (walked.reads m holds) (walked.count m holds) walked.few
    c.read_entries.new.l2 c.read_entries.result c.read_entries.ensures.same c.read_entries.ensures.steps
    c.in-Ok.leaf c.walk-walked.result.result (walked.result m holds) c.in-Ok.is c.fill.new.self
    (subst (λ (k : CoreContents _). SameShape k.tlb.pages c.fill.new.self.pages) c.self.view_is c.fill.ensures.shape)
    (subst (λ (k : CoreContents _). (sets : Sets) → StandsFor g.P.Policy.stands_for k.tlb.pages sets
    → StandsFor g.P.Policy.stands_for c.fill.new.self.pages (filled_of (shape_of g.P.Policy.rule k.tlb.pages) sets (c.args.va / 4096)))
    c.self.view_is c.fill.ensures.step))

pub returns-in-Err-clause-makes : goal.returns-in-Err-clause-makes
returns-in-Err-clause-makes g c = λ m holds.
    let core : CoreContents _ = c.args.self.now in
    let walks : Walk = walk m c.args.mem.now.frames c.args.root c.args.va c.args.access in
    let walked = c.walk-walked.ensures in
    subst (λ (k : CoreContents _). MakesTouch g.P.Policy.rule g.P.Policy.stands_for (look_of c.args.l2.now.line_size c.args.va walks)
    (k.costs.tlb + c.read_entries.result) (system core c.args.l2.now) (system core c.read_entries.new.l2))
    (sym c.self.view_is)
    (look_failed g.P.Policy.rule g.P.Policy.stands_for c.args.va walks core c.args.l2.now c.requires.absent
    c.walk-walked.result.count c.walk-walked.result.reads (walked.reads m holds) (walked.count m holds) walked.few
    c.read_entries.new.l2 c.read_entries.result c.read_entries.ensures.same c.read_entries.ensures.steps
    c.in-Err.fault c.walk-walked.result.result (walked.result m holds) c.in-Err.is)
