-- The dirty lines are written back, and then all is fresh.
use Rattle.std.specs.Prelude.{option_map}
use Rattle.mem_system.specs.Contents.{CoreContents}
use Rattle.mem_system.specs.Geometry.{costs_of, product_costs_of}
use Rattle.mem_system.proofs.Emptied.{emptied}
use Rattle.mem_system.proofs.Leaves.{keeps_none}
use Rattle.mem_system.proofs.on_core.OnCore.flush.Goals as goal

pub returns-clause-makes : goal.returns-clause-makes
returns-clause-makes g c =
    let s = c.self.inside in
    let old : CoreContents g.row.P.Denot = record {
      costs = costs_of s.costs;
      products = option_map product_costs_of s.products;
      pinned = s.pinned;
      l1i = s.l1i;
      l1d = s.l1d;
      tlb = s.tlb;
      guesses = s.predictor;
    } in
    emptied g.P.Policy.takes g.P.Policy.rule g.P.Policy.stands_for old c.flush-dirty.new.self c.flush.new.self
    c.flush-2.new.self c.reset.new.self
    c.args.l2.now c.write_all_back.new.l2 c.flush-dirty.result c.flush.result c.args.self.now c.self.view_is
    c.write_all_back.ensures.same c.write_all_back.ensures.steps c.flush-dirty.ensures.flush c.flush.ensures.flush
    c.flush-2.ensures.shape c.flush-2.ensures.fresh c.reset.ensures.fresh

pub returns-clause-kept : goal.returns-clause-kept
returns-clause-kept g c = λ mem frames root. keeps_none mem frames root _ c.flush-2.ensures.none
