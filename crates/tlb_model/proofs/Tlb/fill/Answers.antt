use Rattle.std.proofs.Common.{sym, ◌∙◌}
use Rattle.tlb_model.proofs.Leaves.{leaf_before}
use Rattle.tlb_model.proofs.Tlb.fill.Goals as goal

pub returns-clause-others : goal.returns-clause-others
returns-clause-others g c =
    let s = c.self.inside in
    rw (← c.self.view_is) (leaf_before g.P.Policy.takes g.P.Policy.stands_for c.touch_absent.result
    c.args.page s.pages c.touch_absent.new.self s.leaves.items c.unwrap-place.result c.args.leaf
    c.touch_absent.ensures.touch.moves c.touch_absent.ensures.touch.sound (sym c.place_of.ensures.here ∙ c.unwrap-place.ensures))
