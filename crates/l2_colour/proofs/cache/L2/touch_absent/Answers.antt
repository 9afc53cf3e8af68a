use Rattle.l2_colour.proofs.AfterTouch.{after_touch, others_stay, clean_victim}
use Rattle.l2_colour.proofs.cache.L2.touch_absent.Goals as goal

pub returns-clause-touch : goal.returns-clause-touch
returns-clause-touch g c =
    rw (← c.number.ensures.same) (rw (← c.self.view_is) c.touch_absent.ensures.touch)

pub returns-clause-colour : goal.returns-clause-colour
returns-clause-colour g c =
    let a = c.self.inside in
    rw (← c.number.ensures.same) (rw (← c.self.view_is)
    (others_stay g.P.Policy.takes g.P.Policy.rule g.P.Policy.stands_for a.line_bits a.colours _ c.self.invariant
    c.touch_absent.result c.number.result c.touch_absent.new.self c.touch_absent.ensures.touch))

pub returns-clause-clean : goal.returns-clause-clean
returns-clause-clean g c =
    let a = c.self.inside in
    rw (← c.self.view_is)
    (clean_victim g.P.Policy.takes g.P.Policy.rule g.P.Policy.stands_for a.line_bits a.colours _ c.self.invariant
    c.touch_absent.result c.number.result c.touch_absent.new.self c.touch_absent.ensures.touch)

pub invariant_of-self : goal.invariant_of-self
invariant_of-self g c =
    let a = c.self.inside in
    after_touch g.P.Policy.takes g.P.Policy.rule g.P.Policy.stands_for a.line_bits a.colours _ c.self.invariant
    c.touch_absent.result c.number.result c.touch_absent.new.self c.touch_absent.ensures.touch
