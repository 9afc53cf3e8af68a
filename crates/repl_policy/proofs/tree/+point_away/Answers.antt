use Rattle.std.proofs.Common.{arith, ◌∙◌, ◌+◌, ◌/◌, w64}
use Rattle.std.proofs.lemmas.Nat.Bits.{bit_at_set_same, bit_at_set_other, bit_at_clear_same, bit_at_clear_other}
use Rattle.repl_policy.proofs.Trees.{touch_lower, touch_upper, again_lower, again_upper}
use Rattle.repl_policy.proofs.tree.+point_away.Goals as goal

pub returns-then-way-middle-clause-below : goal.returns-then-way-middle-clause-below
returns-then-way-middle-clause-below t c = λ k le.
    c.point_away.ensures.below k le ∙ bit_at_set_other w64 c.args.state (c.args.low + c.args.size / 2) (omega arith) k (λ e. omega arith)

pub returns-then-way-middle-clause-above : goal.returns-then-way-middle-clause-above
returns-then-way-middle-clause-above t c = λ k le lt.
    c.point_away.ensures.above k (omega arith) lt
    ∙ bit_at_set_other w64 c.args.state (c.args.low + c.args.size / 2) (omega arith) k (λ e. omega arith)

pub returns-then-way-middle-clause-points : goal.returns-then-way-middle-clause-points
returns-then-way-middle-clause-points t c = λ depth list is points.
    let middle = c.args.low + c.args.size / 2 in
    touch_lower depth c.args.low c.args.size c.args.state _ c.point_away.result c.args.way list
    c.if-size-lt2.false c.requires.from c.if-way-middle.true c.requires.within
    (bit_at_set_same w64 c.args.state middle (omega arith)) (λ k ne lt. bit_at_set_other w64 c.args.state middle (omega arith) k ne)
    c.point_away.ensures.above (λ e. c.point_away.ensures.points e list) is points

pub returns-else-way-middle-clause-below : goal.returns-else-way-middle-clause-below
returns-else-way-middle-clause-below t c = λ k le.
    c.point_away-else-way-middle.ensures.below k (omega arith)
    ∙ bit_at_clear_other w64 c.args.state (c.args.low + c.args.size / 2) (omega arith) k (omega arith) (λ e. omega arith)

pub returns-else-way-middle-clause-above : goal.returns-else-way-middle-clause-above
returns-else-way-middle-clause-above t c = λ k le lt.
    c.point_away-else-way-middle.ensures.above k (omega arith) lt
    ∙ bit_at_clear_other w64 c.args.state (c.args.low + c.args.size / 2) (omega arith) k lt (λ e. omega arith)

pub returns-else-way-middle-clause-points : goal.returns-else-way-middle-clause-points
returns-else-way-middle-clause-points t c = λ depth list is points.
    let middle = c.args.low + c.args.size / 2 in
    touch_upper depth c.args.low c.args.size c.args.state _ c.point_away-else-way-middle.result c.args.way
    list c.if-size-lt2.false c.if-way-middle.false c.requires.to c.requires.within
    (bit_at_clear_same w64 c.args.state middle (omega arith)) (λ k ne lt. bit_at_clear_other w64 c.args.state middle (omega arith) k lt ne)
    c.point_away-else-way-middle.ensures.below (λ e. c.point_away-else-way-middle.ensures.points e list) is points

pub returns-then-way-middle-clause-again : goal.returns-then-way-middle-clause-again
returns-then-way-middle-clause-again t c = λ depth list is points.
    let middle = c.args.low + c.args.size / 2 in
    again_lower depth c.args.low c.args.size _ c.point_away.result c.args.way list c.if-size-lt2.false
    c.requires.from c.if-way-middle.true c.requires.within
    (bit_at_set_same w64 c.args.state middle (omega arith))
    c.point_away.ensures.above (λ e. c.point_away.ensures.again e list) is points

pub returns-else-way-middle-clause-again : goal.returns-else-way-middle-clause-again
returns-else-way-middle-clause-again t c = λ depth list is points.
    let middle = c.args.low + c.args.size / 2 in
    again_upper depth c.args.low c.args.size _ c.point_away-else-way-middle.result c.args.way list
    c.if-size-lt2.false c.if-way-middle.false c.requires.to c.requires.within
    (bit_at_clear_same w64 c.args.state middle (omega arith))
    c.point_away-else-way-middle.ensures.below (λ e. c.point_away-else-way-middle.ensures.again e list) is points
