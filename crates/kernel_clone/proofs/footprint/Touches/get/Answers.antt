use Rattle.std.proofs.Common.{◌∙◌, ◌<◌, List, length, subst, sym}
use Rattle.kernel_clone.specs.Footprints.{LineTouch}
use Rattle.kernel_clone.proofs.Items.{own_item, past_own, written_below}
use Rattle.kernel_clone.proofs.footprint.Touches.get.Goals as goal

pub returns-then-place-own : goal.returns-then-place-own
returns-then-place-own c = record {
  touch = rw (← c.self.view_is) (own_item _ _ _ _ _ c.self.invariant.same c.own_touch.ensures.touch);
}

pub written_line-line-requires-clause-below : goal.written_line-line-requires-clause-below
written_line-line-requires-clause-below c =
    written_below _ _ _ _ _ c.self.invariant.same c.own_count-own.ensures.value c.if-place-own.false
    (subst (λ (xs : List LineTouch). c.args.place < length xs) (sym c.self.view_is) c.requires.below)

pub returns : goal.returns
returns c = record {
  touch = rw (← c.self.view_is)
      (past_own _ _ _ _ _ c.self.invariant.same c.own_count-own.ensures.value c.if-place-own.false ∙ c.written_line-line.ensures.touch);
}
