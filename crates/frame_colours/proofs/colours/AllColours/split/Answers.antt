use Rattle.std.proofs.Common.{◌≡◌, ◌∙◌, sym, ap, subst, arith, [], ◌∷◌, ◌++◌, length}
use Rattle.std.proofs.lemmas.List.{append_assoc}
use Rattle.frame_colours.specs.Colours.{AreApart}
use Rattle.frame_colours.proofs.Disjoint.{apart_by_lists}
use Rattle.frame_colours.proofs.Splits.{all_yielded}
use Rattle.frame_colours.proofs.colours.AllColours.split.Goals as goal

pub loop-part-preserved : goal.loop-part-preserved
loop-part-preserved c =
    let yielded = c.loop-part.yielded in
    let part = c.in-Some.part in
    let next = c.next.new.self.rest.items in
    let same : (yielded ++ part ∷ []) ++ next ≡ yielded ++ c.loop-part.part-iterator.rest.items =
    append_assoc yielded (part ∷ []) next ∙ ap (λ ys. yielded ++ ys) (sym c.in-Some.ensures.steps.0) in
    let pushed = c.push_reserved.ensures in (
      tt,
      tt,
      pushed.items ∙ ap (λ ys. ys ++ part ∷ []) c.loop-part.invariant.2,
      same ∙ c.loop-part.invariant.3,
      omega (arith, ap length same, c.loop-part.invariant.4, pushed.capacity),
    )

pub returns : goal.returns
returns c =
    let none : length c.loop-part.part-iterator.rest.items ≡ 0 = omega (arith, c.in-None.ensures.steps.0) in
    let shares =
    c.loop-part.invariant.2 ∙ all_yielded c.loop-part.yielded c.loop-part.part-iterator.rest.items none ∙ c.loop-part.invariant.3 in
    record { shares = shares; apart = subst AreApart (sym shares) (apart_by_lists _ _ c.requires.disjoint) }
