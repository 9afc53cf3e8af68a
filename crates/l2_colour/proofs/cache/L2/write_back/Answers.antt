use Rattle.std.proofs.Common.{◌∙◌, length, is_some, ap, sym}
use Rattle.std.proofs.lemmas.Bool.{false≢true}
use Rattle.set_cache.proofs.Marks.{absent_stands}
use Rattle.l2_colour.specs.Colours.{colour_of_set}
use Rattle.l2_colour.proofs.Rows.{line_in_colour}
use Rattle.l2_colour.proofs.cache.L2.write_back.Goals.{else-self-via-then-self+else-holds, else-self-via-else-self}
use Rattle.l2_colour.proofs.cache.L2.write_back.Goals as goal

pub returns-then-holds-clause-steps : goal.returns-then-holds-clause-steps
returns-then-holds-clause-steps g c =
    rw (← c.number-then-holds.ensures.same, ← c.self.view_is, c.if-self.true) (λ sets for. c.mark.ensures.marks.step sets for)

pub returns-then-holds-clause-colour : goal.returns-then-holds-clause-colour
returns-then-holds-clause-colour g c =
    let a = c.self.inside in
    rw (← c.number-then-holds.ensures.same) (rw (← c.self.view_is) (λ s apart. c.mark.ensures.marks.other_sets s (λ e.
    apart (ap (colour_of_set a.line_size) e
    ∙ line_in_colour a.line_size (length a.cache.table) c.number-then-holds.result c.self.invariant.coloured))))

pub returns-then-holds-clause-absent : goal.returns-then-holds-clause-absent
returns-then-holds-clause-absent g c =
    rw (← c.number.ensures.same, ← c.self.view_is) (λ none.
    absurd (false≢true (sym (ap is_some none) ∙ sym c.holds.ensures.here ∙ c.if-holds.true)))

pub returns-else-self-clause-steps : goal.returns-else-self-clause-steps
returns-else-self-clause-steps g c = elim c.else-self.branch [
  | else-self-via-then-self+else-holds w ↦
      rw (← w.number.ensures.same, ← c.self.view_is, w.if-self.true)
      (absent_stands g.P.Policy.rule g.P.Policy.stands_for c.self.inside.cache w.number.result
      (sym w.holds.ensures.here ∙ w.if-holds.false))
  | else-self-via-else-self w ↦ rw (← c.self.view_is, w.if-self.false) (λ sets for. for)
]
