-- A slot's line is one of the 32.
use Rattle.std.proofs.Common.{◌≡◌, None, ap, sym, ◌∙◌, arith}
use Rattle.std.proofs.lemmas.List.{get_or_default}
use Rattle.cap_table.specs.Slots.{cap_at, line_of}
use Rattle.cap_table.proofs.table.CapTable.get.Goals as goal

pub returns-clause-line : goal.returns-clause-line
returns-clause-line c = λ line is.
    let at : c.index.result.now ≡ cap_at c.self.inside.slots.items c.args.slot =
    c.index.ensures
    ∙ get_or_default c.self.inside.slots.items c.args.slot c.index.result.now None
    (omega (arith, c.self.invariant.places, c.requires.below)) in
    c.self.invariant.lines.few c.args.slot line (ap line_of (sym at) ∙ is)
