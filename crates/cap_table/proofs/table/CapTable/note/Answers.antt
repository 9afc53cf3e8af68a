-- A note changes nothing that is named.
use Rattle.std.proofs.Common.{◌≡◌, slice_set, Option, None, ap, sym, subst, ◌∙◌, arith}
use Rattle.std.proofs.lemmas.List.{get_or_default}
use Rattle.cap_table.specs.declared.Cap.{Cap}
use Rattle.cap_table.specs.Slots.{cap_at, noted}
use Rattle.cap_table.specs.Owning.{IsSound}
use Rattle.cap_table.proofs.SoundLemmas.{note_sound}
use Rattle.cap_table.proofs.table.CapTable.note.Goals as goal

pub invariant_of-self : goal.invariant_of-self
invariant_of-self c =
    let there : c.index.result.now ≡ cap_at c.self.inside.slots.items c.args.slot =
    c.index.ensures
    ∙ get_or_default c.self.inside.slots.items c.args.slot c.index.result.now None
    (omega (arith, c.self.invariant.places, c.requires.below)) in
    subst (λ (d : Option Cap). IsSound (slice_set c.self.inside.slots.items c.args.slot d)
    c.self.inside.held.items c.self.inside.tables.items)
    (sym (c.noted.ensures.value ∙ ap (λ d. noted d c.args.at) there))
    (note_sound c.self.inside.slots.items c.self.inside.held.items c.self.inside.tables.items
    c.self.invariant c.args.slot c.requires.below c.args.at)
