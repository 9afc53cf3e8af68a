-- A copy names what is owned already.
use Rattle.std.proofs.Common.{◌≡◌, slice_set, Option, None, ap, sym, subst, ◌∙◌, arith}
use Rattle.std.proofs.lemmas.List.{get_or_default}
use Rattle.cap_table.specs.declared.Cap.{Cap}
use Rattle.cap_table.specs.Slots.{Slots, cap_at, table_of, copied}
use Rattle.cap_table.specs.Owning.{IsSound}
use Rattle.cap_table.proofs.SoundLemmas.{copy_sound}
use Rattle.cap_table.proofs.table.CapTable.copy.Goals as goal

pub invariant_of-self : goal.invariant_of-self
invariant_of-self c =
    let from : c.index.result.now ≡ cap_at c.self.inside.slots.items c.args.from =
    c.index.ensures
    ∙ get_or_default c.self.inside.slots.items c.args.from c.index.result.now None
    (omega (arith, c.self.invariant.places, c.requires.from)) in
    subst (λ (d : Option Cap). IsSound (slice_set c.self.inside.slots.items c.args.to d)
    c.self.inside.held.items c.self.inside.tables.items)
    (sym (c.copied.ensures.value ∙ ap (λ d. copied d c.args.rights) from))
    (copy_sound c.self.inside.slots.items c.self.inside.held.items c.self.inside.tables.items c.self.invariant
    c.args.to c.requires.to c.args.from c.args.rights
    (subst (λ (slots : Slots). cap_at slots c.args.to ≡ None) (sym c.self.view_is) c.requires.empty)
    (subst (λ (slots : Slots). table_of (cap_at slots c.args.from) ≡ None) (sym c.self.view_is) c.requires.no_table))
