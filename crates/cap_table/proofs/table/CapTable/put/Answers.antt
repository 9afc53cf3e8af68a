-- What is given to a slot is owned there.
use Rattle.std.proofs.Common.{◌≡◌, ℕ, slice_set, Some, None, sym, subst}
use Rattle.cap_table.specs.declared.Cap.TheVariants as cap
use Rattle.cap_table.specs.declared.Given.{Given}
use Rattle.cap_table.specs.Slots.{Slots, cap_at}
use Rattle.cap_table.specs.Owning.{IsSound, IsNew, IsUnnamed}
use Rattle.cap_table.proofs.SoundLemmas.{put_page, put_table, put_line}
use Rattle.cap_table.proofs.table.CapTable.put.Goals as goal

pub invariant_of-self : goal.invariant_of-self
invariant_of-self c =
    let new : IsUnnamed c.self.inside.slots.items c.in-Page.frame =
    subst (λ (slots : Slots). IsUnnamed slots c.in-Page.frame) (sym c.self.view_is)
    (subst (λ (g : Given). IsNew c.args.self.now g) c.in-Page.is c.requires.new) in
    subst (λ (n : ℕ). IsSound (slice_set c.self.inside.slots.items c.args.slot
    (Some (cap.Frame n c.in-Page.rights None)))
    (slice_set c.self.inside.held.items c.args.slot (Some c.in-Page.frame)) c.self.inside.tables.items)
    (sym c.number.ensures.number)
    (put_page c.self.inside.slots.items c.self.inside.held.items c.self.inside.tables.items c.self.invariant
    c.args.slot c.requires.below c.in-Page.frame c.in-Page.rights
    (subst (λ (slots : Slots). cap_at slots c.args.slot ≡ None) (sym c.self.view_is) c.requires.empty) new)

pub invariant_of-self-in-Table : goal.invariant_of-self-in-Table
invariant_of-self-in-Table c =
    let new : IsUnnamed c.self.inside.slots.items c.in-Table.frame =
    subst (λ (slots : Slots). IsUnnamed slots c.in-Table.frame) (sym c.self.view_is)
    (subst (λ (g : Given). IsNew c.args.self.now g) c.in-Table.is c.requires.new) in
    subst (λ (n : ℕ). IsSound (slice_set c.self.inside.slots.items c.args.slot (Some (cap.Table n None)))
    c.self.inside.held.items (slice_set c.self.inside.tables.items c.args.slot (Some c.in-Table.frame)))
    (sym c.number-in-Table.ensures.number)
    (put_table c.self.inside.slots.items c.self.inside.held.items c.self.inside.tables.items c.self.invariant
    c.args.slot c.requires.below c.in-Table.frame
    (subst (λ (slots : Slots). cap_at slots c.args.slot ≡ None) (sym c.self.view_is) c.requires.empty) new)

pub invariant_of-self-in-Irq : goal.invariant_of-self-in-Irq
invariant_of-self-in-Irq c =
    put_line c.self.inside.slots.items c.self.inside.held.items c.self.inside.tables.items c.self.invariant
    c.args.slot c.requires.below c.in-Irq.line
    (subst (λ (slots : Slots). cap_at slots c.args.slot ≡ None) (sym c.self.view_is) c.requires.empty)
    (subst (λ (g : Given). IsNew c.args.self.now g) c.in-Irq.is c.requires.new)
