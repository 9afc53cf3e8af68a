-- What an emptied slot owned goes to another slot, or comes back.
use Rattle.std.proofs.Common.{◌≡◌, ◌≢◌, slice_set, Option, Some, None, ap, sym, subst, ◌∙◌, arith}
use Rattle.std.proofs.lemmas.List.{get_or_default, with_items_is}
use Rattle.std.specs.Vec.{with_items}
use Rattle.cap_table.specs.declared.Cap.{Cap}
use Rattle.cap_table.specs.Slots.{Slots, cap_at, page_of, table_of}
use Rattle.cap_table.specs.Owning.{owner_at, IsOwned, Back}
use Rattle.cap_table.proofs.SoundLemmas.{delete_sound, table_is, page_unnamed, table_unnamed}
use Rattle.cap_table.proofs.table.CapTable.delete.Goals as goal

pub invariant_of-self : goal.invariant_of-self
invariant_of-self c =
    let owned : IsOwned page_of (slice_set c.self.inside.slots.items c.args.slot None) c.disowned-held.new.held =
    subst (λ (slots : Slots). IsOwned page_of (slice_set slots c.args.slot None) c.disowned-held.new.held)
    c.deref.ensures.value c.disowned-held.ensures.owned in
    let whole : (with_items c.self.inside.held c.disowned-held.new.held).items ≡ c.disowned-held.new.held =
    with_items_is c.self.inside.held c.disowned-held.new.held
    (omega (arith, owned.places, c.self.invariant.pages_owned.places, c.self.inside.held.ok)) in
    rw (c.take-cap.ensures.after, c.take-table.ensures.after, whole)
    (delete_sound c.self.inside.slots.items c.self.inside.held.items c.self.inside.tables.items
    c.self.invariant c.args.slot c.requires.below c.disowned-held.new.held owned)

pub returns-clause-table : goal.returns-clause-table
returns-clause-table c =
    let owner : c.take-table.result ≡ owner_at c.self.inside.tables.items c.args.slot =
    c.take-table.ensures.value
    ∙ (c.index_mut.ensures.value
    ∙ get_or_default c.self.inside.tables.items c.args.slot c.index_mut.result.now None
    (omega (arith, c.self.invariant.tables_owned.places, c.requires.below))) in
    owner ∙ table_is c.self.inside.slots.items c.self.inside.tables.items c.self.invariant.tables_owned c.self.invariant.single c.args.slot
    ∙ ap (λ (slots : Slots). table_of (cap_at slots c.args.slot)) c.self.view_is

pub returns-clause-no_page : goal.returns-clause-no_page
returns-clause-no_page c = λ f i x.
    let back : Back c.self.inside.slots.items c.args.slot c.disowned-held.result =
    subst (λ (slots : Slots). Back slots c.args.slot c.disowned-held.result) c.deref.ensures.value c.disowned-held.ensures.back in
    subst (λ (o : Option Cap).
    page_of (cap_at (slice_set c.self.inside.slots.items c.args.slot o) i) ≢ Some f)
    (sym c.take-cap.ensures.after)
    (page_unnamed c.self.inside.slots.items c.args.slot
    (omega (arith, c.self.invariant.places, c.requires.below)) c.disowned-held.result back f i x)

pub returns-clause-no_table : goal.returns-clause-no_table
returns-clause-no_table c = λ f i x.
    let owner : c.take-table.result ≡ owner_at c.self.inside.tables.items c.args.slot =
    c.take-table.ensures.value
    ∙ (c.index_mut.ensures.value
    ∙ get_or_default c.self.inside.tables.items c.args.slot c.index_mut.result.now None
    (omega (arith, c.self.invariant.tables_owned.places, c.requires.below))) in
    subst (λ (o : Option Cap).
    table_of (cap_at (slice_set c.self.inside.slots.items c.args.slot o) i) ≢ Some f)
    (sym c.take-cap.ensures.after)
    (table_unnamed c.self.inside.slots.items c.self.invariant.single c.args.slot
    (omega (arith, c.self.invariant.places, c.requires.below)) f i
    (c.self.invariant.tables_owned.named c.args.slot f (sym owner ∙ x)))
