-- The page goes to another slot that names it, or comes back.
use Rattle.std.proofs.Common.{rules, ◌≡◌, ℕ, slice_set, Option, Some, None, sym, subst, ◌∙◌, arith}
use Rattle.std.proofs.lemmas.List.{get_or_default}
use Rattle.cap_table.specs.Slots.{page_of}
use Rattle.cap_table.specs.Owning.{owner_at, IsOwned, NoOther, IsOther}
use Rattle.cap_table.proofs.OwnerLemmas.{back_last, owned_moved}
use Rattle.cap_table.proofs.table.disowned.Goals as goal

pub returns-in_default-clause-back : goal.returns-in_default-clause-back
returns-in_default-clause-back c =
    let had : c.index-held-slot.result ≡ Some c.in_ok-frame.frame = search rules in
    let owned : owner_at c.args.held.now c.args.slot ≡ Some c.in_ok-frame.frame =
    get_or_default c.args.held.now c.args.slot None c.index-held-slot.result
    (omega (arith, c.requires.owned.places, c.requires.below)) ∙ (sym c.index-held-slot.is ∙ had) in
    back_last c.args.slots.now c.args.held.now c.requires.places c.requires.owned c.args.slot c.requires.below c.in_ok-frame.frame owned
    (subst (λ (n : ℕ). NoOther c.args.slots.now c.args.slot n) c.number.ensures.number c.in_default.ensures.other)

pub returns-clause-owned : goal.returns-clause-owned
returns-clause-owned c =
    let had : c.index-held-slot.result ≡ Some c.in_ok-frame.frame = search rules in
    let owned : owner_at c.args.held.now c.args.slot ≡ Some c.in_ok-frame.frame =
    get_or_default c.args.held.now c.args.slot None c.index-held-slot.result
    (omega (arith, c.requires.owned.places, c.requires.below)) ∙ (sym c.index-held-slot.is ∙ had) in
    subst (λ (o : Option ℕ). IsOwned page_of (slice_set c.args.slots.now c.args.slot None)
    (slice_set (slice_set c.args.held.now c.args.slot o) c.in-Some.other (Some c.in_ok-frame.frame)))
    (sym c.take.ensures.after)
    (owned_moved c.args.slots.now c.args.held.now c.requires.places c.requires.owned c.args.slot
    c.requires.below c.in_ok-frame.frame c.in-Some.other owned
    (subst (λ (n : ℕ). IsOther c.args.slots.now c.args.slot n (Some c.in-Some.other)) c.number.ensures.number c.in-Some.ensures.other))
