use Rattle.std.proofs.Common.{ℕ, Some, None, sym, subst, arith}
use Rattle.image_record.specs.Record.{Raw}
use Rattle.image_check.specs.Image.{image_from}
use Rattle.hart_set.specs.Slots.{SlotEnds}
use Rattle.hart_set.specs.Models.{image_of}
use Rattle.hart_set.proofs.Called.{found_in, within}
use Rattle.hart_set.proofs.set.HartSet.run_slot.Goals as goal

pub index-requires : goal.index-requires
index-requires c =
    let there =
    within c.self.inside.image.now c.self.inside.state c.args.self.now c.self.view_is c.args.h
    c.from-at.result
    c.from-at.ensures c.requires.hart c.self.invariant in
    omega (arith, there)

pub finish-requires : goal.finish-requires
finish-requires c =
    let found =
    found_in c.self.inside.image.now c.self.inside.state c.args.self.now c.self.view_is c.args.h
    c.from-at.result
    c.from-at.ensures c.requires.hart c.requires.slots c.self.invariant c.index.result.now c.index.ensures
    (Some c.in-Some.slot) c.in-Some.is in
    record { hart = found.hart; inside = found.slot; slots = found.slots }

pub begin-requires : goal.begin-requires
begin-requires c =
    let found =
    found_in c.self.inside.image.now c.self.inside.state c.args.self.now c.self.view_is c.args.h
    c.from-at.result
    c.from-at.ensures c.requires.hart c.requires.slots c.self.invariant c.index.result.now c.index.ensures
    None c.in-None.is in
    record { hart = found.hart; between = found.slot; slots = found.slots }

pub returns-in-Some-begin-clause-ends : goal.returns-in-Some-begin-clause-ends
returns-in-Some-begin-clause-ends c =
    let v = c.args.self.now in
    let later = c.finish-in-Some-begin.new.self in
    let ends =
    subst (λ (image : Raw). SlotEnds (image_from image) c.from-at.result c.begin.new.self.1 later.1) c.begin.ensures.image
    c.finish-in-Some-begin.ensures.ends in
    subst (λ (n : ℕ). SlotEnds (image_of v) n v.1 later.1) c.from-at.ensures
    (c.in-Some-begin.ensures.rest later.1 (sym c.finish-in-Some-begin.ensures.off) ends)
