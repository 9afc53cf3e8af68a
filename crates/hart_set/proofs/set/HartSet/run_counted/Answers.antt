use Rattle.std.proofs.Common.{◌≡◌, ◌+◌, ℕ, suc, None, refl, sym, subst, arith}
use Rattle.image_record.specs.Record.{Raw}
use Rattle.image_check.specs.Image.{image_from}
use Rattle.hart_set.specs.Slots.{SlotEndsIn}
use Rattle.hart_set.specs.Models.{image_of}
use Rattle.hart_set.proofs.Called.{found_in, within}
use Rattle.hart_set.proofs.set.HartSet.run_counted.Goals as goal

pub index-requires : goal.index-requires
index-requires c =
    let there =
    within c.self.inside.image.now c.self.inside.state c.args.self.now c.self.view_is c.args.h
    c.from-at.result
    c.from-at.ensures c.requires.hart c.self.invariant in
    omega (arith, there)

pub begin-requires : goal.begin-requires
begin-requires c =
    let found =
    found_in c.self.inside.image.now c.self.inside.state c.args.self.now c.self.view_is c.args.h
    c.from-at.result
    c.from-at.ensures c.requires.hart c.requires.slots c.self.invariant c.index.result.now c.index.ensures
    None c.in_default.is in
    record { hart = found.hart; between = found.slot; slots = found.slots }

pub returns-in-Some-clause-ends : goal.returns-in-Some-clause-ends
returns-in-Some-clause-ends c =
    let v = c.args.self.now in
    subst (λ (n : ℕ). SlotEndsIn (image_of v) n c.advance.result v.1 c.advance.new.self.1) c.from-at.ensures
    (c.advance.ensures.ends refl)

pub returns-in-Some-begin-clause-ends : goal.returns-in-Some-begin-clause-ends
returns-in-Some-begin-clause-ends c =
    let v = c.args.self.now in
    let later = c.advance-in-Some-begin.new.self in
    let events = c.advance-in-Some-begin.result in
    let ends =
    subst (λ (image : Raw). SlotEndsIn (image_from image) c.from-at.result events c.begin.new.self.1 later.1)
    c.begin.ensures.image (c.advance-in-Some-begin.ensures.ends refl) in
    let counted = c.in-Some-begin.ensures.counted later.1 events (sym c.advance-in-Some-begin.ensures.off) ends in
    let one_more : suc events ≡ 1 + events = omega arith in
    subst (λ (k : ℕ). SlotEndsIn (image_of v) c.args.h k v.1 later.1) one_more
    (subst (λ (n : ℕ). SlotEndsIn (image_of v) n (suc events) v.1 later.1) c.from-at.ensures counted)

pub returns-in-None-clause-ends : goal.returns-in-None-clause-ends
returns-in-None-clause-ends c =
    let v = c.args.self.now in
    subst (λ (n : ℕ). SlotEndsIn (image_of v) n 1 v.1 c.begin.new.self.1) c.from-at.ensures
    (c.begin.ensures.over c.in-None.is)
