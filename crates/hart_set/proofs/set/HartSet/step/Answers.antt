use Rattle.std.proofs.Common.{ℕ, Some, None, refl, subst, arith}
use Rattle.hart_set.specs.Models.{image_of}
use Rattle.hart_set.specs.Slots.{NextStands}
use Rattle.hart_set.proofs.Called.{found_in, within}
use Rattle.hart_set.proofs.set.HartSet.step.Goals as goal

pub index-requires : goal.index-requires
index-requires c =
    let there =
    within c.self.inside.image.now c.self.inside.state c.args.self.now c.self.view_is c.args.h
    c.from-at.result
    c.from-at.ensures c.requires.hart c.self.invariant in
    omega (arith, there)

pub advance-requires : goal.advance-requires
advance-requires c =
    let found =
    found_in c.self.inside.image.now c.self.inside.state c.args.self.now c.self.view_is c.args.h
    c.from-at.result
    c.from-at.ensures c.requires.hart c.requires.slots c.self.invariant c.index.result.now c.index.ensures
    (Some c.in-Some.slot) c.in-Some.is in
    record { hart = found.hart; inside = found.slot; slots = found.slots; moments = c.requires.moments }

pub begin-requires : goal.begin-requires
begin-requires c =
    let found =
    found_in c.self.inside.image.now c.self.inside.state c.args.self.now c.self.view_is c.args.h
    c.from-at.result
    c.from-at.ensures c.requires.hart c.requires.slots c.self.invariant c.index.result.now c.index.ensures
    None c.in-None.is in
    record { hart = found.hart; between = found.slot; slots = found.slots }

pub returns-in-Some : goal.returns-in-Some
returns-in-Some c =
    let v = c.args.self.now in
    record {
      image = c.advance.ensures.image;
      off = c.advance.ensures.off;
      next =
          subst (λ (n : ℕ). NextStands (image_of v) n v.1 c.advance.new.self.1) c.from-at.ensures
          (c.advance.ensures.next refl);
    }

pub returns-in-None : goal.returns-in-None
returns-in-None c =
    let v = c.args.self.now in
    record {
      image = c.begin.ensures.image;
      off = c.begin.ensures.off;
      next =
          subst (λ (n : ℕ). NextStands (image_of v) n v.1 c.begin.new.self.1) c.from-at.ensures
          c.begin.ensures.next;
    }
