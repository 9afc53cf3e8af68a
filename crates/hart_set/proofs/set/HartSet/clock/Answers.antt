use Rattle.std.proofs.Common.{◌≡◌, ℕ, ◌^◌, ◌<◌, None, refl, subst, arith}
use Rattle.std.specs.Prelude.{slice_index_or}
use Rattle.image_check.specs.Image.{Image, image_from}
use Rattle.hart_orders.specs.declared.hart.Hart.{Hart}
use Rattle.hart_set.proofs.Called.{Called, called, for_hart, to_value, within}
use Rattle.hart_set.specs.declared.set.State.{State}
use Rattle.hart_set.proofs.Seen.{clock_soon}
use Rattle.hart_set.proofs.set.HartSet.clock.Goals as goal

pub index-requires : goal.index-requires
index-requires c =
    let there =
    within c.self.inside.image.now c.self.inside.state c.args.self.now c.self.view_is c.args.h c.from.result
    c.from.ensures c.requires.hart c.self.invariant in
    omega (arith, there)

call : (c : goal.After-index)
    → Called (image_from c.self.inside.image.now) c.self.inside.state c.args.h c.index.result.now
call c =
    let t = c.self.inside.state in
    let x = c.index.result.now in
    let read = subst (λ (n : ℕ). x ≡ slice_index_or t.harts.items n x) c.from.ensures c.index.ensures in
    called c.self.inside.image.now t c.args.self.now c.self.view_is c.args.h c.requires.hart
    c.self.invariant x read

pub returns-clause-value : goal.returns-clause-value
returns-clause-value c =
    let x = c.index.result.now in
    for_hart c.self.inside.image.now c.self.inside.state c.args.self.now c.self.view_is c.args.h x
    (λ (i : Image) (y : Hart). x.clock ≡ y.clock) (call c).got refl

pub returns-clause-soon : goal.returns-clause-soon
returns-clause-soon c =
    to_value c.self.inside.image.now c.self.inside.state c.args.self.now c.self.view_is
    (λ (i : Image) (t : State). t.off ≡ None → c.index.result.now.clock < 2 ^ 61)
    (λ all. clock_soon (image_from c.self.inside.image.now) c.self.inside.state c.self.invariant c.args.h c.index.result.now
    (call c).below (call c).got all)
