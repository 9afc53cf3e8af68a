use Rattle.std.proofs.Common.{◌≡◌, ℕ, refl, subst, arith}
use Rattle.std.specs.Prelude.{slice_index_or}
use Rattle.image_check.specs.Image.{Image}
use Rattle.hart_orders.specs.declared.hart.Hart.{Hart}
use Rattle.hart_set.proofs.Called.{called, for_hart, within}
use Rattle.hart_set.proofs.set.HartSet.slots.Goals as goal

pub index-requires : goal.index-requires
index-requires c =
    let there =
    within c.self.inside.image.now c.self.inside.state c.args.self.now c.self.view_is c.args.h c.from.result
    c.from.ensures c.requires.hart c.self.invariant in
    omega (arith, there)

pub returns : goal.returns
returns c =
    let t = c.self.inside.state in
    let x = c.index.result.now in
    let read = subst (λ (n : ℕ). x ≡ slice_index_or t.harts.items n x) c.from.ensures c.index.ensures in
    let k =
    called c.self.inside.image.now t c.args.self.now c.self.view_is c.args.h c.requires.hart
    c.self.invariant x read in
    record {
      value =
          for_hart c.self.inside.image.now t c.args.self.now c.self.view_is c.args.h x
          (λ (i : Image) (y : Hart). x.slots ≡ y.slots) k.got refl;
    }
