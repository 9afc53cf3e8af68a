use Rattle.std.proofs.Common.{◌≡◌, ◌∙◌, ℕ, Option, Some, IfSome, sym, ap, subst}
use Rattle.kernel_clone.specs.Models.{layout_model}
use Rattle.image_check.specs.Image.{Image, image_from}
use Rattle.world_view.specs.Machine.{guards_of, clone_by}
use Rattle.world_view.specs.Relations.{IsDomain}
use Rattle.hart_set.specs.declared.set.State.{State}
use Rattle.hart_set.proofs.Called.{of_image, to_value, domain_read}
use Rattle.hart_set.proofs.set.HartSet.clone_of.Goals as goal

pub returns : goal.returns
returns c =
    let i = image_from c.self.inside.image.now in
    let t = c.self.inside.state in
    let d = c.in_ok-d.d in
    let named =
    subst (λ (o : Option ℕ). IfSome o (IsDomain i)) c.in_ok-d.was
    (of_image c.self.inside.image.now t c.args.self.now c.self.view_is
    (λ (j : Image). IfSome c.args.leaving (IsDomain j)) c.requires.there) in
    let got = domain_read i t c.self.invariant d named c.from.result c.index.result.now c.from.ensures c.index.ensures in
    record {
      clone =
          to_value c.self.inside.image.now t c.args.self.now c.self.view_is
          (λ (j : Image) (u : State). Some (layout_model c.index.result.now.layout) ≡ clone_by (guards_of u.off j) c.args.leaving)
          (ap Some (c.self.invariant.stands.each_domain d c.index.result.now got).layout
          ∙ ap (clone_by (guards_of t.off i)) (sym c.in_ok-d.was));
    }
