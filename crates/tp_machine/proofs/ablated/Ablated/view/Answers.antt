use Rattle.std.proofs.Common.{◌≡◌, Some, subst}
use Rattle.world_view.specs.View.{view_in, view_off}
use Rattle.domain_view.specs.Models.{view_model}
use Rattle.tp_machine.specs.Ablated.{Ablation, image_off, world_off}
use Rattle.tp_machine.proofs.OneHart.{seen}
use Rattle.tp_machine.proofs.ablated.Ablated.view.Goals as goal

pub returns : goal.returns
unfolding view_off
returns c =
    let m = c.self.inside in
    record {
      view =
          subst (λ (v : Ablation). view_model c.view.result ≡ view_in (image_off v) c.args.d (world_off v))
          c.self.view_is
          (seen (Some m.off) m.harts m.slots c.self.invariant c.args.d (view_model c.view.result) c.view.ensures.view);
    }
