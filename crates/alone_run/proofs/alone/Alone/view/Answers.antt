use Rattle.std.proofs.Common.{◌≡◌, ◌∙◌, subst₂}
use Rattle.kernel_call.proofs.Logs.{kept_of}
use Rattle.hardware_check.specs.Models.{hardware_model}
use Rattle.image_check.specs.Public.{Public}
use Rattle.image_check.specs.Own.{Own}
use Rattle.image_check.specs.Models.{public_model, own_model}
use Rattle.world_view.specs.View.{view_mailed, view_alone}
use Rattle.world_view.specs.Harts.{view_mailed_on, view_alone_on}
use Rattle.domain_view.specs.Models.{view_model}
use Rattle.domain_open.proofs.Seen.{pool_in_memory, view_is}
use Rattle.alone_run.specs.Runs.{public_for, alone_after}
use Rattle.alone_run.proofs.alone.Alone.view.Goals as goal

pub new-requires : goal.new-requires
new-requires c =
    let a = c.args.self.now in
    let s = alone_after (public_model a.public.now) (own_model a.own.now) a.number a.slots in
    record {
      in_memory =
          pool_in_memory (hardware_model a.public.now.hardware) (own_model a.own.now) a.domain
          a.stands.domain.has a.memory a.stands.machine.frames;
      readings = rw a.stands.domain.dom.readings (kept_of s.dom.readings);
      replies = rw a.stands.domain.dom.replies (kept_of s.dom.replies);
    }

seen : (c : goal.After-new) → view_model c.new.result
    ≡ view_alone (public_for (public_model c.args.self.now.public.now) c.args.self.now.number)
    (own_model c.args.self.now.own.now) c.args.self.now.number c.args.self.now.slots
unfolding view_mailed
seen c =
    let a = c.args.self.now in
    let s = alone_after (public_model a.public.now) (own_model a.own.now) a.number a.slots in
    c.new.ensures.view
    ∙ view_is (hardware_model a.public.now.hardware) (own_model a.own.now) a.domain a.stands.domain.has
    a.memory a.stands.machine.frames s.dom s.storage a.stands.domain.dom a.stands.machine.holds

pub returns-clause-view : goal.returns-clause-view
returns-clause-view c = seen c

pub returns-clause-image : goal.returns-clause-image
unfolding view_mailed_on
returns-clause-image c = λ i public own.
    let a = c.args.self.now in
    subst₂ (λ (p : Public) (o : Own). view_model c.new.result ≡ view_alone (public_for p a.number) o a.number a.slots) public own (seen c)
