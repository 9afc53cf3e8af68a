use Rattle.std.proofs.Common.{◌≡◌, ◌≤◌, ◌∙◌, ap, sym, subst}
use Rattle.image_record.specs.Models.{raw_model}
use Rattle.kernel_clone.specs.Permissions.{every_call}
use Rattle.pad_bound.specs.Bound.{IsShape}
use Rattle.pad_bound.specs.Models.{shape_model}
use Rattle.hardware_check.specs.Hardware.{hardware_of}
use Rattle.image_check.specs.Pads.{shape_for_every_call}
use Rattle.image_check.specs.Public.{Public, public_of}
use Rattle.image_check.proofs.Padded.{shape_law}
use Rattle.image_check.proofs.unpadded.Unpadded.shape.Goals as goal

pub shape_for_every_call-requires : goal.shape_for_every_call-requires
unfolding public_of
shape_for_every_call-requires c =
    let i = raw_model c.self.inside.raw in
    let least = (shape_law i every_call c.self.invariant.accepted).least_line in
    record { line = subst (λ (p : Public). 16 ≤ p.hardware.line) (sym c.self.invariant.public_is) least }

pub returns-clause-sound : goal.returns-clause-sound
unfolding public_of
returns-clause-sound c =
    let i = raw_model c.self.inside.raw in
    let same : shape_model c.shape_for_every_call.result ≡ shape_for_every_call (hardware_of i) =
    c.shape_for_every_call.ensures.value
    ∙ ap (λ (p : Public). shape_for_every_call p.hardware) c.self.invariant.public_is in
    subst IsShape (sym same) (shape_law i every_call c.self.invariant.accepted)
