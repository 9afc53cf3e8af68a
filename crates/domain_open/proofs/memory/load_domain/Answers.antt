use Rattle.std.proofs.Common.{◌∙◌, ap, subst₂}
use Rattle.phys_mem.specs.Holds.{Holds}
use Rattle.hardware_check.specs.Hardware.{Hardware}
use Rattle.hardware_check.specs.Models.{hardware_model}
use Rattle.image_check.specs.Own.{Own}
use Rattle.image_check.specs.Models.{own_model}
use Rattle.world_view.specs.Opening.{placed}
use Rattle.domain_open.proofs.Loading.{placed_elsewhere}
use Rattle.domain_open.proofs.Seen.{pool_is}
use Rattle.domain_open.proofs.memory.load_domain.Goals as goal

pub new-placement-requires-clause-is_pool : goal.new-placement-requires-clause-is_pool
new-placement-requires-clause-is_pool c =
    c.frames.ensures.frames ∙ pool_is (hardware_model c.args.hardware.now) (own_model c.args.own.now) c.args.domain.now c.requires.has

pub returns-clause-placed : goal.returns-clause-placed
returns-clause-placed c m h =
    subst₂ (λ (p : Hardware) (o : Own). Holds c.place_domain.new.memory (placed p o m))
    (ap hardware_model c.new-placement.ensures.hardware) (ap own_model c.new-placement.ensures.own)
    (c.place_domain.ensures.placed m h)

pub returns-clause-elsewhere : goal.returns-clause-elsewhere
returns-clause-elsewhere c m h =
    let p = hardware_model c.args.hardware.now in
    let o = own_model c.args.own.now in
    let now = returns-clause-placed c m h in
    placed_elsewhere p o c.args.memory.now c.place_domain.new.memory m c.requires.has_pool c.requires.size
    c.place_domain.ensures.frames h now
