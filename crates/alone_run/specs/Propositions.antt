-- That the code stands for a state in one way at most, which a ghost field asks of its fact.
use denote.Struct.Props.{props}
use Rattle.domain_step.specs.Propositions.{system_prop}
use Rattle.hardware_check.specs.Hardware.{Hardware}
use Rattle.image_check.specs.Own.{Own}
use Rattle.world_view.specs.Machine.{Local}
use Rattle.alone_run.specs.Standing.{Kept, StandsFor}

pub stands_prop : (p : Hardware) (o : Own) (s : Local) (k : Kept) → IsProp (StandsFor p o s k)
stands_prop p o s k = hlevel (props, system_prop)
