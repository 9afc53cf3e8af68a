-- The shared lines stand in the second level from the first prefetch on.
use Rattle.mem_system.proofs.Residency.{resident}
use Rattle.mem_system.proofs.Region.{region_is, has_room}
use Rattle.mem_system.proofs.sharing.residency.Goals as goal

pub returns-clause-resident : goal.returns-clause-resident
returns-clause-resident c = resident

pub returns-clause-region : goal.returns-clause-region
returns-clause-region c = λ h l is coloured line colours fits.
    (region_is h l is coloured line colours, has_room h l is coloured line colours fits)
