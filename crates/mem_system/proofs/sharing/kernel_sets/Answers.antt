-- The sets of colour 0 keep shared lines alone, each in its way.
use Rattle.mem_system.proofs.KernelSets.{empty_law, shared_alone_law, prefetch_alone_law}
use Rattle.mem_system.proofs.KernelPlaces.{places_stay_law}
use Rattle.mem_system.proofs.sharing.kernel_sets.Goals as goal

pub returns : goal.returns
returns c = record { empty = empty_law; touches = shared_alone_law; prefetch = prefetch_alone_law; places = places_stay_law }
