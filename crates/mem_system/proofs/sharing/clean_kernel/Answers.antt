-- No line of the kernel's colour is ever dirty.
use Rattle.mem_system.proofs.Clean.{cold_clean_law, stays_clean_law}
use Rattle.mem_system.proofs.sharing.clean_kernel.Goals as goal

pub returns : goal.returns
returns c = record { cold = cold_clean_law; touches = stays_clean_law }
