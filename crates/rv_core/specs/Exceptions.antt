-- The codes of exceptions: the privileged specification, "Machine Cause Register".
use Rattle.std.specs.Prelude.{ℕ}
use Rattle.rv_core.specs.declared.exception.Exception.{Exception}
use Rattle.rv_core.specs.declared.exception.Exception.TheVariants.{InstructionMisaligned, InstructionAccessFault, IllegalInstruction, Breakpoint, LoadMisaligned, LoadAccessFault, StoreMisaligned, StoreAccessFault, UserCall, InstructionPageFault, LoadPageFault, StorePageFault}

abbrev pub code_of : Exception → ℕ
code_of InstructionMisaligned = 0
code_of InstructionAccessFault = 1
code_of IllegalInstruction = 2
code_of Breakpoint = 3
code_of LoadMisaligned = 4
code_of LoadAccessFault = 5
code_of StoreMisaligned = 6
code_of StoreAccessFault = 7
code_of UserCall = 8
code_of InstructionPageFault = 12
code_of LoadPageFault = 13
code_of StorePageFault = 15
