-- The addresses of loads and stores, and what goes between memory and registers.
use Rattle.std.specs.Prelude.{ℕ, ◌+◌, ◌%◌, ◌^◌, List, Option, Some, None, ◌==◌, if◌then◌else◌}
use Rattle.std.specs.Int.{w8, w16, w32, cast_signed, cast_unsigned}
use Rattle.rv_decode.specs.declared.Instr.{Instr}
use Rattle.rv_decode.specs.declared.Instr.TheVariants.{Load, Store}
use Rattle.rv_decode.specs.declared.LoadWidth.{LoadWidth}
use Rattle.rv_decode.specs.declared.LoadWidth.TheVariants.{Byte, Half, Word, ByteUnsigned, HalfUnsigned}
use Rattle.rv_decode.specs.declared.StoreWidth.{StoreWidth}
use Rattle.rv_decode.specs.declared.StoreWidth.TheVariants.{Byte as StoreByte, Half as StoreHalf, Word as StoreWord}
use Rattle.rv_core.specs.Registers.{register}
use Rattle.rv_core.specs.declared.exception.Exception.{Exception}
use Rattle.rv_core.specs.declared.exception.Exception.TheVariants.{LoadMisaligned, StoreMisaligned}
use Rattle.rv_core.specs.declared.Trap.{Trap}

-- LB, LH, LW, LBU, LHU: in bytes
abbrev pub load_size : LoadWidth → ℕ
load_size Byte = 1
load_size Half = 2
load_size Word = 4
load_size ByteUnsigned = 1
load_size HalfUnsigned = 2

-- SB, SH, SW: in bytes
abbrev pub store_size : StoreWidth → ℕ
store_size StoreByte = 1
store_size StoreHalf = 2
store_size StoreWord = 4

-- what a load puts into its register of what it found: LB and LH sign-extend, LBU and LHU leave zeros above
abbrev pub loaded_word : LoadWidth → ℕ → ℕ
loaded_word Byte loaded = cast_unsigned w32 (cast_signed w8 (loaded % 2 ^ 8))
loaded_word Half loaded = cast_unsigned w32 (cast_signed w16 (loaded % 2 ^ 16))
loaded_word Word loaded = loaded
loaded_word ByteUnsigned loaded = loaded % 2 ^ 8
loaded_word HalfUnsigned loaded = loaded % 2 ^ 16

-- what a store writes of its register
abbrev pub stored_word : StoreWidth → ℕ → ℕ
stored_word StoreByte word = word % 2 ^ 8
stored_word StoreHalf word = word % 2 ^ 16
stored_word StoreWord word = word

-- the sum of the word in rs1 and the offset
abbrev pub sum_of : List ℕ → ℕ → ℕ → ℕ
sum_of regs rs1 offset = (register regs rs1 + offset) % 2 ^ 32

-- that sum; for what is no load and no store, 0
abbrev pub address_of : List ℕ → Instr → ℕ
address_of regs (Load width rd rs1 offset) = sum_of regs rs1 offset
address_of regs (Store width rs1 rs2 offset) = sum_of regs rs1 offset
address_of regs _ = 0

-- a trap where the address is no multiple of the size
abbrev pub alignment_trap : ℕ → Exception → ℕ → Option Trap
alignment_trap size exception at =
    if at % size == 0 then None else Some (record { exception = exception; value = at })

abbrev pub misalignment_of : Instr → ℕ → Option Trap
misalignment_of (Load width rd rs1 offset) at = alignment_trap (load_size width) LoadMisaligned at
misalignment_of (Store width rs1 rs2 offset) at = alignment_trap (store_size width) StoreMisaligned at
misalignment_of _ at = None
