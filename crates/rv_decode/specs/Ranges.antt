-- The ranges of what an instruction names.
use Rattle.std.specs.Prelude.{◌≡◌, ℕ, ◌+◌, ◌-◌, ◌%◌, ◌^◌, ◌<◌}
use Rattle.rv_decode.specs.declared.Instr.{Instr}
use Rattle.rv_decode.specs.declared.Instr.TheVariants.{Lui, Auipc, Jal, Jalr, Branch, Load, Store, Immediate, Register, Multiply, Divide, Fence, Ecall, Ebreak, ReadCounter}
use Rattle.rv_decode.specs.declared.Operation.{Operation}
use Rattle.rv_decode.specs.declared.Operation.TheVariants.{Subtract, ShiftLeft, ShiftRight, ShiftRightArithmetic}

-- each register is one of x0 to x31
abbrev pub HasRegisters : Instr → Type 0
HasRegisters (Lui rd imm) = rd < 32
HasRegisters (Auipc rd imm) = rd < 32
HasRegisters (Jal rd offset) = rd < 32
HasRegisters (Jalr rd rs1 offset) = (rd < 32) × (rs1 < 32)
HasRegisters (Branch comparison rs1 rs2 offset) = (rs1 < 32) × (rs2 < 32)
HasRegisters (Load width rd rs1 offset) = (rd < 32) × (rs1 < 32)
HasRegisters (Store width rs1 rs2 offset) = (rs1 < 32) × (rs2 < 32)
HasRegisters (Immediate operation rd rs1 imm) = (rd < 32) × (rs1 < 32)
HasRegisters (Register operation rd rs1 rs2) = (rd < 32) × (rs1 < 32) × (rs2 < 32)
HasRegisters (Multiply product rd rs1 rs2) = (rd < 32) × (rs1 < 32) × (rs2 < 32)
HasRegisters (Divide division rd rs1 rs2) = (rd < 32) × (rs1 < 32) × (rs2 < 32)
HasRegisters Fence = Unit {0}
HasRegisters Ecall = Unit {0}
HasRegisters Ebreak = Unit {0}
HasRegisters (ReadCounter counter rd) = rd < 32

-- the word is a number from -2^(bits - 1) to 2^(bits - 1) - 1
abbrev pub IsSigned : ℕ → ℕ → Type 0
IsSigned bits n = (n + 2 ^ (bits - 1)) % 2 ^ 32 < 2 ^ bits

abbrev pub IsOperand : Operation → ℕ → Type 0
IsOperand ShiftLeft imm = imm < 32
IsOperand ShiftRight imm = imm < 32
IsOperand ShiftRightArithmetic imm = imm < 32
IsOperand Subtract imm = ⊥
IsOperand _ imm = IsSigned 12 imm

abbrev pub HasImmediates : Instr → Type 0
HasImmediates (Lui rd imm) = imm % 2 ^ 12 ≡ 0
HasImmediates (Auipc rd imm) = imm % 2 ^ 12 ≡ 0
HasImmediates (Jal rd offset) = IsSigned 21 offset × (offset % 2 ≡ 0)
HasImmediates (Jalr rd rs1 offset) = IsSigned 12 offset
HasImmediates (Branch comparison rs1 rs2 offset) = IsSigned 13 offset × (offset % 2 ≡ 0)
HasImmediates (Load width rd rs1 offset) = IsSigned 12 offset
HasImmediates (Store width rs1 rs2 offset) = IsSigned 12 offset
HasImmediates (Immediate operation rd rs1 imm) = IsOperand operation imm
HasImmediates (Register operation rd rs1 rs2) = Unit {0}
HasImmediates (Multiply product rd rs1 rs2) = Unit {0}
HasImmediates (Divide division rd rs1 rs2) = Unit {0}
HasImmediates Fence = Unit {0}
HasImmediates Ecall = Unit {0}
HasImmediates Ebreak = Unit {0}
HasImmediates (ReadCounter counter rd) = Unit {0}
