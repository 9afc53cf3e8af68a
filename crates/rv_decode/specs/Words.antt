-- The manual's own table: which words an instruction has, field by field, and which bits of a word are the bits of its immediate.
use Rattle.std.specs.Prelude.{◌≡◌, ◌⊎◌, ℕ, Bool, true, ◌-◌, ◌*◌, ◌/◌, ◌^◌}
use Rattle.rv_decode.specs.Fields.{field, opcode_of, rd_of, funct3_of, rs1_of, rs2_of, funct7_of, csr_of}
use Rattle.rv_decode.specs.declared.Instr.{Instr}
use Rattle.rv_decode.specs.declared.Instr.TheVariants.{Lui, Auipc, Jal, Jalr, Branch, Load, Store, Immediate, Register, Multiply, Divide, Fence, Ecall, Ebreak, ReadCounter}
use Rattle.rv_decode.specs.declared.Comparison.{Comparison}
use Rattle.rv_decode.specs.declared.Comparison.TheVariants.{Equal, NotEqual, Less, GreaterOrEqual, LessUnsigned, GreaterOrEqualUnsigned}
use Rattle.rv_decode.specs.declared.LoadWidth.{LoadWidth}
use Rattle.rv_decode.specs.declared.LoadWidth.TheVariants.{Byte, Half, Word, ByteUnsigned, HalfUnsigned}
use Rattle.rv_decode.specs.declared.StoreWidth.{StoreWidth}
use Rattle.rv_decode.specs.declared.StoreWidth.TheVariants.{Byte as StoreByte, Half as StoreHalf, Word as StoreWord}
use Rattle.rv_decode.specs.declared.Operation.{Operation}
use Rattle.rv_decode.specs.declared.Operation.TheVariants.{Add, Subtract, ShiftLeft, SetLess, SetLessUnsigned, Xor, ShiftRight, ShiftRightArithmetic, Or, And}
use Rattle.rv_decode.specs.declared.Product.{Product}
use Rattle.rv_decode.specs.declared.Product.TheVariants.{Low, High, HighSignedUnsigned, HighUnsigned}
use Rattle.rv_decode.specs.declared.Division.{Division}
use Rattle.rv_decode.specs.declared.Division.TheVariants.{Quotient, QuotientUnsigned, Remainder, RemainderUnsigned}
use Rattle.rv_decode.specs.declared.Counter.{Counter}
use Rattle.rv_decode.specs.declared.Counter.TheVariants.{Cycle, Time, Instret, CycleHigh, TimeHigh, InstretHigh}

-- Each bit of an immediate from `low` up is bit 31 of the word.
abbrev pub IsSignFrom : ℕ → ℕ → ℕ → Type 0
IsSignFrom low imm word = imm / 2 ^ low ≡ field word 31 1 * (2 ^ (32 - low) - 1)

-- The immediates of the five formats: for each part of the immediate, the bits of the word that it is.
pub record IsImmediateI (imm word : ℕ) : Type 0 where
  pub sign : IsSignFrom 11 imm word
  pub low : field imm 0 11 ≡ field word 20 11

pub record IsImmediateS (imm word : ℕ) : Type 0 where
  pub sign : IsSignFrom 11 imm word
  pub high : field imm 5 6 ≡ field word 25 6
  pub low : field imm 0 5 ≡ field word 7 5

pub record IsImmediateB (imm word : ℕ) : Type 0 where
  pub sign : IsSignFrom 12 imm word
  pub bit_11 : field imm 11 1 ≡ field word 7 1
  pub high : field imm 5 6 ≡ field word 25 6
  pub low : field imm 1 4 ≡ field word 8 4
  pub even : field imm 0 1 ≡ 0

pub record IsImmediateU (imm word : ℕ) : Type 0 where
  pub high : imm / 2 ^ 12 ≡ field word 12 20
  pub low : field imm 0 12 ≡ 0

pub record IsImmediateJ (imm word : ℕ) : Type 0 where
  pub sign : IsSignFrom 20 imm word
  pub high : field imm 12 8 ≡ field word 12 8
  pub bit_11 : field imm 11 1 ≡ field word 20 1
  pub low : field imm 1 10 ≡ field word 21 10
  pub even : field imm 0 1 ≡ 0

-- the funct3 of a branch: BEQ, BNE, BLT, BGE, BLTU, BGEU
abbrev pub comparison_code : Comparison → ℕ
comparison_code Equal = 0b000
comparison_code NotEqual = 0b001
comparison_code Less = 0b100
comparison_code GreaterOrEqual = 0b101
comparison_code LessUnsigned = 0b110
comparison_code GreaterOrEqualUnsigned = 0b111

-- the funct3 of a load: LB, LH, LW, LBU, LHU
abbrev pub load_code : LoadWidth → ℕ
load_code Byte = 0b000
load_code Half = 0b001
load_code Word = 0b010
load_code ByteUnsigned = 0b100
load_code HalfUnsigned = 0b101

-- the funct3 of a store: SB, SH, SW
abbrev pub store_code : StoreWidth → ℕ
store_code StoreByte = 0b000
store_code StoreHalf = 0b001
store_code StoreWord = 0b010

-- the funct3 and the funct7 of an operation on two registers: ADD, SUB, SLL, SLT, SLTU, XOR, SRL, SRA, OR, AND
abbrev pub IsOperation : Operation → ℕ → Type 0
IsOperation Add word = (funct3_of word ≡ 0b000) × (funct7_of word ≡ 0b0000000)
IsOperation Subtract word = (funct3_of word ≡ 0b000) × (funct7_of word ≡ 0b0100000)
IsOperation ShiftLeft word = (funct3_of word ≡ 0b001) × (funct7_of word ≡ 0b0000000)
IsOperation SetLess word = (funct3_of word ≡ 0b010) × (funct7_of word ≡ 0b0000000)
IsOperation SetLessUnsigned word = (funct3_of word ≡ 0b011) × (funct7_of word ≡ 0b0000000)
IsOperation Xor word = (funct3_of word ≡ 0b100) × (funct7_of word ≡ 0b0000000)
IsOperation ShiftRight word = (funct3_of word ≡ 0b101) × (funct7_of word ≡ 0b0000000)
IsOperation ShiftRightArithmetic word = (funct3_of word ≡ 0b101) × (funct7_of word ≡ 0b0100000)
IsOperation Or word = (funct3_of word ≡ 0b110) × (funct7_of word ≡ 0b0000000)
IsOperation And word = (funct3_of word ≡ 0b111) × (funct7_of word ≡ 0b0000000)

-- the funct3 of a product: MUL, MULH, MULHSU, MULHU
abbrev pub product_code : Product → ℕ
product_code Low = 0b000
product_code High = 0b001
product_code HighSignedUnsigned = 0b010
product_code HighUnsigned = 0b011

-- the funct3 of a division: DIV, DIVU, REM, REMU
abbrev pub division_code : Division → ℕ
division_code Quotient = 0b100
division_code QuotientUnsigned = 0b101
division_code Remainder = 0b110
division_code RemainderUnsigned = 0b111

-- a word of the M extension, with its funct3, on a machine that has the extension
pub record IsMuldiv (muldiv : Bool) (funct3 word : ℕ) : Type 0 where
  pub has : muldiv ≡ true
  pub opcode : opcode_of word ≡ 0b0110011
  pub funct7 : funct7_of word ≡ 0b0000001
  pub code : funct3_of word ≡ funct3

-- the funct3 and the immediate of ADDI, SLLI, SLTI, SLTIU, XORI, SRLI, SRAI, ORI, ANDI; a shift has a funct7, and its amount where others have rs2
abbrev pub IsImmediateOperation : Operation → ℕ → ℕ → Type 0
IsImmediateOperation Add imm word = (funct3_of word ≡ 0b000) × IsImmediateI imm word
IsImmediateOperation Subtract imm word = ⊥
IsImmediateOperation ShiftLeft imm word =
    (funct3_of word ≡ 0b001) × (funct7_of word ≡ 0b0000000) × (rs2_of word ≡ imm)
IsImmediateOperation SetLess imm word = (funct3_of word ≡ 0b010) × IsImmediateI imm word
IsImmediateOperation SetLessUnsigned imm word = (funct3_of word ≡ 0b011) × IsImmediateI imm word
IsImmediateOperation Xor imm word = (funct3_of word ≡ 0b100) × IsImmediateI imm word
IsImmediateOperation ShiftRight imm word =
    (funct3_of word ≡ 0b101) × (funct7_of word ≡ 0b0000000) × (rs2_of word ≡ imm)
IsImmediateOperation ShiftRightArithmetic imm word =
    (funct3_of word ≡ 0b101) × (funct7_of word ≡ 0b0100000) × (rs2_of word ≡ imm)
IsImmediateOperation Or imm word = (funct3_of word ≡ 0b110) × IsImmediateI imm word
IsImmediateOperation And imm word = (funct3_of word ≡ 0b111) × IsImmediateI imm word

-- the number of a counter among the control and status registers
abbrev pub counter_number : Counter → ℕ
counter_number Cycle = 0xC00
counter_number Time = 0xC01
counter_number Instret = 0xC02
counter_number CycleHigh = 0xC80
counter_number TimeHigh = 0xC81
counter_number InstretHigh = 0xC82

-- CSRRS, CSRRC, CSRRSI, CSRRCI, which write nothing where their rs1 field is 0
abbrev pub IsCsrRead : ℕ → Type 0
IsCsrRead word = ((funct3_of word ≡ 0b010)
    ⊎ ((funct3_of word ≡ 0b011) ⊎ ((funct3_of word ≡ 0b110) ⊎ (funct3_of word ≡ 0b111))))
    × (rs1_of word ≡ 0)

-- the first argument says whether the machine has the M extension
abbrev pub IsWordOf : Bool → Instr → ℕ → Type 0
IsWordOf muldiv (Lui rd imm) word = (opcode_of word ≡ 0b0110111) × (rd_of word ≡ rd) × IsImmediateU imm word
IsWordOf muldiv (Auipc rd imm) word = (opcode_of word ≡ 0b0010111) × (rd_of word ≡ rd) × IsImmediateU imm word
IsWordOf muldiv (Jal rd offset) word =
    (opcode_of word ≡ 0b1101111) × (rd_of word ≡ rd) × IsImmediateJ offset word
IsWordOf muldiv (Jalr rd rs1 offset) word = (opcode_of word ≡ 0b1100111) × (funct3_of word ≡ 0b000)
    × (rd_of word ≡ rd) × (rs1_of word ≡ rs1) × IsImmediateI offset word
IsWordOf muldiv (Branch comparison rs1 rs2 offset) word = (opcode_of word ≡ 0b1100011)
    × (funct3_of word ≡ comparison_code comparison) × (rs1_of word ≡ rs1) × (rs2_of word ≡ rs2)
    × IsImmediateB offset word
IsWordOf muldiv (Load width rd rs1 offset) word = (opcode_of word ≡ 0b0000011)
    × (funct3_of word ≡ load_code width) × (rd_of word ≡ rd) × (rs1_of word ≡ rs1) × IsImmediateI offset word
IsWordOf muldiv (Store width rs1 rs2 offset) word = (opcode_of word ≡ 0b0100011)
    × (funct3_of word ≡ store_code width) × (rs1_of word ≡ rs1) × (rs2_of word ≡ rs2)
    × IsImmediateS offset word
IsWordOf muldiv (Immediate operation rd rs1 imm) word = (opcode_of word ≡ 0b0010011)
    × IsImmediateOperation operation imm word × (rd_of word ≡ rd) × (rs1_of word ≡ rs1)
IsWordOf muldiv (Register operation rd rs1 rs2) word = (opcode_of word ≡ 0b0110011)
    × IsOperation operation word × (rd_of word ≡ rd) × (rs1_of word ≡ rs1) × (rs2_of word ≡ rs2)
IsWordOf muldiv (Multiply product rd rs1 rs2) word = IsMuldiv muldiv (product_code product) word
    × (rd_of word ≡ rd) × (rs1_of word ≡ rs1) × (rs2_of word ≡ rs2)
IsWordOf muldiv (Divide division rd rs1 rs2) word = IsMuldiv muldiv (division_code division) word
    × (rd_of word ≡ rd) × (rs1_of word ≡ rs1) × (rs2_of word ≡ rs2)
IsWordOf muldiv Fence word = (opcode_of word ≡ 0b0001111) × (funct3_of word ≡ 0b000)
IsWordOf muldiv Ecall word = word ≡ 0x00000073
IsWordOf muldiv Ebreak word = word ≡ 0x00100073
IsWordOf muldiv (ReadCounter counter rd) word =
    (opcode_of word ≡ 0b1110011) × IsCsrRead word × (csr_of word ≡ counter_number counter) × (rd_of word ≡ rd)
