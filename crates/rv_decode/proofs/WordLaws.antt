-- Each word that the manual's table gives an instruction decodes to it.
use Rattle.std.proofs.Common.{◌≡◌, ℕ, ◌<◌, ◌^◌, Bool, Some, refl, inl, inr}
use Rattle.std.specs.Prelude.{option_map}
use Rattle.rv_decode.specs.Fields.{rd_of, funct3_of, rs1_of, rs2_of, funct7_of, csr_of}
use Rattle.rv_decode.specs.Table.{comparison_of, load_width_of, store_width_of, immediate_operation_of, muldiv_of, register_form_of, operand_of, counter_of, system_of, decode_of}
use Rattle.rv_decode.specs.Words.{comparison_code, load_code, store_code, product_code, division_code, counter_number, IsOperation, IsImmediateOperation, IsCsrRead, IsWordOf}
use Rattle.rv_decode.proofs.Immediates.{immediate_i_of-word, immediate_s_of-word, immediate_b_of-word, immediate_u_of-word, immediate_j_of-word}
use Rattle.rv_decode.specs.declared.Instr.{Instr}
use Rattle.rv_decode.specs.declared.Instr.TheVariants.{Lui, Auipc, Jal, Jalr, Branch, Load, Store, Immediate, Register, Multiply, Divide, Fence, Ecall, Ebreak, ReadCounter}
use Rattle.rv_decode.specs.declared.Comparison.{Comparison}
use Rattle.rv_decode.specs.declared.Comparison.TheVariants.{Equal, NotEqual, Less, GreaterOrEqual, LessUnsigned, GreaterOrEqualUnsigned}
use Rattle.rv_decode.specs.declared.LoadWidth.{LoadWidth}
use Rattle.rv_decode.specs.declared.LoadWidth.TheVariants.{Byte, Half, Word, ByteUnsigned, HalfUnsigned}
use Rattle.rv_decode.specs.declared.StoreWidth.{StoreWidth}
use Rattle.rv_decode.specs.declared.StoreWidth.TheVariants.{Byte as StoreByte, Half as StoreHalf, Word as StoreWord}
use Rattle.rv_decode.specs.declared.Operation.{Operation}
use Rattle.rv_decode.specs.declared.Operation.TheVariants.{Add, Subtract, ShiftLeft, SetLess, SetLessUnsigned, Xor, ShiftRight, ShiftRightArithmetic, Or, And}
use Rattle.rv_decode.specs.declared.Product.{Product}
use Rattle.rv_decode.specs.declared.Product.TheVariants.{Low, High, HighSignedUnsigned, HighUnsigned}
use Rattle.rv_decode.specs.declared.Division.{Division}
use Rattle.rv_decode.specs.declared.Division.TheVariants.{Quotient, QuotientUnsigned, Remainder, RemainderUnsigned}
use Rattle.rv_decode.specs.declared.Counter.{Counter}
use Rattle.rv_decode.specs.declared.Counter.TheVariants.{Cycle, Time, Instret, CycleHigh, TimeHigh, InstretHigh}

comparison_of-code : (comparison : Comparison) → comparison_of (comparison_code comparison) ≡ Some comparison
comparison_of-code Equal = refl
comparison_of-code NotEqual = refl
comparison_of-code Less = refl
comparison_of-code GreaterOrEqual = refl
comparison_of-code LessUnsigned = refl
comparison_of-code GreaterOrEqualUnsigned = refl

load_width_of-code : (width : LoadWidth) → load_width_of (load_code width) ≡ Some width
load_width_of-code Byte = refl
load_width_of-code Half = refl
load_width_of-code Word = refl
load_width_of-code ByteUnsigned = refl
load_width_of-code HalfUnsigned = refl

store_width_of-code : (width : StoreWidth) → store_width_of (store_code width) ≡ Some width
store_width_of-code StoreByte = refl
store_width_of-code StoreHalf = refl
store_width_of-code StoreWord = refl

counter_of-number : (counter : Counter) → counter_of (counter_number counter) ≡ Some counter
counter_of-number Cycle = refl
counter_of-number Time = refl
counter_of-number Instret = refl
counter_of-number CycleHigh = refl
counter_of-number TimeHigh = refl
counter_of-number InstretHigh = refl

-- of an operation on two registers, on every machine
register-word : (muldiv : Bool) (operation : Operation) (rd rs1 rs2 word : ℕ) → IsOperation operation word
    → rd_of word ≡ rd → rs1_of word ≡ rs1 → rs2_of word ≡ rs2
    → register_form_of muldiv word ≡ Some (Register operation rd rs1 rs2)
register-word muldiv Add rd rs1 rs2 word h r s t = rw (h.0, h.1, r, s, t)
register-word muldiv Subtract rd rs1 rs2 word h r s t = rw (h.0, h.1, r, s, t)
register-word muldiv ShiftLeft rd rs1 rs2 word h r s t = rw (h.0, h.1, r, s, t)
register-word muldiv SetLess rd rs1 rs2 word h r s t = rw (h.0, h.1, r, s, t)
register-word muldiv SetLessUnsigned rd rs1 rs2 word h r s t = rw (h.0, h.1, r, s, t)
register-word muldiv Xor rd rs1 rs2 word h r s t = rw (h.0, h.1, r, s, t)
register-word muldiv ShiftRight rd rs1 rs2 word h r s t = rw (h.0, h.1, r, s, t)
register-word muldiv ShiftRightArithmetic rd rs1 rs2 word h r s t = rw (h.0, h.1, r, s, t)
register-word muldiv Or rd rs1 rs2 word h r s t = rw (h.0, h.1, r, s, t)
register-word muldiv And rd rs1 rs2 word h r s t = rw (h.0, h.1, r, s, t)

product-word : (product : Product) (rd rs1 rs2 word : ℕ) → funct3_of word ≡ product_code product
    → rd_of word ≡ rd → rs1_of word ≡ rs1 → rs2_of word ≡ rs2
    → muldiv_of word ≡ Some (Multiply product rd rs1 rs2)
product-word Low rd rs1 rs2 word f r s t = rw (f, r, s, t)
product-word High rd rs1 rs2 word f r s t = rw (f, r, s, t)
product-word HighSignedUnsigned rd rs1 rs2 word f r s t = rw (f, r, s, t)
product-word HighUnsigned rd rs1 rs2 word f r s t = rw (f, r, s, t)

division-word : (division : Division) (rd rs1 rs2 word : ℕ) → funct3_of word ≡ division_code division
    → rd_of word ≡ rd → rs1_of word ≡ rs1 → rs2_of word ≡ rs2
    → muldiv_of word ≡ Some (Divide division rd rs1 rs2)
division-word Quotient rd rs1 rs2 word f r s t = rw (f, r, s, t)
division-word QuotientUnsigned rd rs1 rs2 word f r s t = rw (f, r, s, t)
division-word Remainder rd rs1 rs2 word f r s t = rw (f, r, s, t)
division-word RemainderUnsigned rd rs1 rs2 word f r s t = rw (f, r, s, t)

-- of an operation on a register and an immediate
immediate-word : (operation : Operation) (rd rs1 imm word : ℕ) → word < 2 ^ 32
    → IsImmediateOperation operation imm word
    → option_map (λ o. Immediate o rd rs1 (operand_of (funct3_of word) word))
    (immediate_operation_of (funct3_of word) (funct7_of word)) ≡ Some (Immediate operation rd rs1 imm)
immediate-word Add rd rs1 imm word fits h = rw (h.0, immediate_i_of-word imm word fits h.1)
immediate-word Subtract rd rs1 imm word fits h = absurd h
immediate-word ShiftLeft rd rs1 imm word fits h = rw (h.0, h.1, h.2)
immediate-word SetLess rd rs1 imm word fits h = rw (h.0, immediate_i_of-word imm word fits h.1)
immediate-word SetLessUnsigned rd rs1 imm word fits h = rw (h.0, immediate_i_of-word imm word fits h.1)
immediate-word Xor rd rs1 imm word fits h = rw (h.0, immediate_i_of-word imm word fits h.1)
immediate-word ShiftRight rd rs1 imm word fits h = rw (h.0, h.1, h.2)
immediate-word ShiftRightArithmetic rd rs1 imm word fits h = rw (h.0, h.1, h.2)
immediate-word Or rd rs1 imm word fits h = rw (h.0, immediate_i_of-word imm word fits h.1)
immediate-word And rd rs1 imm word fits h = rw (h.0, immediate_i_of-word imm word fits h.1)

system_of-word : (counter : Counter) (rd word : ℕ) → IsCsrRead word → csr_of word ≡ counter_number counter
    → rd_of word ≡ rd → system_of word ≡ Some (ReadCounter counter rd)
system_of-word counter rd word (inl f, z) n r = rw (f, z, n, counter_of-number counter, r)
system_of-word counter rd word (inr (inl f), z) n r = rw (f, z, n, counter_of-number counter, r)
system_of-word counter rd word (inr (inr (inl f)), z) n r = rw (f, z, n, counter_of-number counter, r)
system_of-word counter rd word (inr (inr (inr f)), z) n r = rw (f, z, n, counter_of-number counter, r)

pub decode_of-word : (muldiv : Bool) (instr : Instr) (word : ℕ) → word < 2 ^ 32
    → IsWordOf muldiv instr word → decode_of muldiv word ≡ Some instr
decode_of-word muldiv (Lui rd imm) word fits h = rw (h.0, h.1, immediate_u_of-word imm word fits h.2)
decode_of-word muldiv (Auipc rd imm) word fits h = rw (h.0, h.1, immediate_u_of-word imm word fits h.2)
decode_of-word muldiv (Jal rd offset) word fits h = rw (h.0, h.1, immediate_j_of-word offset word fits h.2)
decode_of-word muldiv (Jalr rd rs1 offset) word fits h = rw (h.0, h.1, h.2, h.3, immediate_i_of-word offset word fits h.4)
decode_of-word muldiv (Branch comparison rs1 rs2 offset) word fits h =
    rw (h.0, h.1, comparison_of-code comparison, h.2, h.3, immediate_b_of-word offset word fits h.4)
decode_of-word muldiv (Load width rd rs1 offset) word fits h =
    rw (h.0, h.1, load_width_of-code width, h.2, h.3, immediate_i_of-word offset word fits h.4)
decode_of-word muldiv (Store width rs1 rs2 offset) word fits h =
    rw (h.0, h.1, store_width_of-code width, h.2, h.3, immediate_s_of-word offset word fits h.4)
decode_of-word muldiv (Immediate operation rd rs1 imm) word fits h = rw (h.0, h.2, h.3) (immediate-word operation rd rs1 imm word fits h.1)
decode_of-word muldiv (Register operation rd rs1 rs2) word fits h =
    rw h.0 (register-word muldiv operation rd rs1 rs2 word h.1 h.2 h.3 h.4)
decode_of-word muldiv (Multiply product rd rs1 rs2) word fits h =
    let m = h.0 in
    rw (m.has, m.opcode, m.funct7) (product-word product rd rs1 rs2 word m.code h.1 h.2 h.3)
decode_of-word muldiv (Divide division rd rs1 rs2) word fits h =
    let m = h.0 in
    rw (m.has, m.opcode, m.funct7) (division-word division rd rs1 rs2 word m.code h.1 h.2 h.3)
decode_of-word muldiv Fence word fits h = rw (h.0, h.1)
decode_of-word muldiv Ecall word fits h = rw h
decode_of-word muldiv Ebreak word fits h = rw h
decode_of-word muldiv (ReadCounter counter rd) word fits h = rw h.0 (system_of-word counter rd word h.1 h.2 h.3)
