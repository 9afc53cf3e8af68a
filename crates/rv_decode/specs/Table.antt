-- What each word means: a map from words to instructions.
use Rattle.std.specs.Prelude.{ℕ, Bool, Option, Some, None, option_map, if◌then◌else◌, nat_lt, ◌==◌, ◌&&◌, ◌||◌}
use Rattle.rv_decode.specs.Fields.{opcode_of, rd_of, funct3_of, rs1_of, rs2_of, funct7_of, csr_of, immediate_i_of, immediate_s_of, immediate_b_of, immediate_u_of, immediate_j_of}
use Rattle.rv_decode.specs.declared.Instr.{Instr}
use Rattle.rv_decode.specs.declared.Instr.TheVariants.{Lui, Auipc, Jal, Jalr, Branch, Load, Store, Immediate, Register, Multiply, Divide, Fence, Ecall, Ebreak, ReadCounter}
use Rattle.rv_decode.specs.declared.Comparison.{Comparison}
use Rattle.rv_decode.specs.declared.Comparison.TheVariants.{Equal, NotEqual, Less, GreaterOrEqual, LessUnsigned, GreaterOrEqualUnsigned}
use Rattle.rv_decode.specs.declared.LoadWidth.{LoadWidth}
use Rattle.rv_decode.specs.declared.LoadWidth.TheVariants.{Byte, Half, Word, ByteUnsigned, HalfUnsigned}
use Rattle.rv_decode.specs.declared.StoreWidth.{StoreWidth}
use Rattle.rv_decode.specs.declared.StoreWidth.TheVariants.{Byte as StoreByte, Half as StoreHalf, Word as StoreWord}
use Rattle.rv_decode.specs.declared.Operation.{Operation}
use Rattle.rv_decode.specs.declared.Operation.TheVariants.{Add, Subtract, ShiftLeft, SetLess, SetLessUnsigned, Xor, ShiftRight, ShiftRightArithmetic, Or, And}
use Rattle.rv_decode.specs.declared.Product.{Product}
use Rattle.rv_decode.specs.declared.Product.TheVariants.{Low, High, HighSignedUnsigned, HighUnsigned}
use Rattle.rv_decode.specs.declared.Division.{Division}
use Rattle.rv_decode.specs.declared.Division.TheVariants.{Quotient, QuotientUnsigned, Remainder, RemainderUnsigned}
use Rattle.rv_decode.specs.declared.Counter.{Counter}
use Rattle.rv_decode.specs.declared.Counter.TheVariants.{Cycle, Time, Instret, CycleHigh, TimeHigh, InstretHigh}

-- the condition of a branch
abbrev pub comparison_of : ℕ → Option Comparison
comparison_of funct3 =
    if funct3 == 0b000 then Some Equal else
    (if funct3 == 0b001 then Some NotEqual else
    (if funct3 == 0b100 then Some Less else
    (if funct3 == 0b101 then Some GreaterOrEqual else
    (if funct3 == 0b110 then Some LessUnsigned else
    (if funct3 == 0b111 then Some GreaterOrEqualUnsigned else None)))))

-- what a load reads
abbrev pub load_width_of : ℕ → Option LoadWidth
load_width_of funct3 =
    if funct3 == 0b000 then Some Byte else
    (if funct3 == 0b001 then Some Half else
    (if funct3 == 0b010 then Some Word else
    (if funct3 == 0b100 then Some ByteUnsigned else
    (if funct3 == 0b101 then Some HalfUnsigned else None))))

-- what a store writes
abbrev pub store_width_of : ℕ → Option StoreWidth
store_width_of funct3 =
    if funct3 == 0b000 then Some StoreByte else
    (if funct3 == 0b001 then Some StoreHalf else
    (if funct3 == 0b010 then Some StoreWord else None))

-- an operation on a register and an immediate; only shifts have a funct7
abbrev pub immediate_operation_of : ℕ → ℕ → Option Operation
immediate_operation_of funct3 funct7 =
    if funct3 == 0b000 then Some Add else
    (if funct3 == 0b001 then (if funct7 == 0b0000000 then Some ShiftLeft else None) else
    (if funct3 == 0b010 then Some SetLess else
    (if funct3 == 0b011 then Some SetLessUnsigned else
    (if funct3 == 0b100 then Some Xor else
    (if funct3 == 0b101 then (if funct7 == 0b0000000 then Some ShiftRight else (if funct7 == 0b0100000 then Some ShiftRightArithmetic else None)) else
    (if funct3 == 0b110 then Some Or else
    (if funct3 == 0b111 then Some And else None)))))))

-- an operation on two registers
abbrev pub register_operation_of : ℕ → ℕ → Option Operation
register_operation_of funct3 funct7 =
    if funct7 == 0b0000000 then
    (if funct3 == 0b000 then Some Add else
    (if funct3 == 0b001 then Some ShiftLeft else
    (if funct3 == 0b010 then Some SetLess else
    (if funct3 == 0b011 then Some SetLessUnsigned else
    (if funct3 == 0b100 then Some Xor else
    (if funct3 == 0b101 then Some ShiftRight else
    (if funct3 == 0b110 then Some Or else
    (if funct3 == 0b111 then Some And else None)))))))) else
    (if funct7 == 0b0100000 then
    (if funct3 == 0b000 then Some Subtract else
    (if funct3 == 0b101 then Some ShiftRightArithmetic else None)) else None)

-- MUL, MULH, MULHSU, MULHU
abbrev pub product_of : ℕ → Option Product
product_of funct3 =
    if funct3 == 0b000 then Some Low else
    (if funct3 == 0b001 then Some High else
    (if funct3 == 0b010 then Some HighSignedUnsigned else
    (if funct3 == 0b011 then Some HighUnsigned else None)))

-- DIV, DIVU, REM, REMU
abbrev pub division_of : ℕ → Option Division
division_of funct3 =
    if funct3 == 0b100 then Some Quotient else
    (if funct3 == 0b101 then Some QuotientUnsigned else
    (if funct3 == 0b110 then Some Remainder else
    (if funct3 == 0b111 then Some RemainderUnsigned else None)))

-- what the M extension adds to the operations on two registers
abbrev pub muldiv_of : ℕ → Option Instr
muldiv_of word =
    let funct3 = funct3_of word in
    if nat_lt funct3 0b100
    then option_map (λ product. Multiply product (rd_of word) (rs1_of word) (rs2_of word)) (product_of funct3)
    else option_map (λ division. Divide division (rd_of word) (rs1_of word) (rs2_of word))
    (division_of funct3)

-- an operation on two registers; the first argument says whether the machine has the M extension
abbrev pub register_form_of : Bool → ℕ → Option Instr
register_form_of muldiv word =
    let found = register_operation_of (funct3_of word) (funct7_of word) in
    if funct7_of word == 0b0000001 && muldiv then muldiv_of word
    else option_map (λ operation. Register operation (rd_of word) (rs1_of word) (rs2_of word)) found

-- the immediate of an operation: a shift's amount, else a signed number
abbrev pub operand_of : ℕ → ℕ → ℕ
operand_of funct3 word = if funct3 == 0b001 || funct3 == 0b101 then rs2_of word else immediate_i_of word

-- the counter of a register number
abbrev pub counter_of : ℕ → Option Counter
counter_of csr =
    if csr == 0xC00 then Some Cycle else
    (if csr == 0xC01 then Some Time else
    (if csr == 0xC02 then Some Instret else
    (if csr == 0xC80 then Some CycleHigh else
    (if csr == 0xC81 then Some TimeHigh else
    (if csr == 0xC82 then Some InstretHigh else None)))))

-- calls and breakpoints are one word each; a CSR instruction counts where it only reads a counter
abbrev pub system_of : ℕ → Option Instr
system_of word =
    let funct3 = funct3_of word in
    if funct3 == 0b000
    then (if word == 0x00000073 then Some Ecall else (if word == 0x00100073 then Some Ebreak else None))
    else
    (if (funct3 == 0b010 || funct3 == 0b011 || funct3 == 0b110 || funct3 == 0b111) && rs1_of word == 0
    then option_map (λ counter. ReadCounter counter (rd_of word)) (counter_of (csr_of word)) else None)

abbrev pub decode_of : Bool → ℕ → Option Instr
decode_of muldiv word =
    let opcode = opcode_of word in
    let rd = rd_of word in
    let funct3 = funct3_of word in
    let rs1 = rs1_of word in
    let rs2 = rs2_of word in
    let funct7 = funct7_of word in
    if opcode == 0b0110111 then Some (Lui rd (immediate_u_of word)) else
    (if opcode == 0b0010111 then Some (Auipc rd (immediate_u_of word)) else
    (if opcode == 0b1101111 then Some (Jal rd (immediate_j_of word)) else
    (if opcode == 0b1100111 then (if funct3 == 0b000 then Some (Jalr rd rs1 (immediate_i_of word)) else None) else
    (if opcode == 0b1100011 then option_map (λ comparison. Branch comparison rs1 rs2 (immediate_b_of word)) (comparison_of funct3) else
    (if opcode == 0b0000011 then option_map (λ width. Load width rd rs1 (immediate_i_of word)) (load_width_of funct3) else
    (if opcode == 0b0100011 then option_map (λ width. Store width rs1 rs2 (immediate_s_of word)) (store_width_of funct3) else
    (if opcode == 0b0010011 then option_map (λ operation. Immediate operation rd rs1 (operand_of funct3 word)) (immediate_operation_of funct3 funct7) else
    (if opcode == 0b0110011 then register_form_of muldiv word else
    (if opcode == 0b0001111 then (if funct3 == 0b000 then Some Fence else None) else
    (if opcode == 0b1110011 then system_of word else None))))))))))

-- what is left of an instruction that was found, on a machine without products and divisions
abbrev pub without_muldiv : Option Instr → Option Instr
without_muldiv (Some (Multiply product rd rs1 rs2)) = None
without_muldiv (Some (Divide division rd rs1 rs2)) = None
without_muldiv found = found
