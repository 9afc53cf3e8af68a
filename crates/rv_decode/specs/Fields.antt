-- The fields of an instruction word, by arithmetic.
use Rattle.std.specs.Prelude.{ℕ, ◌+◌, ◌-◌, ◌*◌, ◌/◌, ◌%◌, ◌^◌, nat_lt, if◌then◌else◌}

-- so many bits of a number, from bit `low` on
abbrev pub field : ℕ → ℕ → ℕ → ℕ
field n low width = n / 2 ^ low % 2 ^ width

abbrev pub opcode_of : ℕ → ℕ
opcode_of word = field word 0 7

abbrev pub rd_of : ℕ → ℕ
rd_of word = field word 7 5

abbrev pub funct3_of : ℕ → ℕ
funct3_of word = field word 12 3

abbrev pub rs1_of : ℕ → ℕ
rs1_of word = field word 15 5

-- in a shift by an immediate, its amount
abbrev pub rs2_of : ℕ → ℕ
rs2_of word = field word 20 5

abbrev pub funct7_of : ℕ → ℕ
funct7_of word = field word 25 7

-- the number of a control and status register
abbrev pub csr_of : ℕ → ℕ
csr_of word = field word 20 12

-- a number of `width` bits in two's complement, as a word of 32 bits
abbrev pub sign_extended : ℕ → ℕ → ℕ
sign_extended width n = if nat_lt n (2 ^ (width - 1)) then n else n + (2 ^ 32 - 2 ^ width)

-- the immediates of the five formats that have one
abbrev pub immediate_i_of : ℕ → ℕ
immediate_i_of word = sign_extended 12 (field word 20 12)

abbrev pub immediate_s_of : ℕ → ℕ
immediate_s_of word = sign_extended 12 (field word 25 7 * 2 ^ 5 + field word 7 5)

abbrev pub immediate_b_of : ℕ → ℕ
immediate_b_of word =
    sign_extended 13
    (field word 31 1 * 2 ^ 12 + field word 7 1 * 2 ^ 11 + field word 25 6 * 2 ^ 5 + field word 8 4 * 2)

abbrev pub immediate_u_of : ℕ → ℕ
immediate_u_of word = field word 12 20 * 2 ^ 12

abbrev pub immediate_j_of : ℕ → ℕ
immediate_j_of word =
    sign_extended 21
    (field word 31 1 * 2 ^ 20 + field word 12 8 * 2 ^ 12 + field word 20 1 * 2 ^ 11 + field word 21 10 * 2)
