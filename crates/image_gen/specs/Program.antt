-- The program of a domain: 64 instructions, each chosen by a word, taken again and again.
use Rattle.std.specs.Prelude.{ℕ, ◌+◌, ◌-◌, ◌*◌, ◌/◌, ◌%◌, ◌^◌, ◌==◌, if◌then◌else◌, List, [], ◌∷◌, ◌++◌, map}
use Rattle.std.specs.Int.{to_le_bytes, w32}
use Rattle.std.specs.List.{flat_map, range_with_len}
use Rattle.rand_pcg.specs.Lcg.{Lcg}
use Rattle.seed_words.specs.Words.{word}

-- an instruction by its fields: the opcode, rd, funct3, rs1, and the twelve bits above them
abbrev pub encoded : ℕ → ℕ → ℕ → ℕ → ℕ → ℕ
encoded opcode rd funct3 rs1 high = opcode + rd * 2 ^ 7 + funct3 * 2 ^ 12 + rs1 * 2 ^ 15 + high * 2 ^ 20

-- two of the registers x6 to x13, a number below 2,048, and the multiple of four that it is at least
abbrev pub first_register : ℕ → ℕ
first_register w = 6 + w / 8 % 8

abbrev pub second_register : ℕ → ℕ
second_register w = 6 + w / 64 % 8

abbrev pub number : ℕ → ℕ
number w = w / 512 % 2048

abbrev pub offset : ℕ → ℕ
offset w = number w - number w % 4

-- by the kind of the instruction, with registers r and s, a number i, and an offset j from x5
abbrev pub instruction_of : ℕ → ℕ → ℕ → ℕ → ℕ → ℕ
instruction_of kind r s i j =
    if kind == 0 then encoded 0b0010011 r 0b000 s i  -- ADDI r, s, i
    else if kind == 1 then encoded 0b0110011 r 0b100 r s  -- XOR r, r, s
    else if kind == 2 then encoded 0b0000011 r 0b010 5 j  -- LW r, j(x5)
    else if kind == 3 then encoded 0b0100011 (j % 32) 0b010 5 (j / 32 * 32 + r)  -- SW r, j(x5)
    else if kind == 4 then encoded 0b0110011 r 0b010 s r  -- SLT r, s, r
    else if kind == 5 then encoded 0b1110011 r 0b010 0 0xC00  -- CSRRS r, cycle, x0
    else if kind == 6 then encoded 0b1100011 8 0b000 r s  -- BEQ r, s, +8
    else 0x00000073  -- ECALL

unfoldable pub instruction : ℕ → ℕ
instruction w = instruction_of (w % 8) (first_register w) (second_register w) (number w) (offset w)

-- LUI x5, the page of the domain's data; ADDI x17, x0, 1, the call that prints
abbrev pub first_words : List ℕ
first_words = 0x000202B7 ∷ 0x00100893 ∷ []

-- ADDI x0, x0, 0 twice, which a branch may skip to; JAL x0 back to the first of the 64
abbrev pub last_words : List ℕ
last_words = 0x00000013 ∷ 0x00000013 ∷ 0xEF9FF06F ∷ []

-- from the words that come next
unfoldable pub program : Lcg → List ℕ
program g = first_words ++ (map (λ k. instruction (word g k)) (range_with_len 0 64) ++ last_words)

-- as the bytes of memory
unfoldable pub program_bytes : Lcg → List ℕ
program_bytes g = flat_map (to_le_bytes w32) (program g)
