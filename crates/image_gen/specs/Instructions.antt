-- The program of a domain in the words of the instruction set.
use Rattle.std.specs.Prelude.{ℕ, ◌-◌, ◌^◌, ◌%◌, ◌==◌, if◌then◌else◌, List, [], ◌∷◌, ◌++◌, map}
use Rattle.std.specs.List.{range_with_len}
use Rattle.rand_pcg.specs.Lcg.{Lcg}
use Rattle.rv_decode.specs.declared.Instr.{Instr}
use Rattle.rv_decode.specs.declared.Instr.TheVariants.{Lui, Jal, Branch, Load, Store, Immediate, Register, Ecall, ReadCounter}
use Rattle.rv_decode.specs.declared.Comparison.TheVariants.{Equal}
use Rattle.rv_decode.specs.declared.LoadWidth.TheVariants.{Word as LoadWord}
use Rattle.rv_decode.specs.declared.StoreWidth.TheVariants.{Word as StoreWord}
use Rattle.rv_decode.specs.declared.Operation.TheVariants.{Add, SetLess, Xor}
use Rattle.rv_decode.specs.declared.Counter.TheVariants.{Cycle}
use Rattle.seed_words.specs.Words.{word}
use Rattle.image_gen.specs.Program.{first_register, second_register, number, offset}

-- by the kind of the instruction, with registers r and s, a number i, and an offset j from x5
abbrev pub chosen_of : ℕ → ℕ → ℕ → ℕ → ℕ → Instr
chosen_of kind r s i j =
    if kind == 0 then Immediate Add r s i
    else if kind == 1 then Register Xor r r s
    else if kind == 2 then Load LoadWord r 5 j
    else if kind == 3 then Store StoreWord 5 r j
    else if kind == 4 then Register SetLess r s r
    else if kind == 5 then ReadCounter Cycle r
    else if kind == 6 then Branch Equal r s 8
    else Ecall

-- that a word chooses
unfoldable pub chosen : ℕ → Instr
chosen w = chosen_of (w % 8) (first_register w) (second_register w) (number w) (offset w)

-- x5 has the address of the data; an ECALL prints
abbrev pub first_instructions : List Instr
first_instructions = Lui 5 0x20000 ∷ Immediate Add 17 0 1 ∷ []

-- the jump leads back by 66 instructions, to the first that is chosen
abbrev pub last_instructions : List Instr
last_instructions = Immediate Add 0 0 0 ∷ Immediate Add 0 0 0 ∷ Jal 0 (2 ^ 32 - 264) ∷ []

unfoldable pub instructions : Lcg → List Instr
instructions g =
    first_instructions ++ (map (λ k. chosen (word g k)) (range_with_len 0 64) ++ last_instructions)
