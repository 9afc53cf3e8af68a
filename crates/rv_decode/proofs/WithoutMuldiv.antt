-- A machine without products and divisions makes of a word what one with them does, but for those.
use Rattle.std.proofs.Common.{◌≡◌, ℕ, Bool, true, false, Option, Some, None, if◌then◌else◌, nat_lt, refl, inl, inr}
use Rattle.std.specs.Prelude.{option_map}
use Rattle.std.proofs.lemmas.Bool.{cases_eq, ne_eqb}
use Rattle.rv_decode.specs.Fields.{rd_of, funct3_of, rs1_of, rs2_of, funct7_of}
use Rattle.rv_decode.specs.Table.{register_operation_of, product_of, division_of, muldiv_of, register_form_of}
use Rattle.rv_decode.specs.Table.{system_of, decode_of, without_muldiv}
use Rattle.rv_decode.specs.declared.Instr.{Instr}
use Rattle.rv_decode.specs.declared.Instr.TheVariants.{Register, Multiply, Divide}
use Rattle.rv_decode.specs.declared.Operation.{Operation}
use Rattle.rv_decode.specs.declared.Product.{Product}
use Rattle.rv_decode.specs.declared.Division.{Division}

-- the instructions on two registers
abbrev register_in : ℕ → Operation → Instr
register_in word operation = Register operation (rd_of word) (rs1_of word) (rs2_of word)

abbrev product_in : ℕ → Product → Instr
product_in word product = Multiply product (rd_of word) (rs1_of word) (rs2_of word)

abbrev division_in : ℕ → Division → Instr
division_in word division = Divide division (rd_of word) (rs1_of word) (rs2_of word)

-- what is made of a part, if one is found: always a product or a division, or never one
none-map : {A : Type 0} (make : A → Instr) (found : Option A)
    → ((a : A) → None ≡ without_muldiv (Some (make a))) → None ≡ without_muldiv (option_map make found)
none-map make (Some a) h = h a
none-map make None h = refl

rest-map : {A : Type 0} (make : A → Instr) (found : Option A)
    → ((a : A) → Some (make a) ≡ without_muldiv (Some (make a)))
    → option_map make found ≡ without_muldiv (option_map make found)
rest-map make (Some a) h = h a
rest-map make None h = refl

rest-if : (t : Bool) (x y z w : Option Instr) → x ≡ without_muldiv z → y ≡ without_muldiv w
    → (if t then x else y) ≡ without_muldiv (if t then z else w)
rest-if true x y z w p q = p
rest-if false x y z w p q = q

muldiv-none : (word : ℕ) → None ≡ without_muldiv (muldiv_of word)
muldiv-none word = by (nat_lt (funct3_of word) 0b100)
  where
    by : (t : Bool) → None ≡ without_muldiv (if t
        then option_map (product_in word) (product_of (funct3_of word))
        else option_map (division_in word) (division_of (funct3_of word)))
    by true = none-map (product_in word) (product_of (funct3_of word)) (λ a. refl)
    by false = none-map (division_in word) (division_of (funct3_of word)) (λ a. refl)

register-rest : (word : ℕ) → register_form_of false word ≡ without_muldiv (register_form_of true word)
register-rest word =
    let operation = register_operation_of (funct3_of word) (funct7_of word) in
    elim (cases_eq (funct7_of word) 0b0000001) [
      | inl e ↦ rw e (muldiv-none word)
      | inr n ↦ rw (ne_eqb (funct7_of word) 0b0000001 n) (rest-map (register_in word) operation (λ a. refl))
    ]

system-rest : (word : ℕ) → system_of word ≡ without_muldiv (system_of word)
system-rest word = search (rest-if, rest-map)

pub decode_of-without_muldiv : (word : ℕ) → decode_of false word ≡ without_muldiv (decode_of true word)
decode_of-without_muldiv word = search (rest-if, rest-map, system-rest, register-rest) depth 40
