-- What operations and comparisons give, on words of 32 bits.
use Rattle.std.specs.Prelude.{ℕ, ◌+◌, ◌-◌, ◌*◌, ◌/◌, ◌%◌, ◌^◌, Bool, not, nat_lt, ◌==◌, if◌then◌else◌, bit_and, bit_or, bit_xor, int_lt}
use Rattle.std.specs.Int.{w32, cast_signed, cast_unsigned, int_shr}
use Rattle.rv_decode.specs.declared.Operation.{Operation}
use Rattle.rv_decode.specs.declared.Operation.TheVariants.{Add, Subtract, ShiftLeft, SetLess, SetLessUnsigned, Xor, ShiftRight, ShiftRightArithmetic, Or, And}
use Rattle.rv_decode.specs.declared.Comparison.{Comparison}
use Rattle.rv_decode.specs.declared.Comparison.TheVariants.{Equal, NotEqual, Less, GreaterOrEqual, LessUnsigned, GreaterOrEqualUnsigned}

-- whether a word is less than another, as numbers in two's complement
abbrev pub signed_less : ℕ → ℕ → Bool
signed_less a b = int_lt (cast_signed w32 a) (cast_signed w32 b)

-- ADD, SUB, SLL, SLT, SLTU, XOR, SRL, SRA, OR, AND; a shift takes the low five bits of its amount
abbrev pub value_of : Operation → ℕ → ℕ → ℕ
value_of Add a b = (a + b) % 2 ^ 32
value_of Subtract a b = (a + (2 ^ 32 - b)) % 2 ^ 32
value_of ShiftLeft a b = a * 2 ^ (b % 32) % 2 ^ 32
value_of SetLess a b = if signed_less a b then 1 else 0
value_of SetLessUnsigned a b = if nat_lt a b then 1 else 0
value_of Xor a b = bit_xor a b
value_of ShiftRight a b = a / 2 ^ (b % 32)
value_of ShiftRightArithmetic a b = cast_unsigned w32 (int_shr (cast_signed w32 a) (b % 32))
value_of Or a b = bit_or a b
value_of And a b = bit_and a b

-- BEQ, BNE, BLT, BGE, BLTU, BGEU
abbrev pub holds : Comparison → ℕ → ℕ → Bool
holds Equal a b = a == b
holds NotEqual a b = not (a == b)
holds Less a b = signed_less a b
holds GreaterOrEqual a b = not (signed_less a b)
holds LessUnsigned a b = nat_lt a b
holds GreaterOrEqualUnsigned a b = not (nat_lt a b)
