-- What products and divisions give, on words of 32 bits, and how long they are: the M extension.
use Rattle.std.specs.Prelude.{ℕ, zero, suc, ◌*◌, ◌-◌, ◌/◌, ◌%◌, ◌^◌, ◌≤◌, nat_lt, ◌==◌, if◌then◌else◌, List}
use Rattle.std.specs.Prelude.{ℤ, pos, ◌*ℤ◌, int_div, int_rem, unsigned_abs}
use Rattle.std.specs.Int.{w32, cast_signed, cast_unsigned, int_shr}
use Rattle.rv_decode.specs.declared.Product.{Product}
use Rattle.rv_decode.specs.declared.Product.TheVariants.{Low, High, HighSignedUnsigned, HighUnsigned}
use Rattle.rv_decode.specs.declared.Division.{Division}
use Rattle.rv_decode.specs.declared.Division.TheVariants.{Quotient, QuotientUnsigned}
use Rattle.rv_decode.specs.declared.Division.TheVariants.{Remainder, RemainderUnsigned}

-- a word as a number in two's complement
abbrev pub signed : ℕ → ℤ
signed word = cast_signed w32 word

-- the upper word of a number of 64 bits
abbrev pub upper_word : ℤ → ℕ
upper_word z = cast_unsigned w32 (int_shr z 32)

-- MUL: the lower word of the product; MULH, MULHSU, MULHU: the upper one, of signed words, of a first
-- that is signed alone, or of none
abbrev pub product_of : Product → ℕ → ℕ → ℕ
product_of Low a b = a * b % 2 ^ 32
product_of High a b = upper_word (signed a *ℤ signed b)
product_of HighSignedUnsigned a b = upper_word (signed a *ℤ pos b)
product_of HighUnsigned a b = a * b / 2 ^ 32

-- DIV, DIVU, REM, REMU, rounded toward zero; -2^31 by -1 is 2^31, whose word is that of -2^31
abbrev pub division_of : Division → ℕ → ℕ → ℕ
division_of Quotient a b = if b == 0 then 2 ^ 32 - 1 else cast_unsigned w32 (int_div (signed a) (signed b))
division_of QuotientUnsigned a b = if b == 0 then 2 ^ 32 - 1 else a / b
division_of Remainder a b = if b == 0 then a else cast_unsigned w32 (int_rem (signed a) (signed b))
division_of RemainderUnsigned a b = if b == 0 then a else a % b

-- the least d with n < 2 ^ d, looked for in so many tries from a first d on
unfoldable pub least_power : ℕ → ℕ → ℕ → ℕ
least_power zero d n = d
least_power (suc tries) d n = if nat_lt n (2 ^ d) then d else least_power tries (suc d) n

-- how many binary digits a word has; 0 has none
abbrev pub digits_of : ℕ → ℕ
digits_of word = least_power 32 0 word

-- the magnitude of a dividend
abbrev pub dividend_of : Division → ℕ → ℕ
dividend_of Quotient a = unsigned_abs (signed a)
dividend_of QuotientUnsigned a = a
dividend_of Remainder a = unsigned_abs (signed a)
dividend_of RemainderUnsigned a = a
