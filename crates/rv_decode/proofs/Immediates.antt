-- An immediate whose bits are those of the word is the immediate that the decoder makes of the word.
use Rattle.std.proofs.Common.{◌≡◌, ℕ, ◌<◌, ◌≤◌, ◌+◌, ◌-◌, ◌*◌, ◌^◌, true, false, ltb, inl, inr, arith}
use Rattle.std.proofs.lemmas.Bool.{cases_lt}
use Rattle.std.proofs.lemmas.Bool.Decides.{nat_tests}
use Rattle.rv_decode.specs.Fields.{field, sign_extended, immediate_i_of, immediate_s_of, immediate_b_of, immediate_u_of, immediate_j_of}
use Rattle.rv_decode.specs.Words.{IsImmediateI, IsImmediateS, IsImmediateB, IsImmediateU, IsImmediateJ}

-- the two cases of a sign extension
sign_extended_to : (width n imm : ℕ) → (n < 2 ^ (width - 1) → n ≡ imm)
    → (2 ^ (width - 1) ≤ n → n + (2 ^ 32 - 2 ^ width) ≡ imm) → sign_extended width n ≡ imm
sign_extended_to width n imm small large =
    elim (cases_lt n (2 ^ (width - 1))) [
      | inl lt ↦ let t : ltb n (2 ^ (width - 1)) ≡ true = grind (arith, nat_tests) in rw t (small lt)
      | inr ge ↦ let t : ltb n (2 ^ (width - 1)) ≡ false = grind (arith, nat_tests) in rw t (large ge)
    ]

pub immediate_i_of-word : (imm word : ℕ) → word < 2 ^ 32 → IsImmediateI imm word → immediate_i_of word ≡ imm
immediate_i_of-word imm word fits h = sign_extended_to 12 (field word 20 12) imm (λ lt. omega arith) (λ ge. omega arith)

pub immediate_s_of-word : (imm word : ℕ) → word < 2 ^ 32 → IsImmediateS imm word → immediate_s_of word ≡ imm
immediate_s_of-word imm word fits h =
    sign_extended_to 12 (field word 25 7 * 2 ^ 5 + field word 7 5) imm (λ lt. omega arith) (λ ge. omega arith)

pub immediate_b_of-word : (imm word : ℕ) → word < 2 ^ 32 → IsImmediateB imm word → immediate_b_of word ≡ imm
immediate_b_of-word imm word fits h =
    sign_extended_to 13
    (field word 31 1 * 2 ^ 12 + field word 7 1 * 2 ^ 11 + field word 25 6 * 2 ^ 5 + field word 8 4 * 2) imm
    (λ lt. omega arith) (λ ge. omega arith)

pub immediate_u_of-word : (imm word : ℕ) → word < 2 ^ 32 → IsImmediateU imm word → immediate_u_of word ≡ imm
immediate_u_of-word imm word fits h = omega arith

pub immediate_j_of-word : (imm word : ℕ) → word < 2 ^ 32 → IsImmediateJ imm word → immediate_j_of word ≡ imm
immediate_j_of-word imm word fits h =
    sign_extended_to 21
    (field word 31 1 * 2 ^ 20 + field word 12 8 * 2 ^ 12 + field word 20 1 * 2 ^ 11 + field word 21 10 * 2)
    imm (λ lt. omega arith) (λ ge. omega arith)
