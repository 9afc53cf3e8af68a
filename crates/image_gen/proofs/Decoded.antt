-- The words of a program decode to its instructions.
use Rattle.std.proofs.Common.{◌≡◌, ℕ, ◌+◌, ◌*◌, ◌/◌, ◌%◌, ◌^◌, ◌<◌, ◌==◌, List, [], ◌∷◌, ◌++◌, map, Some, refl, sym, ap, ◌∙◌, inl, inr, arith, mod-lt, Bool}
use Rattle.std.proofs.lemmas.Bool.{cases_Bool}
use Rattle.std.proofs.lemmas.List.{map-append}
use Rattle.std.specs.List.{range_with_len}
use Rattle.rand_pcg.specs.Lcg.{Lcg}
use Rattle.rv_decode.specs.Fields.{field}
use Rattle.rv_decode.specs.Table.{decode_of}
use Rattle.rv_decode.specs.Words.{IsImmediateI, IsImmediateS, IsImmediateB}
use Rattle.rv_decode.specs.declared.Instr.TheVariants.{Branch, Load, Store, Immediate, Register, ReadCounter}
use Rattle.rv_decode.specs.declared.Comparison.TheVariants.{Equal}
use Rattle.rv_decode.specs.declared.LoadWidth.TheVariants.{Word as LoadWord}
use Rattle.rv_decode.specs.declared.StoreWidth.TheVariants.{Word as StoreWord}
use Rattle.rv_decode.specs.declared.Operation.TheVariants.{Add, SetLess, Xor}
use Rattle.rv_decode.specs.declared.Counter.TheVariants.{Cycle}
use Rattle.rv_decode.proofs.WordLaws.{decode_of-word}
use Rattle.seed_words.specs.Words.{word}
use Rattle.image_gen.specs.Program.{encoded, first_register, second_register, number, offset, instruction_of, instruction, last_words, program}
use Rattle.image_gen.specs.Instructions.{chosen_of, chosen, first_instructions, last_instructions, instructions}
use Rattle.image_gen.specs.Laws.{DecodedLaw}

-- ---- the fields of a word that was made of them

record Fields (opcode rd funct3 rs1 high w : ℕ) : Type 0 where
  small : w < 2 ^ 32
  opcode_is : field w 0 7 ≡ opcode
  rd_is : field w 7 5 ≡ rd
  funct3_is : field w 12 3 ≡ funct3
  rs1_is : field w 15 5 ≡ rs1
  rs2_is : field w 20 5 ≡ high % 2 ^ 5
  funct7_is : field w 25 7 ≡ high / 2 ^ 5
  high_is : field w 20 12 ≡ high
  sign_is : field w 31 1 ≡ high / 2 ^ 11

fields_of : (opcode rd funct3 rs1 high : ℕ) → opcode < 2 ^ 7 → rd < 2 ^ 5 → funct3 < 2 ^ 3 → rs1 < 2 ^ 5
    → high < 2 ^ 12
    → Fields opcode rd funct3 rs1 high (encoded opcode rd funct3 rs1 high)
fields_of opcode rd funct3 rs1 high a b c d e = record {
  small = omega arith;
  opcode_is = omega arith;
  rd_is = omega arith;
  funct3_is = omega arith;
  rs1_is = omega arith;
  rs2_is = omega arith;
  funct7_is = omega arith;
  high_is = omega arith;
  sign_is = omega arith;
}

immediate_i : (w i : ℕ) → i < 2048 → field w 20 12 ≡ i → field w 31 1 ≡ i / 2 ^ 11 → IsImmediateI i w
immediate_i w i few high sign = record { sign = omega arith; low = omega arith }

immediate_s : (w j r : ℕ) → j < 2048 → r < 32 → field w 7 5 ≡ j % 32
    → field w 25 7 ≡ (j / 32 * 32 + r) / 2 ^ 5 → field w 31 1 ≡ (j / 32 * 32 + r) / 2 ^ 11 → IsImmediateS j w
immediate_s w j r few register low high sign = record { sign = omega arith; high = omega arith; low = omega arith }

immediate_b : (w s : ℕ) → s < 32 → field w 7 5 ≡ 8 → field w 25 7 ≡ s / 2 ^ 5 → field w 31 1 ≡ s / 2 ^ 11
    → IsImmediateB 8 w
immediate_b w s register low high sign =
    record { sign = omega arith; bit_11 = omega arith; high = omega arith; low = omega arith; even = refl }

-- ---- the eight kinds

module _ (muldiv : Bool) (r s i j : ℕ) (few_r : r < 2 ^ 5) (few_s : s < 2 ^ 5) (few_i : i < 2048) (few_j : j < 2048) where
  add : decode_of muldiv (encoded 0b0010011 r 0b000 s i) ≡ Some (Immediate Add r s i)
  add =
      let f = fields_of 0b0010011 r 0b000 s i (omega arith) few_r (omega arith) few_s (omega arith) in
      let i_is = immediate_i _ i few_i f.high_is f.sign_is in
      decode_of-word muldiv (Immediate Add r s i) _ f.small (f.opcode_is, (f.funct3_is, i_is), f.rd_is, f.rs1_is)

  xor : decode_of muldiv (encoded 0b0110011 r 0b100 r s) ≡ Some (Register Xor r r s)
  xor =
      let f = fields_of 0b0110011 r 0b100 r s (omega arith) few_r (omega arith) few_r (omega arith) in
      decode_of-word muldiv (Register Xor r r s) _ f.small
      (f.opcode_is, (f.funct3_is, f.funct7_is ∙ omega arith), f.rd_is, f.rs1_is, f.rs2_is ∙ omega arith)

  load : decode_of muldiv (encoded 0b0000011 r 0b010 5 j) ≡ Some (Load LoadWord r 5 j)
  load =
      let f = fields_of 0b0000011 r 0b010 5 j (omega arith) few_r (omega arith) (omega arith) (omega arith) in
      decode_of-word muldiv (Load LoadWord r 5 j) _ f.small
      (f.opcode_is, f.funct3_is, f.rd_is, f.rs1_is, immediate_i _ j few_j f.high_is f.sign_is)

  store : decode_of muldiv (encoded 0b0100011 (j % 32) 0b010 5 (j / 32 * 32 + r))
      ≡ Some (Store StoreWord 5 r j)
  store =
      let f =
      fields_of 0b0100011 (j % 32) 0b010 5 (j / 32 * 32 + r) (omega arith) (omega arith) (omega arith)
      (omega arith) (omega arith) in
      decode_of-word muldiv (Store StoreWord 5 r j) _ f.small (
        f.opcode_is,
        f.funct3_is,
        f.rs1_is,
        f.rs2_is
            ∙ omega arith,
        immediate_s _ j r few_j few_r f.rd_is f.funct7_is f.sign_is,
      )

  less : decode_of muldiv (encoded 0b0110011 r 0b010 s r) ≡ Some (Register SetLess r s r)
  less =
      let f = fields_of 0b0110011 r 0b010 s r (omega arith) few_r (omega arith) few_s (omega arith) in
      decode_of-word muldiv (Register SetLess r s r) _ f.small
      (f.opcode_is, (f.funct3_is, f.funct7_is ∙ omega arith), f.rd_is, f.rs1_is, f.rs2_is ∙ omega arith)

  cycles : decode_of muldiv (encoded 0b1110011 r 0b010 0 0xC00) ≡ Some (ReadCounter Cycle r)
  cycles =
      let f = fields_of 0b1110011 r 0b010 0 0xC00 (omega arith) few_r (omega arith) (omega arith) (omega arith) in
      decode_of-word muldiv (ReadCounter Cycle r) _ f.small (f.opcode_is, (inl f.funct3_is, f.rs1_is), f.high_is, f.rd_is)

  equal : decode_of muldiv (encoded 0b1100011 8 0b000 r s) ≡ Some (Branch Equal r s 8)
  equal =
      let f = fields_of 0b1100011 8 0b000 r s (omega arith) (omega arith) (omega arith) few_r (omega arith) in
      decode_of-word muldiv (Branch Equal r s 8) _ f.small (
        f.opcode_is,
        f.funct3_is,
        f.rs1_is,
        f.rs2_is
            ∙ omega arith,
        immediate_b _ s few_s f.rd_is f.funct7_is f.sign_is,
      )

  kind_decoded : (kind : ℕ) → decode_of muldiv (instruction_of kind r s i j) ≡ Some (chosen_of kind r s i j)
  kind_decoded kind = elim (cases_Bool (kind == 0)) [
    | inl is ↦ rw is add
    | inr not0 ↦ elim (cases_Bool (kind == 1)) [
      | inl is ↦ rw (not0, is) xor
      | inr not1 ↦ elim (cases_Bool (kind == 2)) [
        | inl is ↦ rw (not0, not1, is) load
        | inr not2 ↦ elim (cases_Bool (kind == 3)) [
          | inl is ↦ rw (not0, not1, not2, is) store
          | inr not3 ↦ elim (cases_Bool (kind == 4)) [
            | inl is ↦ rw (not0, not1, not2, not3, is) less
            | inr not4 ↦ elim (cases_Bool (kind == 5)) [
              | inl is ↦ rw (not0, not1, not2, not3, not4, is) cycles
              | inr not5 ↦ elim (cases_Bool (kind == 6)) [
                | inl is ↦ rw (not0, not1, not2, not3, not4, not5, is) equal
                | inr not6 ↦ rw (not0, not1, not2, not3, not4, not5, not6) refl
              ]
            ]
          ]
        ]
      ]
    ]
  ]

-- ---- programs

word_decoded : (muldiv : Bool) (w : ℕ) → decode_of muldiv (instruction w) ≡ Some (chosen w)
unfolding instruction chosen
word_decoded muldiv w =
    let r_within : w / 8 % 8 < 8 = mod-lt _ (omega arith) in
    let s_within : w / 64 % 8 < 8 = mod-lt _ (omega arith) in
    let i_within : w / 512 % 2048 < 2048 = mod-lt _ (omega arith) in
    kind_decoded muldiv (first_register w) (second_register w) (number w) (offset w) (omega arith)
    (omega arith) i_within (omega arith) (w % 8)

words_decoded : (muldiv : Bool) (g : Lcg) (ks : List ℕ)
    → map (decode_of muldiv) (map (λ k. instruction (word g k)) ks)
    ≡ map Some (map (λ k. chosen (word g k)) ks)
words_decoded muldiv g [] = refl
words_decoded muldiv g (k ∷ ks) = rw (word_decoded muldiv (word g k), words_decoded muldiv g ks)

pub decoded_law : DecodedLaw
unfolding program instructions
decoded_law muldiv g =
    let ks = range_with_len 0 64 in
    ap (λ xs. map Some first_instructions ++ xs)
    (map-append (decode_of muldiv) (map (λ k. instruction (word g k)) ks) last_words
    ∙ ap (λ xs. xs ++ map (decode_of muldiv) last_words) (words_decoded muldiv g ks)
    ∙ sym (map-append Some (map (λ k. chosen (word g k)) ks) last_instructions))
