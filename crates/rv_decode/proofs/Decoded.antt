-- What the table makes of a word: an instruction of which it is a word in the manual's own table, and whose numbers are in their ranges.
use Rattle.std.proofs.Common.{◌≡◌, ℕ, ◌+◌, ◌-◌, ◌*◌, ◌%◌, ◌^◌, ◌<◌, ◌≤◌, Bool, true, false, Option, Some, None, refl, sym, ap, subst, ◌∙◌, inl, inr, arith, ltb, if◌then◌else◌}
use Rattle.std.specs.Prelude.{IfSome, option_map, nat_lt, ◌==◌, ◌&&◌, ◌||◌}
use Rattle.std.proofs.lemmas.Bool.{cases_lt, le-ltb, lt-ltb, eqb-true, and_parts, or_cases}
use Rattle.rv_decode.specs.Fields.{field, sign_extended, opcode_of, rd_of, funct3_of, rs1_of, rs2_of, funct7_of, csr_of, immediate_i_of, immediate_s_of, immediate_b_of, immediate_u_of, immediate_j_of}
use Rattle.rv_decode.specs.Table.{comparison_of, load_width_of, store_width_of, immediate_operation_of, register_operation_of, product_of, division_of, muldiv_of, register_form_of, operand_of, counter_of, system_of, decode_of}
use Rattle.rv_decode.specs.Words.{IsImmediateI, IsImmediateS, IsImmediateB, IsImmediateU, IsImmediateJ, comparison_code, load_code, store_code, product_code, division_code, counter_number, IsOperation, IsImmediateOperation, IsCsrRead, IsWordOf}
use Rattle.rv_decode.specs.Ranges.{HasRegisters, HasImmediates, IsSigned, IsOperand}
use Rattle.rv_decode.specs.declared.Instr.{Instr}
use Rattle.rv_decode.specs.declared.Instr.TheVariants.{Branch, Load, Store, Immediate, Register, Multiply, Divide, ReadCounter}
use Rattle.rv_decode.specs.declared.Operation.{Operation}

pub record IsDecoded (muldiv : Bool) (n : ℕ) (instr : Instr) : Type 0 where
  pub word : IsWordOf muldiv instr n
  pub registers : HasRegisters instr
  pub immediates : HasImmediates instr

-- ---- what is found, by a test or by a part of it

if-some : {X : Type 0} (P : X → Type 0) (t : Bool) (x y : Option X) → (t ≡ true → IfSome x P)
    → (t ≡ false → IfSome y P)
    → IfSome (if t then x else y) P
if-some P true x y f g = f refl
if-some P false x y f g = g refl

where-some : {X : Type 0} (P : X → Type 0) (n k : ℕ) (x y : Option X) → (n ≡ k → IfSome x P) → IfSome y P
    → IfSome (if n == k then x else y) P
where-some P n k x y f g = if-some P (n == k) x y (λ e. f (eqb-true n k e)) (λ e. g)

map-some : {X Y : Type 0} (Q : X → Type 0) (P : Y → Type 0) (make : X → Y) (found : Option X) → IfSome found Q
    → ((x : X) → Q x → P (make x)) → IfSome (option_map make found) P
map-some Q P make (Some x) h f = f x h
map-some Q P make None h f = tt

-- ---- registers and immediates

rd-below : (word : ℕ) → rd_of word < 32
rd-below word = omega arith

rs1-below : (word : ℕ) → rs1_of word < 32
rs1-below word = omega arith

rs2-below : (word : ℕ) → rs2_of word < 32
rs2-below word = omega arith

-- the two cases of a sign extension
extended : (Q : ℕ → Type 0) (width n : ℕ) → (n < 2 ^ (width - 1) → Q n)
    → (2 ^ (width - 1) ≤ n → Q (n + (2 ^ 32 - 2 ^ width))) → Q (sign_extended width n)
extended Q width n small large =
    elim (cases_lt n (2 ^ (width - 1))) [
      | inl lt ↦ let t : ltb n (2 ^ (width - 1)) ≡ true = lt-ltb n (2 ^ (width - 1)) lt in rw t (small lt)
      | inr ge ↦ let t : ltb n (2 ^ (width - 1)) ≡ false = le-ltb n (2 ^ (width - 1)) ge in rw t (large ge)
    ]

abbrev IsI : ℕ → ℕ → Type 0
IsI word imm = IsImmediateI imm word × IsSigned 12 imm

immediate_i-is : (word : ℕ) → word < 2 ^ 32 → IsI word (immediate_i_of word)
immediate_i-is word fits =
    extended (IsI word) 12 (field word 20 12)
    (λ lt. (record { sign = omega arith; low = omega arith }, omega arith))
    (λ ge. (record { sign = omega arith; low = omega arith }, omega arith))

abbrev IsS : ℕ → ℕ → Type 0
IsS word imm = IsImmediateS imm word × IsSigned 12 imm

immediate_s-is : (word : ℕ) → word < 2 ^ 32 → IsS word (immediate_s_of word)
immediate_s-is word fits =
    extended (IsS word) 12 (field word 25 7 * 2 ^ 5 + field word 7 5)
    (λ lt. (record { sign = omega arith; high = omega arith; low = omega arith }, omega arith))
    (λ ge. (record { sign = omega arith; high = omega arith; low = omega arith }, omega arith))

abbrev IsB : ℕ → ℕ → Type 0
IsB word imm = IsImmediateB imm word × IsSigned 13 imm × (imm % 2 ≡ 0)

immediate_b-is : (word : ℕ) → word < 2 ^ 32 → IsB word (immediate_b_of word)
immediate_b-is word fits =
    extended (IsB word) 13 (field word 31 1 * 2 ^ 12 + field word 7 1 * 2 ^ 11 + field word 25 6 * 2 ^ 5 + field word 8 4 * 2)
    (λ lt. (record { sign = omega arith; bit_11 = omega arith; high = omega arith; low = omega arith; even = omega arith }, omega arith, omega arith))
    (λ ge. (record { sign = omega arith; bit_11 = omega arith; high = omega arith; low = omega arith; even = omega arith }, omega arith, omega arith))

immediate_u-is : (word : ℕ) → word < 2 ^ 32
    → IsImmediateU (immediate_u_of word) word × (immediate_u_of word % 2 ^ 12 ≡ 0)
immediate_u-is word fits = (record { high = omega arith; low = omega arith }, omega arith)

abbrev IsJ : ℕ → ℕ → Type 0
IsJ word imm = IsImmediateJ imm word × IsSigned 21 imm × (imm % 2 ≡ 0)

immediate_j-is : (word : ℕ) → word < 2 ^ 32 → IsJ word (immediate_j_of word)
immediate_j-is word fits =
    extended (IsJ word) 21 (field word 31 1 * 2 ^ 20 + field word 12 8 * 2 ^ 12 + field word 20 1 * 2 ^ 11 + field word 21 10 * 2)
    (λ lt. (record { sign = omega arith; high = omega arith; bit_11 = omega arith; low = omega arith; even = omega arith }, omega arith, omega arith))
    (λ ge. (record { sign = omega arith; high = omega arith; bit_11 = omega arith; low = omega arith; even = omega arith }, omega arith, omega arith))

-- ---- the parts of an instruction

comparison-is : (n : ℕ) → IfSome (comparison_of n) (λ comparison. n ≡ comparison_code comparison)
comparison-is n =
    where-some _ n _ _ _ (λ e. e)
    (where-some _ n _ _ _ (λ e. e)
    (where-some _ n _ _ _ (λ e. e)
    (where-some _ n _ _ _ (λ e. e)
    (where-some _ n _ _ _ (λ e. e) (where-some _ n _ _ _ (λ e. e) tt)))))

load-is : (n : ℕ) → IfSome (load_width_of n) (λ width. n ≡ load_code width)
load-is n =
    where-some _ n _ _ _ (λ e. e)
    (where-some _ n _ _ _ (λ e. e)
    (where-some _ n _ _ _ (λ e. e) (where-some _ n _ _ _ (λ e. e) (where-some _ n _ _ _ (λ e. e) tt))))

store-is : (n : ℕ) → IfSome (store_width_of n) (λ width. n ≡ store_code width)
store-is n =
    where-some _ n _ _ _ (λ e. e) (where-some _ n _ _ _ (λ e. e) (where-some _ n _ _ _ (λ e. e) tt))

product-is : (n : ℕ) → IfSome (product_of n) (λ product. n ≡ product_code product)
product-is n =
    where-some _ n _ _ _ (λ e. e) (where-some _ n _ _ _ (λ e. e) (where-some _ n _ _ _ (λ e. e) (where-some _ n _ _ _ (λ e. e) tt)))

division-is : (n : ℕ) → IfSome (division_of n) (λ division. n ≡ division_code division)
division-is n =
    where-some _ n _ _ _ (λ e. e) (where-some _ n _ _ _ (λ e. e) (where-some _ n _ _ _ (λ e. e) (where-some _ n _ _ _ (λ e. e) tt)))

counter-is : (n : ℕ) → IfSome (counter_of n) (λ counter. n ≡ counter_number counter)
counter-is n =
    where-some _ n _ _ _ (λ e. e)
    (where-some _ n _ _ _ (λ e. e)
    (where-some _ n _ _ _ (λ e. e)
    (where-some _ n _ _ _ (λ e. e)
    (where-some _ n _ _ _ (λ e. e) (where-some _ n _ _ _ (λ e. e) tt)))))

operation-is : (word : ℕ)
    → IfSome (register_operation_of (funct3_of word) (funct7_of word))
    (λ operation. IsOperation operation word)
operation-is word =
    where-some _ (funct7_of word) _ _ _
    (λ s. where-some _ (funct3_of word) _ _ _ (λ e. (e, s))
    (where-some _ (funct3_of word) _ _ _ (λ e. (e, s))
    (where-some _ (funct3_of word) _ _ _ (λ e. (e, s))
    (where-some _ (funct3_of word) _ _ _ (λ e. (e, s))
    (where-some _ (funct3_of word) _ _ _ (λ e. (e, s))
    (where-some _ (funct3_of word) _ _ _ (λ e. (e, s))
    (where-some _ (funct3_of word) _ _ _ (λ e. (e, s))
    (where-some _ (funct3_of word) _ _ _ (λ e. (e, s)) tt))))))))
    (where-some _ (funct7_of word) _ _ _
    (λ s. where-some _ (funct3_of word) _ _ _ (λ e. (e, s))
    (where-some _ (funct3_of word) _ _ _ (λ e. (e, s)) tt)) tt)

-- of an operation on a register and an immediate
module _ (word : ℕ) (fits : word < 2 ^ 32) where
  abbrev imm : ℕ
  imm = operand_of (funct3_of word) word

  abbrev IsFound : Operation → Type 0
  IsFound operation = IsImmediateOperation operation imm word × IsOperand operation imm

  signed : (k : ℕ) → immediate_i_of word ≡ operand_of k word → funct3_of word ≡ k → IsI word imm
  signed k same e = subst (IsI word) (same ∙ sym (ap (λ f. operand_of f word) e)) (immediate_i-is word fits)

  amount : (k : ℕ) → rs2_of word ≡ operand_of k word → funct3_of word ≡ k → rs2_of word ≡ imm
  amount k same e = same ∙ sym (ap (λ f. operand_of f word) e)

  few : (k : ℕ) → rs2_of word ≡ operand_of k word → funct3_of word ≡ k → imm < 32
  few k same e = subst (λ n. n < 32) (amount k same e) (rs2-below word)

  immediate-is : IfSome (immediate_operation_of (funct3_of word) (funct7_of word)) IsFound
  immediate-is =
      where-some IsFound (funct3_of word) 0 _ _ (λ e. let i = signed 0 refl e in ((e, i.0), i.1))
      (where-some IsFound (funct3_of word) 1 _ _
      (λ e. where-some IsFound (funct7_of word) 0 _ _ (λ s. ((e, s, amount 1 refl e), few 1 refl e)) tt)
      (where-some IsFound (funct3_of word) 2 _ _ (λ e. let i = signed 2 refl e in ((e, i.0), i.1))
      (where-some IsFound (funct3_of word) 3 _ _ (λ e. let i = signed 3 refl e in ((e, i.0), i.1))
      (where-some IsFound (funct3_of word) 4 _ _ (λ e. let i = signed 4 refl e in ((e, i.0), i.1))
      (where-some IsFound (funct3_of word) 5 _ _ (λ e. where-some IsFound (funct7_of word) 0 _ _
      (λ s. ((e, s, amount 5 refl e), few 5 refl e))
      (where-some IsFound (funct7_of word) 32 _ _ (λ s. ((e, s, amount 5 refl e), few 5 refl e)) tt))
      (where-some IsFound (funct3_of word) 6 _ _ (λ e. let i = signed 6 refl e in ((e, i.0), i.1))
      (where-some IsFound (funct3_of word) 7 _ _ (λ e. let i = signed 7 refl e in ((e, i.0), i.1)) tt)))))))

csr_read-is : (word : ℕ)
    → ((funct3_of word == 2 || funct3_of word == 3 || funct3_of word == 6 || funct3_of word == 7)
    && rs1_of word == 0) ≡ true
    → IsCsrRead word
csr_read-is word h =
    let f = funct3_of word in
    let parts = and_parts (f == 2 || f == 3 || f == 6 || f == 7) (rs1_of word == 0) h in
    let zero = eqb-true (rs1_of word) 0 parts.1 in
    elim (or_cases (f == 2 || f == 3 || f == 6) (f == 7) parts.0) [
      | inr e ↦ (inr (inr (inr (eqb-true f 7 e))), zero)
      | inl r ↦ elim (or_cases (f == 2 || f == 3) (f == 6) r) [
        | inr e ↦ (inr (inr (inl (eqb-true f 6 e))), zero)
        | inl s ↦ elim (or_cases (f == 2) (f == 3) s) [
          | inl e ↦ (inl (eqb-true f 2 e), zero)
          | inr e ↦ (inr (inl (eqb-true f 3 e)), zero)
        ]
      ]
    ]

-- ---- the instruction

module _ (muldiv : Bool) (word : ℕ) (fits : word < 2 ^ 32) where
  abbrev Is : Instr → Type 0
  Is = IsDecoded muldiv word

  muldiv-is : muldiv ≡ true → opcode_of word ≡ 0b0110011 → funct7_of word ≡ 0b0000001
      → IfSome (muldiv_of word) Is
  muldiv-is has e s =
      let registers : (rd_of word < 32) × (rs1_of word < 32) × (rs2_of word < 32) = (rd-below word, rs1-below word, rs2-below word) in
      if-some Is (nat_lt (funct3_of word) 4) _ _
      (λ _. map-some _ Is (λ product. Multiply product (rd_of word) (rs1_of word) (rs2_of word)) _
      (product-is (funct3_of word)) (λ product code. record {
        word = (record { has = has; opcode = e; funct7 = s; code = code }, refl, refl, refl);
        registers = registers;
        immediates = tt;
      }))
      (λ _. map-some _ Is (λ division. Divide division (rd_of word) (rs1_of word) (rs2_of word)) _
      (division-is (funct3_of word)) (λ division code. record {
        word = (record { has = has; opcode = e; funct7 = s; code = code }, refl, refl, refl);
        registers = registers;
        immediates = tt;
      }))

  register-is : opcode_of word ≡ 0b0110011 → IfSome (register_form_of muldiv word) Is
  register-is e =
      if-some Is (funct7_of word == 1 && muldiv) _ _
      (λ t. let parts = and_parts (funct7_of word == 1) muldiv t in muldiv-is parts.1 e (eqb-true (funct7_of word) 1 parts.0))
      (λ _. map-some _ Is (λ operation. Register operation (rd_of word) (rs1_of word) (rs2_of word)) _
      (operation-is word) (λ operation of. record {
        word = (e, of, refl, refl, refl);
        registers = (rd-below word, rs1-below word, rs2-below word);
        immediates = tt;
      }))

  system-is : opcode_of word ≡ 0b1110011 → IfSome (system_of word) Is
  system-is e =
      where-some Is (funct3_of word) 0 _ _
      (λ _. where-some Is word 0x00000073 _ _ (λ is. record { word = is; registers = tt; immediates = tt })
      (where-some Is word 0x00100073 _ _ (λ is. record { word = is; registers = tt; immediates = tt }) tt))
      (if-some Is _ _ _
      (λ t. map-some _ Is (λ counter. ReadCounter counter (rd_of word)) _ (counter-is (csr_of word)) (λ counter n. record {
        word = (e, csr_read-is word t, n, refl);
        registers = rd-below word;
        immediates = tt;
      }))
      (λ _. tt))

  pub decode_of-is : IfSome (decode_of muldiv word) Is
  decode_of-is =
      let n = opcode_of word in
      let u = immediate_u-is word fits in
      let j = immediate_j-is word fits in
      let i = immediate_i-is word fits in
      let b = immediate_b-is word fits in
      let s = immediate_s-is word fits in
      let rd = rd-below word in
      let rs1 = rs1-below word in
      let rs2 = rs2-below word in
      where-some Is n _ _ _ (λ e. record { word = (e, refl, u.0); registers = rd; immediates = u.1 })
      (where-some Is n _ _ _ (λ e. record { word = (e, refl, u.0); registers = rd; immediates = u.1 })
      (where-some Is n _ _ _ (λ e. record { word = (e, refl, j.0); registers = rd; immediates = (j.1, j.2) })
      (where-some Is n _ _ _
      (λ e. where-some Is (funct3_of word) 0 _ _
      (λ f. record { word = (e, f, refl, refl, i.0); registers = (rd, rs1); immediates = i.1 }) tt)
      (where-some Is n _ _ _ (λ e. map-some _ Is
      (λ comparison. Branch comparison (rs1_of word) (rs2_of word) (immediate_b_of word)) _
      (comparison-is (funct3_of word)) (λ comparison f. record {
        word = (e, f, refl, refl, b.0);
        registers = (rs1, rs2);
        immediates = (b.1, b.2);
      }))
      (where-some Is n _ _ _ (λ e. map-some _ Is
      (λ width. Load width (rd_of word) (rs1_of word) (immediate_i_of word)) _ (load-is (funct3_of word)) (λ
      width f. record {
        word = (e, f, refl, refl, i.0);
        registers = (rd, rs1);
        immediates = i.1;
      }))
      (where-some Is n _ _ _ (λ e. map-some _ Is
      (λ width. Store width (rs1_of word) (rs2_of word) (immediate_s_of word)) _ (store-is (funct3_of word))
      (λ width f. record {
        word = (e, f, refl, refl, s.0);
        registers = (rs1, rs2);
        immediates = s.1;
      }))
      (where-some Is n _ _ _ (λ e. map-some _ Is
      (λ operation. Immediate operation (rd_of word) (rs1_of word) (operand_of (funct3_of word) word)) _
      (immediate-is word fits) (λ operation f. record {
        word = (e, f.0, refl, refl);
        registers = (rd, rs1);
        immediates = f.1;
      }))
      (where-some Is n _ _ _ register-is
      (where-some Is n _ _ _ (λ e. where-some Is (funct3_of word) 0 _ _ (λ f. record { word = (e, f); registers = tt; immediates = tt }) tt)
      (where-some Is n _ _ _ system-is tt))))))))))
