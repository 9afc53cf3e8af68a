-- A write of a byte or a half into a word: it reads back, and the other bytes stay.
use Rattle.std.proofs.Common.{arith, ◌≡◌, ◌≢◌, ◌∙◌, ap, sym, subst, inl, inr, ℕ, zero, suc, ◌/◌, ◌%◌, ◌^◌, ◌<◌, ◌≤◌, List, [], ◌∷◌, ◌++◌, take, drop, get_or-set_same, get_or-set_other, refl, ◌⊎◌}
use Rattle.std.proofs.lemmas.Bool.{cases_eq}
use Rattle.std.specs.Prelude.{slice_index, slice_set}
use Rattle.byteorder.specs.Endian.{little_bytes, little_number}
use Rattle.phys_mem.specs.Bytes.{byte_in, half_in, with_byte_in, with_half_in}
use Rattle.phys_mem.specs.Contents.{Contents, word_at, byte_at}

-- four bytes are those of the word that they make
pub bytes_of_number : (a b c d : ℕ) → a < 256 → b < 256 → c < 256 → d < 256
    → little_bytes 4 (little_number 4 (a ∷ b ∷ c ∷ d ∷ [])) ≡ a ∷ b ∷ c ∷ d ∷ []
bytes_of_number a b c d a_fits b_fits c_fits d_fits = grind arith

pub bytes-with_byte_in : (word place byte : ℕ) → place < 4 → byte < 256
    → little_bytes 4 (with_byte_in word place byte) ≡ slice_set (little_bytes 4 word) place byte
unfolding with_byte_in
bytes-with_byte_in word zero byte within fits = bytes_of_number _ _ _ _ (omega arith) (omega arith) (omega arith) (omega arith)
bytes-with_byte_in word (suc zero) byte within fits = bytes_of_number _ _ _ _ (omega arith) (omega arith) (omega arith) (omega arith)
bytes-with_byte_in word (suc (suc zero)) byte within fits = bytes_of_number _ _ _ _ (omega arith) (omega arith) (omega arith) (omega arith)
bytes-with_byte_in word (suc (suc (suc zero))) byte within fits =
    bytes_of_number _ _ _ _ (omega arith) (omega arith) (omega arith) (omega arith)
bytes-with_byte_in word (suc (suc (suc (suc place)))) byte within fits = absurd (omega arith)

pub byte_in-with_same : (word place byte : ℕ) → place < 4 → byte < 256
    → byte_in (with_byte_in word place byte) place ≡ byte
unfolding byte_in
byte_in-with_same word place byte within fits =
    ap (λ (bytes : List ℕ). slice_index bytes place) (bytes-with_byte_in word place byte within fits)
    ∙ get_or-set_same (little_bytes 4 word) place byte 0 within

pub byte_in-with_other : (word place byte other : ℕ) → place < 4 → byte < 256 → other ≢ place
    → byte_in (with_byte_in word place byte) other ≡ byte_in word other
unfolding byte_in
byte_in-with_other word place byte other within fits apart =
    ap (λ (bytes : List ℕ). slice_index bytes other) (bytes-with_byte_in word place byte within fits)
    ∙ get_or-set_other (little_bytes 4 word) place other byte 0 apart

pub low_half : (word half : ℕ) → half < 2 ^ 16
    → little_bytes 4 (with_half_in word 0 half) ≡ little_bytes 2 half ++ drop 2 (little_bytes 4 word)
unfolding with_half_in
low_half word half fits = bytes_of_number _ _ _ _ (omega arith) (omega arith) (omega arith) (omega arith)

pub high_half : (word half : ℕ) → half < 2 ^ 16
    → little_bytes 4 (with_half_in word 2 half) ≡ take 2 (little_bytes 4 word) ++ little_bytes 2 half
unfolding with_half_in
high_half word half fits = bytes_of_number _ _ _ _ (omega arith) (omega arith) (omega arith) (omega arith)

pub half_in-with_same : (word place half : ℕ) → (place ≡ 0) ⊎ (place ≡ 2) → half < 2 ^ 16
    → half_in (with_half_in word place half) place ≡ half
unfolding half_in
half_in-with_same word place half (inl low) fits =
    subst (λ (p : ℕ). little_number 2 (drop p (little_bytes 4 (with_half_in word p half))) ≡ half) (sym low)
    (ap (λ (bytes : List ℕ). little_number 2 (drop 0 bytes)) (low_half word half fits) ∙ omega arith)
half_in-with_same word place half (inr high) fits =
    subst (λ (p : ℕ). little_number 2 (drop p (little_bytes 4 (with_half_in word p half))) ≡ half) (sym high)
    (ap (λ (bytes : List ℕ). little_number 2 (drop 2 bytes)) (high_half word half fits) ∙ omega arith)

pub byte_in-with_half : (word place half other : ℕ) → (place ≡ 0) ⊎ (place ≡ 2) → half < 2 ^ 16 → other < 4
    → other / 2 ≢ place / 2
    → byte_in (with_half_in word place half) other ≡ byte_in word other
unfolding byte_in
byte_in-with_half word place half other (inl low) fits within apart =
    subst (λ (p : ℕ). slice_index (little_bytes 4 (with_half_in word p half)) other ≡ slice_index (little_bytes 4 word) other) (sym low)
    (ap (λ (bytes : List ℕ). slice_index bytes other) (low_half word half fits) ∙ same other (omega (arith, low)) within)
  where
    same : (k : ℕ) → 2 ≤ k → k < 4
        → slice_index (little_bytes 2 half ++ drop 2 (little_bytes 4 word)) k
        ≡ slice_index (little_bytes 4 word) k
    same zero above below = absurd (omega arith)
    same (suc zero) above below = absurd (omega arith)
    same (suc (suc zero)) above below = refl
    same (suc (suc (suc zero))) above below = refl
    same (suc (suc (suc (suc k)))) above below = absurd (omega arith)
byte_in-with_half word place half other (inr high) fits within apart =
    subst (λ (p : ℕ). slice_index (little_bytes 4 (with_half_in word p half)) other ≡ slice_index (little_bytes 4 word) other) (sym high)
    (ap (λ (bytes : List ℕ). slice_index bytes other) (high_half word half fits) ∙ same other (omega (arith, high)))
  where
    same : (k : ℕ) → k < 2
        → slice_index (take 2 (little_bytes 4 word) ++ little_bytes 2 half) k
        ≡ slice_index (little_bytes 4 word) k
    same zero below = refl
    same (suc zero) below = refl
    same (suc (suc k)) below = absurd (omega arith)

-- a half's place in its word
pub half_place : (at : ℕ) → at % 2 ≡ 0 → (at % 4 ≡ 0) ⊎ (at % 4 ≡ 2)
half_place at aligned = elim (cases_eq (at % 4) 0) [ inl low ↦ inl low | inr high ↦ inr (omega arith) ]

-- ---- in a memory, where the word at an address became one with another byte or half, and all others stayed

pub other_bytes : (old new : Contents) (at byte : ℕ) → byte < 256
    → word_at new at ≡ with_byte_in (word_at old at) (at % 4) byte
    → ((address : ℕ) → address / 4 ≢ at / 4 → word_at new address ≡ word_at old address)
    → (address : ℕ) → address ≢ at → byte_at new address ≡ byte_at old address
other_bytes old new at byte fits stored words address apart = elim (cases_eq (address / 4) (at / 4)) [
  | inl same ↦
      let place : address % 4 ≢ at % 4 = λ e. apart (omega (arith, e, same)) in
      let there : word_at new address ≡ with_byte_in (word_at old at) (at % 4) byte =
      ap (λ (k : ℕ). slice_index new.words k) same ∙ stored in
      let here : word_at old address ≡ word_at old at = ap (λ (k : ℕ). slice_index old.words k) same in
      ap (λ (word : ℕ). byte_in word (address % 4)) there
      ∙ byte_in-with_other (word_at old at) (at % 4) byte (address % 4) (omega arith) fits place
      ∙ ap (λ (word : ℕ). byte_in word (address % 4)) (sym here)
  | inr other ↦ ap (λ (word : ℕ). byte_in word (address % 4)) (words address other)
]

pub other_halves : (old new : Contents) (at half : ℕ) → at % 2 ≡ 0 → half < 2 ^ 16
    → word_at new at ≡ with_half_in (word_at old at) (at % 4) half
    → ((address : ℕ) → address / 4 ≢ at / 4 → word_at new address ≡ word_at old address)
    → (address : ℕ) → address / 2 ≢ at / 2 → byte_at new address ≡ byte_at old address
other_halves old new at half aligned fits stored words address apart = elim (cases_eq (address / 4) (at / 4)) [
  | inl same ↦
      let place : address % 4 / 2 ≢ at % 4 / 2 = λ e. apart (omega (arith, e, same)) in
      let there : word_at new address ≡ with_half_in (word_at old at) (at % 4) half =
      ap (λ (k : ℕ). slice_index new.words k) same ∙ stored in
      let here : word_at old address ≡ word_at old at = ap (λ (k : ℕ). slice_index old.words k) same in
      ap (λ (word : ℕ). byte_in word (address % 4)) there
      ∙ byte_in-with_half (word_at old at) (at % 4) half (address % 4) (half_place at aligned) fits (omega arith) place
      ∙ ap (λ (word : ℕ). byte_in word (address % 4)) (sym here)
  | inr other ↦ ap (λ (word : ℕ). byte_in word (address % 4)) (words address other)
]
