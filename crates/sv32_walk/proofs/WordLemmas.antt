-- The fields of the words that the kernel writes.
use Rattle.std.proofs.Common.{arith, ◌≡◌, ◌∙◌, ap, sym, refl, inl, inr, ◌⊎◌, ℕ, ◌+◌, ◌*◌, ◌/◌, ◌%◌, ◌^◌, ◌<◌, Bool, true, false, ◌&&◌, ◌||◌, eqb, eqb-true}
use Rattle.tp_base.specs.Rights.{are_good}
use Rattle.sv32_walk.specs.declared.access.Access.{Access}
use Rattle.sv32_walk.specs.declared.access.Access.TheVariants.{Fetch, Load, Store}
use Rattle.sv32_walk.specs.PageTableEntry.{bit, valid, readable, writable, executable, user, accessed, dirty, ppn, is_leaf, permits, rights_permit, table_word, leaf_bits, leaf_word}
use Rattle.sv32_walk.specs.Translation.{Allows, Points}
use Rattle.sv32_walk.proofs.EntryLemmas.{allowed-leaf, not_reserved, allowed}

-- ---- zero

pub valid-zero : valid 0 ≡ false
unfolding bit
valid-zero = refl

-- ---- a pointer

pub ppn-table : (frame : ℕ) → ppn (table_word frame) ≡ frame
unfolding ppn table_word
ppn-table frame = omega arith

pub points-table : (frame : ℕ) → Points (table_word frame)
unfolding bit table_word
points-table frame = record {
  is_valid = ap (λ (n : ℕ). eqb n 1) (let e : (frame * 1024 + 1) / 2 ^ 0 % 2 ≡ 1 = omega arith in e);
  no_read = ap (λ (n : ℕ). eqb n 1) (let e : (frame * 1024 + 1) / 2 ^ 1 % 2 ≡ 0 = omega arith in e);
  no_write = ap (λ (n : ℕ). eqb n 1) (let e : (frame * 1024 + 1) / 2 ^ 2 % 2 ≡ 0 = omega arith in e);
  no_execute = ap (λ (n : ℕ). eqb n 1) (let e : (frame * 1024 + 1) / 2 ^ 3 % 2 ≡ 0 = omega arith in e);
  no_user = ap (λ (n : ℕ). eqb n 1) (let e : (frame * 1024 + 1) / 2 ^ 4 % 2 ≡ 0 = omega arith in e);
  no_accessed = ap (λ (n : ℕ). eqb n 1) (let e : (frame * 1024 + 1) / 2 ^ 6 % 2 ≡ 0 = omega arith in e);
  no_dirty = ap (λ (n : ℕ). eqb n 1) (let e : (frame * 1024 + 1) / 2 ^ 7 % 2 ≡ 0 = omega arith in e);
}

-- ---- a leaf

data Good (rights : ℕ) : Type 0 where
  read : rights ≡ 1 → Good rights
  read_write : rights ≡ 3 → Good rights
  execute : rights ≡ 4 → Good rights
  read_execute : rights ≡ 5 → Good rights
  all_three : rights ≡ 7 → Good rights

one_of : (a b : Bool) → a || b ≡ true → (a ≡ true) ⊎ (b ≡ true)
one_of true b e = inl refl
one_of false b e = inr e

good : (rights : ℕ) → are_good rights ≡ true → Good rights
good rights e = elim (one_of _ _ e) [
  | inl is ↦ read (eqb-true rights 1 is)
  | inr e ↦ elim (one_of _ _ e) [
    | inl is ↦ read_write (eqb-true rights 3 is)
    | inr e ↦ elim (one_of _ _ e) [
      | inl is ↦ execute (eqb-true rights 4 is)
      | inr e ↦ elim (one_of _ _ e) [
        | inl is ↦ read_execute (eqb-true rights 5 is)
        | inr is ↦ all_three (eqb-true rights 7 is)
      ]
    ]
  ]
]

few : (rights : ℕ) → Good rights → rights < 8
few rights (read e) = omega arith
few rights (read_write e) = omega arith
few rights (execute e) = omega arith
few rights (read_execute e) = omega arith
few rights (all_three e) = omega arith

reads_too : (rights : ℕ) → Good rights → rights / 2 % 2 ≡ 1 → rights % 2 ≡ 1
reads_too rights (read e) w = omega arith
reads_too rights (read_write e) w = omega arith
reads_too rights (execute e) w = omega arith
reads_too rights (read_execute e) w = omega arith
reads_too rights (all_three e) w = omega arith

-- the bit of a leaf's word at a place, where the low part of the word has that bit
leaf_bit : (frame rights place bits : ℕ)
    → (frame * 1024 + (1 + 16 + 64 + rights * 2 + rights / 2 % 2 * 128)) / 2 ^ place % 2 ≡ bits
    → bit (leaf_word frame rights) place ≡ eqb bits 1
unfolding bit leaf_word leaf_bits
leaf_bit frame rights place bits e = ap (λ (n : ℕ). eqb n 1) e

module _ (frame rights : ℕ) (is_good : are_good rights ≡ true) where
  few_rights : rights < 8
  few_rights = few rights (good rights is_good)

  pub valid-leaf : valid (leaf_word frame rights) ≡ true
  valid-leaf = let f : rights < 8 = few_rights in leaf_bit frame rights 0 1 (omega arith)

  readable-leaf : readable (leaf_word frame rights) ≡ rights_permit rights Load
  unfolding rights_permit
  readable-leaf = let f : rights < 8 = few_rights in leaf_bit frame rights 1 (rights % 2) (omega arith)

  writable-leaf : writable (leaf_word frame rights) ≡ rights_permit rights Store
  unfolding rights_permit
  writable-leaf = let f : rights < 8 = few_rights in leaf_bit frame rights 2 (rights / 2 % 2) (omega arith)

  executable-leaf : executable (leaf_word frame rights) ≡ rights_permit rights Fetch
  unfolding rights_permit
  executable-leaf = let f : rights < 8 = few_rights in leaf_bit frame rights 3 (rights / 4 % 2) (omega arith)

  user-leaf : user (leaf_word frame rights) ≡ true
  user-leaf = let f : rights < 8 = few_rights in leaf_bit frame rights 4 1 (omega arith)

  pub accessed-leaf : accessed (leaf_word frame rights) ≡ true
  accessed-leaf = let f : rights < 8 = few_rights in leaf_bit frame rights 6 1 (omega arith)

  dirty-store : dirty (leaf_word frame rights) ≡ rights_permit rights Store
  unfolding rights_permit
  dirty-store = let f : rights < 8 = few_rights in leaf_bit frame rights 7 (rights / 2 % 2) (omega arith)

  -- D stands with W
  pub dirty-leaf : dirty (leaf_word frame rights) ≡ writable (leaf_word frame rights)
  dirty-leaf = dirty-store ∙ sym writable-leaf

  pub ppn-leaf : ppn (leaf_word frame rights) ≡ frame
  unfolding ppn leaf_word leaf_bits
  ppn-leaf = let f : rights < 8 = few_rights in omega arith

  reads_with_writes : writable (leaf_word frame rights) ≡ true → readable (leaf_word frame rights) ≡ true
  unfolding rights_permit
  reads_with_writes w =
      let e : eqb (rights / 2 % 2) 1 ≡ true = sym writable-leaf ∙ w in
      readable-leaf ∙ ap (λ (n : ℕ). eqb n 1) (reads_too rights (good rights is_good) (eqb-true (rights / 2 % 2) 1 e))

permitted : (u r m p : Bool) → u ≡ true → r ≡ p → m ≡ true → u && (r && m) ≡ p
permitted true true m true u_is r_is m_is = m_is
permitted true false m false u_is r_is m_is = refl
permitted true true m false u_is r_is m_is = absurd (cc)
permitted true false m true u_is r_is m_is = absurd (cc)
permitted false r m p u_is r_is m_is = absurd (cc)

permitted_store : (u r a d p : Bool) → u ≡ true → r ≡ p → a ≡ true → d ≡ p → u && (r && (a && d)) ≡ p
permitted_store true true true true true u_is r_is a_is d_is = refl
permitted_store true false a d false u_is r_is a_is d_is = refl
permitted_store true true a d false u_is r_is a_is d_is = absurd (cc)
permitted_store true false a d true u_is r_is a_is d_is = absurd (cc)
permitted_store true true false d true u_is r_is a_is d_is = absurd (cc)
permitted_store true true true false true u_is r_is a_is d_is = absurd (cc)
permitted_store false r a d p u_is r_is a_is d_is = absurd (cc)

-- a leaf permits what its rights permit
pub permits-leaf : (frame rights : ℕ) (access : Access) → are_good rights ≡ true
    → permits access (leaf_word frame rights) ≡ rights_permit rights access
permits-leaf frame rights Fetch is_good =
    permitted _ _ _ _ (user-leaf frame rights is_good) (executable-leaf frame rights is_good) (accessed-leaf frame rights is_good)
permits-leaf frame rights Load is_good =
    permitted _ _ _ _ (user-leaf frame rights is_good) (readable-leaf frame rights is_good) (accessed-leaf frame rights is_good)
permits-leaf frame rights Store is_good =
    permitted_store _ _ _ _ _ (user-leaf frame rights is_good) (writable-leaf frame rights is_good)
    (accessed-leaf frame rights is_good) (dirty-store frame rights is_good)

pub allows-leaf : (frame rights : ℕ) (access : Access) → are_good rights ≡ true
    → rights_permit rights access ≡ true
    → Allows access (leaf_word frame rights)
allows-leaf frame rights access is_good given =
    allowed access (leaf_word frame rights)
    (not_reserved _ _ _ (valid-leaf frame rights is_good) (reads_with_writes frame rights is_good))
    (permits-leaf frame rights access is_good ∙ given)

pub refuses-leaf : (frame rights : ℕ) (access : Access) → are_good rights ≡ true
    → rights_permit rights access ≡ false
    → permits access (leaf_word frame rights) ≡ false
refuses-leaf frame rights access is_good refused = permits-leaf frame rights access is_good ∙ refused

-- a good right is to read, or to execute
some_right : (rights : ℕ) → Good rights
    → (rights_permit rights Load ≡ true) ⊎ (rights_permit rights Fetch ≡ true)
unfolding rights_permit
some_right rights (read e) = inl (ap (λ (n : ℕ). eqb n 1) (let m : rights % 2 ≡ 1 = omega arith in m))
some_right rights (read_write e) = inl (ap (λ (n : ℕ). eqb n 1) (let m : rights % 2 ≡ 1 = omega arith in m))
some_right rights (execute e) = inr (ap (λ (n : ℕ). eqb n 1) (let m : rights / 4 % 2 ≡ 1 = omega arith in m))
some_right rights (read_execute e) = inl (ap (λ (n : ℕ). eqb n 1) (let m : rights % 2 ≡ 1 = omega arith in m))
some_right rights (all_three e) = inl (ap (λ (n : ℕ). eqb n 1) (let m : rights % 2 ≡ 1 = omega arith in m))

pub leaf-good : (frame rights : ℕ) → are_good rights ≡ true → is_leaf (leaf_word frame rights) ≡ true
leaf-good frame rights is_good = elim (some_right rights (good rights is_good)) [
  | inl reads ↦ allowed-leaf Load (leaf_word frame rights) (allows-leaf frame rights Load is_good reads)
  | inr runs ↦ allowed-leaf Fetch (leaf_word frame rights) (allows-leaf frame rights Fetch is_good runs)
]
