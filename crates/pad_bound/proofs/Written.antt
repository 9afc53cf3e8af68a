-- How many lines the calls write that a domain may make.
use Rattle.std.proofs.Common.{◌≡◌, ◌∙◌, ◌≤◌, ◌+◌, ◌/◌, ℕ, Option, Some, None, Bool, true, false, ap, subst, refl, arith, inl, inr, mul-le-mul_right}
use Rattle.std.specs.Prelude.{max, nat_eq, if◌then◌else◌}
use Rattle.std.proofs.lemmas.Bool.{cases_Bool, or_cases, cond_both, eqb-true}
use Rattle.kernel_clone.specs.Footprints.{Layout, call_number}
use Rattle.kernel_clone.specs.Laws.{zeroed_count}
use Rattle.kernel_clone.specs.Permissions.{is_call, may_make, every_call, calls_below}
use Rattle.kernel_clone.specs.declared.operation.Call.{Call}
use Rattle.kernel_clone.specs.declared.operation.Call.TheVariants.{Alloc, Table, Map, Unmap, Delete, Revoke}
use Rattle.pad_bound.specs.Bound.{lines_in_frame, most_entries, if_may, most_written}
use Rattle.pad_bound.specs.Worst.{writes_entry, most_entries_of, AreWithin}

-- ---- one call

-- what is counted where it may not be made, and where it may
few_if : (calls : ℕ) (call : Call) (lines : ℕ) → if_may calls call lines ≤ lines
few_if calls call lines =
    elim (may_make calls (call_number call)) as (λ b. (if b then lines else 0) ≤ lines) [ true ↦ omega arith | false ↦ omega arith ]

all_if : (calls : ℕ) (call : Call) (lines : ℕ) → may_make calls (call_number call) ≡ true
    → lines ≤ if_may calls call lines
all_if calls call lines may =
    let all : if_may calls call lines ≡ lines = ap (λ (b : Bool). if b then lines else 0) may in
    omega (arith, all)

-- of a domain that may make more
more_if : (calls others : ℕ) (call : Call) (lines : ℕ) → AreWithin calls others
    → if_may calls call lines ≤ if_may others call lines
more_if calls others call lines within = elim (cases_Bool (may_make calls (call_number call))) [
  | inl may ↦
      let few = few_if calls call lines in
      let all = all_if others call lines (within (call_number call) may) in
      omega (arith, few, all)
  | inr not ↦
      let none : if_may calls call lines ≡ 0 = ap (λ (b : Bool). if b then lines else 0) not in
      omega (arith, none)
]

-- of a domain that made it
made : (calls op : ℕ) (call : Call) (lines : ℕ) → (is_call op ≡ true → may_make calls op ≡ true)
    → is_call (call_number call) ≡ true → op ≡ call_number call → lines ≤ if_may calls call lines
made calls op call lines permitted is same =
    all_if calls call lines (subst (λ (n : ℕ). may_make calls n ≡ true) same (permitted (ap is_call same ∙ is)))

-- ---- all of them

-- each that writes counts
module _ (calls line : ℕ) where
  alloc_counts : if_may calls Alloc (lines_in_frame line) ≤ most_written calls line
  unfolding most_written
  alloc_counts = omega arith

  table_counts : if_may calls Table 1 ≤ most_written calls line
  unfolding most_written
  table_counts = omega arith

  map_counts : if_may calls Map 1 ≤ most_written calls line
  unfolding most_written
  map_counts = omega arith

  unmap_counts : if_may calls Unmap 1 ≤ most_written calls line
  unfolding most_written
  unmap_counts = omega arith

  delete_counts : if_may calls Delete 1 ≤ most_written calls line
  unfolding most_written
  delete_counts = omega arith

  revoke_counts : if_may calls Revoke most_entries ≤ most_written calls line
  unfolding most_written
  revoke_counts = omega arith

-- lines have 16 bytes or more
pub few_most : (calls line : ℕ) → 16 ≤ line → most_written calls line ≤ 256
unfolding most_written
few_most calls line least =
    let product = mul-le-mul_right (4096 / line) least in
    let lines : 4096 / line ≤ 256 = omega (arith, product) in
    let alloc = few_if calls Alloc (lines_in_frame line) in
    let table = few_if calls Table 1 in
    let map = few_if calls Map 1 in
    let unmap = few_if calls Unmap 1 in
    let delete = few_if calls Delete 1 in
    let revoke = few_if calls Revoke most_entries in
    omega (arith, lines, alloc, table, map, unmap, delete, revoke)

pub every_written : (line : ℕ) → most_written every_call line ≡ max (lines_in_frame line) most_entries
unfolding most_written may_make calls_below
every_written line = refl

pub none_written : (line : ℕ) → most_written 0 line ≡ 0
unfolding most_written may_make
none_written line = refl

pub more_written : (calls others line : ℕ) → AreWithin calls others
    → most_written calls line ≤ most_written others line
unfolding most_written
more_written calls others line within =
    let alloc = more_if calls others Alloc (lines_in_frame line) within in
    let table = more_if calls others Table 1 within in
    let map = more_if calls others Map 1 within in
    let unmap = more_if calls others Unmap 1 within in
    let delete = more_if calls others Delete 1 within in
    let revoke = more_if calls others Revoke most_entries within in
    omega (arith, alloc, table, map, unmap, delete, revoke)

-- ---- the work of an operation

-- the calls that write one entry
one_entry : (calls line op : ℕ) → (is_call op ≡ true → may_make calls op ≡ true) → writes_entry op ≡ true
    → 1 ≤ most_written calls line
one_entry calls line op permitted writes =
    let is : (call : Call) → nat_eq op (call_number call) ≡ true → op ≡ call_number call = λ call. eqb-true op (call_number call) in
    elim (or_cases (nat_eq op (call_number Table)) _ writes) [
      | inl e ↦
          let one = made calls op Table 1 permitted refl (is Table e) in
          let counts = table_counts calls line in
          omega (arith, one, counts)
      | inr more ↦
          elim (or_cases (nat_eq op (call_number Map)) _ more) [
            | inl e ↦
                let one = made calls op Map 1 permitted refl (is Map e) in
                let counts = map_counts calls line in
                omega (arith, one, counts)
            | inr most ↦
                elim (or_cases (nat_eq op (call_number Unmap)) _ most) [
                  | inl e ↦
                      let one = made calls op Unmap 1 permitted refl (is Unmap e) in
                      let counts = unmap_counts calls line in
                      omega (arith, one, counts)
                  | inr e ↦
                      let one = made calls op Delete 1 permitted refl (is Delete e) in
                      let counts = delete_counts calls line in
                      omega (arith, one, counts)
                ]
          ]
    ]

entries_within : (calls line op : ℕ) → (is_call op ≡ true → may_make calls op ≡ true)
    → most_entries_of op ≤ most_written calls line
entries_within calls line op permitted =
    let within : ℕ → Type 0 = λ n. n ≤ most_written calls line in
    cond_both (nat_eq op (call_number Revoke)) most_entries (if writes_entry op then 1 else 0) within
    (λ e.
    let all = made calls op Revoke most_entries permitted refl (eqb-true op (call_number Revoke) e) in
    let counts = revoke_counts calls line in
    omega (arith, all, counts))
    (λ other. cond_both (writes_entry op) 1 0 within (one_entry calls line op permitted) (λ none. omega arith))

-- an ALLOC zeroes a frame and writes no entry; what is no ALLOC zeroes none
pub work_within : (calls : ℕ) (l : Layout) (op : ℕ) (zeroed : Option ℕ) (entries : ℕ)
    → ((frame : ℕ) → zeroed ≡ Some frame → op ≡ call_number Alloc) → entries ≤ most_entries_of op
    → (is_call op ≡ true → may_make calls op ≡ true) → zeroed_count l zeroed + entries ≤ most_written calls l.line
work_within calls l op None entries zeroes few permitted =
    let within = entries_within calls l.line op permitted in
    omega (arith, few, within)
work_within calls l op (Some frame) entries zeroes few permitted =
    let alloc : op ≡ call_number Alloc = zeroes frame refl in
    let none : entries ≤ 0 = subst (λ (n : ℕ). entries ≤ most_entries_of n) alloc few in
    let all = made calls op Alloc (lines_in_frame l.line) permitted refl alloc in
    let counts = alloc_counts calls l.line in
    omega (arith, none, all, counts)
