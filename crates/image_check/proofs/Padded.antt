-- What the rule of pads gives, and the machine whose bound it asks for.
use Rattle.std.proofs.Common.{◌≡◌, ℕ, zero, suc, ◌+◌, ◌-◌, ◌*◌, ◌%◌, ◌^◌, ◌<◌, ◌≤◌, Bool, true, false, List, [], ◌∷◌, ◌++◌, length, map, take, get_or, Option, None, Some, refl, sym, ap, ap₂, subst, ◌∙◌, arith, inl, inr}
use Rattle.std.specs.Prelude.{ℤ, pos, negsuc, int_lt, slice_index_or, if◌then◌else◌}
use Rattle.std.specs.Int.{IsPowerOfTwo}
use Rattle.std.proofs.lemmas.Bool.{cases_lt}
use Rattle.std.proofs.lemmas.Bool.Decides.{nat_tests}
use Rattle.std.proofs.lemmas.Nat.{pow-add}
use Rattle.std.proofs.lemmas.List.{get_or-map}
use Rattle.std.proofs.Math.Nat.{mul-mod_left}
use Rattle.std.proofs.Math.Pow.{pow_mono}
use Rattle.hardware_check.proofs.Powers.{power_is}
use Rattle.image_record.specs.Record.{Raw, RawDomain, RawEntry}
use Rattle.cycle_cost.specs.Costs.{ProductCosts}
use Rattle.cycle_cost.specs.Ranges.{most_again, most_product}
use Rattle.kernel_clone.specs.Permissions.{every_call}
use Rattle.pad_bound.specs.Bound.{MachineShape, IsShape, bound_of, with_calls}
use Rattle.pad_bound.proofs.Written.{few_most}
use Rattle.sched_table.specs.declared.schedule.Entry.{Entry}
use Rattle.sched_table.specs.Schedule.{entry_in, no_entry}
use Rattle.image_record.specs.Cases.{or_else, first_case, first_in, refusal}
use Rattle.image_record.specs.Numbers.{natural_of}
use Rattle.hardware_check.specs.Hardware.{Hardware, mul_of, div_of, IsHardware, hardware_of}
use Rattle.hardware_check.proofs.Built.{hardware_law}
use Rattle.image_record.proofs.FirstCases.{if_first, first_in_none}
use Rattle.domain_check.specs.Calls.{own_calls}
use Rattle.image_check.specs.Own.{own_from, owns_from, owns_of, has_mail, own_at}
use Rattle.image_check.specs.Pads.{most_added, shape_for, shape_for_every_call, bound_out_of, k17, k17_case, k17_entry, k17_by}
use Rattle.schedule_check.specs.Schedule.{entry_of}
use Rattle.image_check.specs.Laws.{Keeps, KeepsBeforePads, ShapeLaw}
use Rattle.image_check.proofs.Kept.{kept_but_pads, keeps_hardware}
use Rattle.schedule_check.proofs.Entries.{no_text_entry}

-- ---- the machine

-- a frame has whole lines
whole_power : (k : ℕ) → 2 ^ k ≤ 128 → 4096 % 2 ^ k ≡ 0
whole_power k few =
    elim (cases_lt k 13) [
      | inl below ↦
          let split : 12 ≡ (12 - k) + k = omega (arith, below) in
          let whole : 4096 ≡ 2 ^ (12 - k) * 2 ^ k = ap (λ n. 2 ^ n) split ∙ pow-add 2 (12 - k) k in
          ap (λ n. n % 2 ^ k) whole ∙ mul-mod_left (2 ^ (12 - k)) (2 ^ k)
      | inr above ↦ absurd (let most : 2 ^ 13 ≤ 2 ^ k = pow_mono {i = 13} {j = k} above in omega (arith, most, few))
    ]

whole_frame : (line : ℕ) → IsPowerOfTwo line → line ≤ 128 → 4096 % line ≡ 0
whole_frame line p few = let P : ℕ → Type 0 = λ n. n ≤ 128 → 4096 % n ≡ 0 in subst P (sym p.1) (whole_power p.0) few

-- the larger of a product and of a division with 33 steps
pub few_added : (o : Option ProductCosts) → mul_of o ≤ 1000 → div_of o ≤ 1000 → most_added o ≤ most_product
few_added None mul div = omega arith
few_added (Some c) mul div = omega (arith, mul, div)

few_again_if : (b : Bool) (wb : ℕ) → wb ≤ most_again → (if b then wb else 0) ≤ most_again
few_again_if true wb few = few
few_again_if false wb few = omega arith

shape_sound : (h : Hardware) (calls : ℕ) → IsHardware h → IsShape (shape_for h calls)
shape_sound h calls s = record {
  costs = s.costs;
  least_line = s.line.least;
  most_line = s.line.most;
  whole_frame = whole_frame h.line (power_is h.line s.line.power) s.line.most;
  some_shared = s.some_shared;
  most_shared = s.few_shared;
  whole_shared = s.whole_lines;
  some_sets = s.l1d.sets.least;
  few_sets = s.l1d.sets.most;
  some_ways = s.l1d.some_way;
  few_ways = s.l1d.few_ways;
  few_written = few_most calls h.line s.line.least;
  few_again = few_again_if h.back h.costs.wb s.costs.wb.few;
  few_product = few_added h.muldiv s.few_mul s.few_div;
}

pub shape_before_pads : (i : Raw) (calls : ℕ) → KeepsBeforePads i → IsShape (shape_for (hardware_of i) calls)
shape_before_pads i calls k = shape_sound (hardware_of i) calls (hardware_law i (keeps_hardware i k))

pub shape_law : ShapeLaw
shape_law i calls e = shape_before_pads i calls (kept_but_pads i e).before

-- ---- pads

not_short : (bound : ℕ) (x : ℤ) → int_lt x (pos bound) ≡ false → bound ≤ natural_of x
not_short bound (pos n) h = grind (arith, nat_tests, h)
not_short bound (negsuc n) h = cc

long_pad : (bound place : ℕ) (e : RawEntry) → k17_case bound place e ≡ None → bound ≤ (entry_of e).pad
unfolding k17_case entry_of
long_pad bound place e n = not_short bound e.pad (if_first (int_lt e.pad (pos bound)) (refusal 17 (pos place) e.pad (pos bound)) None n)

-- the pad of an entry is enough for its domain
IsEnough : Raw → Entry → Type 0
IsEnough i x = bound_of (shape_for (hardware_of i) (own_at (owns_of i) x.domain).calls) ≤ x.pad

entry_enough : (i : Raw) (place : ℕ) (e : RawEntry) → k17_case (bound_out_of i e.domain) place e ≡ None
    → IsEnough i (entry_of e)
unfolding entry_of bound_out_of IsEnough
entry_enough i place e n = long_pad (bound_out_of i e.domain) place e n

pub pads_enough : (i : Raw) → Keeps i → (e : ℕ) → e < length i.schedule
    → let x = entry_in (map entry_of i.schedule) e in
    bound_of (shape_for (hardware_of i) (own_at (owns_of i) x.domain).calls) ≤ x.pad
unfolding k17 IsEnough
pads_enough i k e l =
    let here = first_in_none (k17_entry i) i.schedule k.pads e l no_text_entry in
    let enough = entry_enough i (length (take e i.schedule)) (get_or i.schedule e no_text_entry) here in
    subst (IsEnough i) (sym (get_or-map entry_of i.schedule e no_text_entry no_entry l)) enough

-- ---- the calls of each domain, as the code has them

calls_at : (first : ℕ) (mail : Bool) (ds : List RawDomain) (n : ℕ)
    → (own_at (owns_from first mail ds) n).calls ≡ slice_index_or (map own_calls ds) n every_call
unfolding own_from
calls_at first mail [] n = refl
calls_at first mail (o ∷ ds) zero = refl
calls_at first mail (o ∷ ds) (suc n) = calls_at (first + 1) mail ds n

same_cases : {A R : Type 0} (f g : List A → A → Option R)
    → ((earlier : List A) (x : A) → f earlier x ≡ g earlier x)
    → (earlier xs : List A) → first_case f earlier xs ≡ first_case g earlier xs
same_cases f g same earlier [] = refl
same_cases f g same earlier (x ∷ xs) =
    ap₂ (λ (o rest : Option _). or_else o rest) (same earlier x) (same_cases f g same (earlier ++ x ∷ []) xs)

by_calls : (i : Raw) (earlier : List RawEntry) (e : RawEntry)
    → k17_by (shape_for_every_call (hardware_of i)) (map own_calls i.domains) earlier e
    ≡ k17_entry i earlier e
unfolding bound_out_of owns_of
by_calls i earlier e =
    ap (λ (calls : ℕ). k17_case (bound_of (shape_for (hardware_of i) calls)) (length earlier) e)
    (sym (calls_at 0 (has_mail i) i.domains (natural_of e.domain)))

pub k17_by_calls : (i : Raw)
    → first_in (k17_by (shape_for_every_call (hardware_of i)) (map own_calls i.domains)) i.schedule ≡ k17 i
unfolding k17
k17_by_calls i =
    same_cases (k17_by (shape_for_every_call (hardware_of i)) (map own_calls i.domains)) (k17_entry i)
    (by_calls i) [] i.schedule

-- an entry's case, of the calls and the bound that the code has of it
pub k17_by_case : (s : MachineShape) (calls : List ℕ) (earlier : List RawEntry) (e : RawEntry)
    (leaving total place : ℕ)
    → leaving ≡ slice_index_or calls (natural_of e.domain) every_call → total ≡ bound_of (with_calls s leaving) → length earlier ≡ place
    → k17_by s calls earlier e ≡ k17_case total place e
k17_by_case s calls earlier e leaving total place may bound here =
    ap (λ (n : ℕ). k17_case (bound_of (with_calls s n)) (length earlier) e) (sym may)
    ∙ ap (λ (n : ℕ). k17_case n (length earlier) e) (sym bound)
    ∙ ap (λ (n : ℕ). k17_case total n e) here
