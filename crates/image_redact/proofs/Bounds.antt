-- The bound on the switch out of an emptied domain's slot is no larger than it was.
use Rattle.std.proofs.Common.{◌≡◌, ℕ, zero, suc, ◌+◌, ◌≤◌, Bool, true, false, List, [], ◌∷◌, Option, None, refl, sym, ap, subst, arith}
use Rattle.std.specs.Prelude.{ℤ, pos, negsuc, int_lt, nat_eq}
use Rattle.std.proofs.lemmas.Bool.Decides.{nat_tests}
use Rattle.cycle_cost.specs.Costs.{CostTable}
use Rattle.kernel_clone.specs.Permissions.{may_make, calls_below}
use Rattle.pad_bound.specs.Bound.{most_written, bound_of}
use Rattle.pad_bound.specs.Worst.{AreNoDearer}
use Rattle.pad_bound.proofs.Parts.{no_smaller}
use Rattle.image_record.specs.Record.{RawDomain, RawEntry}
use Rattle.image_record.specs.Cases.{refusal}
use Rattle.image_record.proofs.FirstCases.{if_first}
use Rattle.hardware_check.specs.Hardware.{Hardware}
use Rattle.domain_check.specs.Calls.{calls_in}
use Rattle.image_check.specs.Own.{own_from, owns_from, own_at}
use Rattle.image_check.specs.Pads.{shape_for, k17_case}
use Rattle.image_redact.specs.Redacted.{exit_alone, emptied}
use Rattle.image_redact.proofs.Lists.{at, from, at_either, Placed}

-- on every machine the first calls have no larger bound than the second
abbrev pub NoMore : ℕ → ℕ → Type 0
NoMore calls others = (h : Hardware) → bound_of (shape_for h calls) ≤ bound_of (shape_for h others)

same_calls : (calls others : ℕ) → calls ≡ others → NoMore calls others
same_calls calls others same h = let e = ap (λ n. bound_of (shape_for h n)) same in omega (arith, e)

-- EXIT writes nothing
exit_writes_none : (line : ℕ) → most_written 1 line ≡ 0
unfolding most_written may_make
exit_writes_none line = refl

same_costs : (c : CostTable) → AreNoDearer c c
same_costs c = record {
  base = omega arith;
  l1 = omega arith;
  l2 = omega arith;
  mem = omega arith;
  wb = omega arith;
  tlb = omega arith;
  mispredict = omega arith;
  trap = omega arith;
  flush = omega arith;
}

exit_least : (calls : ℕ) → NoMore 1 calls
exit_least calls h =
    let none = exit_writes_none h.line in
    no_smaller (shape_for h 1) (shape_for h calls) (record {
      costs = same_costs h.costs;
      line = refl;
      shared = refl;
      sets = refl;
      ways = refl;
      written = omega (arith, none);
      again = omega arith;
      product = omega arith;
    })

exit_alone_least : (b : Bool) (version : ℕ) (calls : Option (List ℤ)) → nat_eq version 1 ≡ b
    → (version ≡ 1 → calls ≡ None) → NoMore (calls_in (exit_alone version)) (calls_in calls)
unfolding calls_in calls_below
exit_alone_least true version calls first none =
    let is : version ≡ 1 = grind (arith, nat_tests, first) in
    same_calls _ _ (ap calls_in (rw first (sym (none is))))
exit_alone_least false version calls later none =
    subst (λ c. NoMore c (calls_in calls)) (one version later) (exit_least (calls_in calls))
  where
    one : (n : ℕ) → nat_eq n 1 ≡ false → 1 ≡ calls_in (exit_alone n)
    one n e = rw e refl

module _ (v : ℕ) (kept : List Bool) (taken : List (List ℕ)) (mail : Bool) where
  one_least : (n : ℕ) (o : RawDomain) → (v ≡ 1 → o.calls ≡ None)
      → NoMore (own_from n mail (at v kept taken n o)).calls (own_from n mail o).calls
  unfolding own_from emptied
  one_least n o says =
      at_either v kept taken (λ x. NoMore (own_from n mail x).calls (own_from n mail o).calls) n o (λ here. same_calls _ _ refl)
      (λ there. exit_alone_least (nat_eq v 1) v o.calls refl says)

  pub each_least : (n : ℕ) (os : List RawDomain) → Placed (λ k o. v ≡ 1 → o.calls ≡ None) n os → (k : ℕ)
      → NoMore (own_at (owns_from n mail (from v kept taken n os)) k).calls (own_at (owns_from n mail os) k).calls
  each_least n [] all k = same_calls _ _ refl
  each_least n (o ∷ os) all zero = one_least n o all.0
  each_least n (o ∷ os) all (suc k) = each_least (n + 1) os all.1 k

-- ---- the rule of pads

long_enough : (less more : ℕ) (pad : ℤ) → less ≤ more → int_lt pad (pos more) ≡ false → int_lt pad (pos less) ≡ false
long_enough less more (pos n) le h = grind (arith, nat_tests, h, le)
long_enough less more (negsuc n) le h = cc

pub still_padded : (less more place : ℕ) (e : RawEntry) → less ≤ more → k17_case more place e ≡ None
    → k17_case less place e ≡ None
unfolding k17_case
still_padded less more place e le h =
    let long = if_first (int_lt e.pad (pos more)) (refusal 17 (pos place) e.pad (pos more)) None h in
    rw (long_enough less more e.pad le long)
