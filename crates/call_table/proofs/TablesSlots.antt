-- Slots of capabilities and what they claim.
use Rattle.std.proofs.Common.{◌≡◌, ◌≢◌, ◌⊎◌, ◌∙◌, ap, sym, subst, inl, inr, ℕ, ◌<◌, length, get_or-set_same, get_or-set_other, length-set, arith, Option, Some, None}
use Rattle.std.specs.Prelude.{map}
use Rattle.std.proofs.lemmas.Bool.{cases_eq, cases_lt}
use Rattle.std.proofs.lemmas.List.{get_or_past, get_or_append_left, get_or-map, length-map}
use Rattle.cap_table.specs.declared.Cap.{Cap}
use Rattle.cap_table.specs.Slots.{Slots, cap_at, with_cap}
use Rattle.call_table.specs.Claims.{Claim, Estate, claim_of, all_claims, claims}

-- a slot that is filled is one of them
pub filled_within : (caps : Slots) (i : ℕ) (c : Cap) → cap_at caps i ≡ Some c → i < length caps
filled_within caps i c e = elim (cases_lt i (length caps)) [
  | inl below ↦ below
  | inr past ↦ let no : None ≡ Some c = sym (get_or_past caps i None past) ∙ e in absurd (cc no)
]

pub claim_within : (e : Estate) (caps : Slots) (i : ℕ) → i < length caps
    → claims e caps i ≡ claim_of (cap_at caps i)
unfolding claims all_claims
claim_within e caps i below =
    get_or_append_left (map claim_of caps) e.fixed Claim.Nothing i (omega (arith, below, length-map caps claim_of))
    ∙ get_or-map claim_of caps i None Claim.Nothing below

pub claim_at : (e : Estate) (caps : Slots) (i : ℕ) (c : Cap) → cap_at caps i ≡ Some c
    → claims e caps i ≡ claim_of (Some c)
claim_at e caps i c is = claim_within e caps i (filled_within caps i c is) ∙ ap claim_of is

pub cap_same : (caps : Slots) (a : ℕ) (c : Option Cap) → a < length caps → cap_at (with_cap caps a c) a ≡ c
cap_same caps a c below = get_or-set_same caps a c None below

pub cap_other : (caps : Slots) (a i : ℕ) (c : Option Cap) → i ≢ a
    → cap_at (with_cap caps a c) i ≡ cap_at caps i
cap_other caps a i c apart = get_or-set_other caps a i c None apart

-- a slot that is filled after one was set was that one, or was filled before
pub cap_by : (caps : Slots) (a i : ℕ) (c : Option Cap) (x : Cap) → cap_at (with_cap caps a c) i ≡ Some x
    → ((i ≡ a) × (c ≡ Some x)) ⊎ ((i ≢ a) × (cap_at caps i ≡ Some x))
cap_by caps a i c x is = elim (cases_eq i a) [
  | inl e ↦
      let at : cap_at (with_cap caps a c) a ≡ Some x = subst (λ (j : ℕ). cap_at (with_cap caps a c) j ≡ Some x) e is in
      let below : a < length caps = subst (λ (n : ℕ). a < n) (length-set caps a c) (filled_within (with_cap caps a c) a x at) in
      inl (e, sym (cap_same caps a c below) ∙ at)
  | inr n ↦ inr (n, sym (cap_other caps a i c n) ∙ is)
]
