-- The claims of a slot, and what names a frame.
use Rattle.std.proofs.Common.{◌≡◌, ◌≢◌, ℕ, zero, suc, ◌+◌, ◌-◌, ◌<◌, Bool, true, false, true≢false, not, eqb-true, lt-ltb, Option, Some, None, List, [], ◌∷◌, ◌++◌, length, get_or, inl, inr, refl, ap, sym, subst, ◌∙◌, arith, ◌&&◌}
use Rattle.std.specs.Prelude.{map, filter, nat_eq, slice_get, slice_index_or}
use Rattle.std.proofs.lemmas.Bool.{cases_eq, cases_lt}
use Rattle.std.proofs.lemmas.List.{get_or_append_left, get_or-append-add, get_or-set_same, get_or-set_other, length-set}
use Rattle.std.proofs.Math.ListN.{get_or-map, length-map}
use Rattle.std.proofs.lemmas.Map.Views.{any-filter_same}
use mathlib.Core.Path.{fun_ext}
use Rattle.frame_colours.specs.Colours.{IsOwn, has, pool}
use Rattle.frame_colours.proofs.Ascending.{has_head, has_other}
use Rattle.frame_colours.proofs.Pools.{IsOwn-pool}
use Rattle.cap_table.specs.declared.Cap.{Cap}
use Rattle.cap_table.specs.Slots.{Slots, cap_at, with_cap}
use Rattle.call_table.specs.Claims.{Claim, Estate, is_mine, frame_of, claim_of, claims, all_claims, push_frame, frames_in, is_named, free_frames, least_free}
use Rattle.call_table.proofs.ClaimLaws.{with_claim, claim_same, claim_other}

-- ---- the claim of a slot

module _ (e : Estate) (caps : Slots) (long : length caps ≡ 64) where
  map_long : length (map claim_of caps) ≡ 64
  map_long = length-map caps claim_of ∙ long

  pub claims_at : (a : ℕ) → a < 64 → claims e caps a ≡ claim_of (cap_at caps a)
  unfolding claims all_claims claim_of
  claims_at a below =
      let within : a < length (map claim_of caps) = omega (arith, below, map_long) in
      get_or_append_left (map claim_of caps) e.fixed Claim.Nothing a within ∙ get_or-map claim_of caps a None

  -- what is claimed for good stands after the slots
  pub claims_fixed : (n : ℕ) → claims e caps (64 + n) ≡ slice_index_or e.fixed n Claim.Nothing
  unfolding claims all_claims
  claims_fixed n =
      ap (λ (l : ℕ). get_or (map claim_of caps ++ e.fixed) (l + n) Claim.Nothing) (sym map_long)
      ∙ get_or-append-add (map claim_of caps) e.fixed n Claim.Nothing

pub long_set : (caps : Slots) → length caps ≡ 64 → (a : ℕ) (x : Option Cap) → length (with_cap caps a x) ≡ 64
long_set caps long a x = length-set caps a x ∙ long

module _ (e : Estate) (caps : Slots) (long : length caps ≡ 64) (a : ℕ) (x : Option Cap) (below : a < 64) where
  set_here : claims e (with_cap caps a x) a ≡ claim_of x
  set_here = claims_at e (with_cap caps a x) (long_set caps long a x) a below
      ∙ ap claim_of (get_or-set_same caps a x None (omega (arith, below, long)))

  set_there : (i : ℕ) → i ≢ a → claims e (with_cap caps a x) i ≡ claims e caps i
  set_there i other = elim (cases_lt i 64) [
    | inl q ↦ claims_at e (with_cap caps a x) (long_set caps long a x) i q
        ∙ ap claim_of (get_or-set_other caps a i x None other)
        ∙ sym (claims_at e caps long i q)
    | inr q ↦
        let p : 64 + (i - 64) ≡ i = omega (arith, q) in
        subst (λ (j : ℕ). claims e (with_cap caps a x) j ≡ claims e caps j) p
        (claims_fixed e (with_cap caps a x) (long_set caps long a x) (i - 64) ∙ sym (claims_fixed e caps long (i - 64)))
  ]

  -- a slot is set: one claim is changed
  pub claims_set : claims e (with_cap caps a x) ≡ with_claim (claims e caps) a (claim_of x)
  claims_set = fun_ext (λ i. elim (cases_eq i a) [
    | inl q ↦ ap (claims e (with_cap caps a x)) q ∙ set_here ∙ sym (claim_same (claims e caps) a (claim_of x))
        ∙ ap (with_claim (claims e caps) a (claim_of x)) (sym q)
    | inr n ↦ set_there i n ∙ sym (claim_other (claims e caps) a (claim_of x) i n)
  ])

-- ---- what names a frame

pushed : (w : Option ℕ) (fs : List ℕ) (f : ℕ) → has fs f ≡ true → has (push_frame w fs) f ≡ true
pushed None fs f h = h
pushed (Some g) fs f h = elim (cases_eq g f) [
  | inl same ↦ subst (λ (n : ℕ). has (g ∷ fs) n ≡ true) same (has_head g fs)
  | inr other ↦ has_other g f fs other ∙ h
]

listed : (ks : List Claim) (f i : ℕ) → frame_of (slice_index_or ks i Claim.Nothing) ≡ Some f
    → has (frames_in ks) f ≡ true
unfolding frames_in frame_of
listed [] f i e = absurd (cc e)
listed (k ∷ ks) f zero e = subst (λ (w : Option ℕ). has (push_frame w (frames_in ks)) f ≡ true) (sym e) (has_head f (frames_in ks))
listed (k ∷ ks) f (suc i) e = pushed (frame_of k) (frames_in ks) f (listed ks f i e)

-- some claim of a list names a frame
abbrev IsNamedIn : List Claim → ℕ → Type 0
IsNamedIn ks f = (i : ℕ) × (frame_of (slice_index_or ks i Claim.Nothing) ≡ Some f)

named_first : (k : Claim) (ks : List Claim) (f : ℕ) (w : Option ℕ) → frame_of k ≡ w
    → (has (frames_in ks) f ≡ true → IsNamedIn ks f)
    → has (push_frame w (frames_in ks)) f ≡ true → IsNamedIn (k ∷ ks) f
named_first k ks f None e again h = let r = again h in (suc r.0, r.1)
named_first k ks f (Some g) e again h = elim (cases_eq g f) [
  | inl same ↦ (0, e ∙ ap Some same)
  | inr other ↦ let r = again (sym (has_other g f (frames_in ks) other) ∙ h) in (suc r.0, r.1)
]

named_in : (ks : List Claim) (f : ℕ) → has (frames_in ks) f ≡ true → IsNamedIn ks f
unfolding frames_in
named_in [] f h = absurd (true≢false (sym h))
named_in (k ∷ ks) f h = named_first k ks f (frame_of k) refl (named_in ks f) h

pub named_by : (e : Estate) (caps : Slots) (f : ℕ) → is_named e caps f ≡ true
    → (i : ℕ) × (frame_of (claims e caps i) ≡ Some f)
unfolding is_named claims
named_by e caps f h = named_in (all_claims e caps) f h

pub names : (e : Estate) (caps : Slots) (f i : ℕ) → frame_of (claims e caps i) ≡ Some f
    → is_named e caps f ≡ true
unfolding is_named claims
names e caps f i h = listed (all_claims e caps) f i h

pub unnamed : (e : Estate) (caps : Slots) (f : ℕ) → is_named e caps f ≡ false → (i : ℕ)
    → frame_of (claims e caps i) ≡ Some f → ⊥
unnamed e caps f h i x = true≢false (sym (names e caps f i x) ∙ h)

-- ---- what is free

first_has : (xs : List ℕ) (f : ℕ) → slice_get xs 0 ≡ Some f → has xs f ≡ true
first_has [] f e = absurd (cc e)
first_has (x ∷ xs) f e = let same : x ≡ f = cc e in subst (λ (n : ℕ). has (x ∷ xs) n ≡ true) same (has_head x xs)

both_are : (a b : Bool) → not a && b ≡ true → (a ≡ false) × (b ≡ true)
both_are true b e = absurd (true≢false (sym e))
both_are false b e = (refl, e)

-- the frame is the domain's own, and no claim names it
pub record IsFree (e : Estate) (caps : Slots) (f : ℕ) : Type 0 where
  pub own : is_mine e f ≡ true
  pub not_named : is_named e caps f ≡ false

pub own_is_mine : (e : Estate) (f : ℕ) → IsOwn e.share f → is_mine e f ≡ true
own_is_mine e f own = rw (lt-ltb f e.share.frames own.below, own.coloured) refl

pub least_is_free : (e : Estate) (caps : Slots) (f : ℕ) → least_free e caps ≡ Some f → IsFree e caps f
unfolding least_free free_frames
least_is_free e caps f h =
    let there : has (filter (λ n. not (is_named e caps n)) (pool e.share)) f ≡ true =
    first_has (filter (λ n. not (is_named e caps n)) (pool e.share)) f h in
    let parts = both_are (is_named e caps f) (has (pool e.share) f)
    (sym (any-filter_same (λ m. nat_eq m f) (λ n. not (is_named e caps n)) (not (is_named e caps f))
    (λ n same. ap (λ n. not (is_named e caps n)) (eqb-true n f same)) (pool e.share)) ∙ there) in
    record { own = own_is_mine e f (IsOwn-pool e.share f parts.1); not_named = parts.0 }
