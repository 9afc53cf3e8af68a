-- Which frames are free after a slot was set, emptied or kept: the pool of an estate by what its slots name.
use Rattle.std.proofs.Common.{arith, ◌≡◌, ◌≢◌, ◌∙◌, ap, sym, subst, refl, inl, inr, ℕ, suc, ◌+◌, ◌-◌, ◌<◌, ◌≤◌, Bool, true, false, true≢false, not, cond, eqb-true, ◌&&◌, List, [], ◌∷◌, length, drop, Option, Some, None}
use Rattle.std.specs.Prelude.{filter, nat_eq, slice_get}
use Rattle.std.proofs.lemmas.Bool.{cases_eq, cases_lt, false_from_ne_true}
use Rattle.std.proofs.lemmas.List.{get_or_past}
use Rattle.std.proofs.lemmas.Map.Views.{any-filter_same}
use Rattle.phys_mem.specs.Mem.{Mem}
use Rattle.frame_colours.specs.Colours.{IsOwn, has, pool}
use Rattle.frame_colours.specs.FreeList.{FreeList, IsFreeList, is_free, without_least, with_frame}
use Rattle.frame_colours.proofs.Ascending.{Ascends, Ascends-less, increasing_from_Ascends, has_other}
use Rattle.frame_colours.proofs.Pools.{Ascends-pool, pool_has, IsOwn-pool}
use Rattle.frame_colours.proofs.Placed.{least_is_gone, without_least_is_free_list, with_frame_is_free_list, placed_has_it, placed_has_other, free_list_determined}
use Rattle.cap_table.specs.declared.Cap.{Cap}
use Rattle.cap_table.specs.declared.Cap.TheVariants as cap
use Rattle.cap_table.specs.Slots.{Slots, cap_at, with_cap, page_of, table_of}
use Rattle.cap_table.specs.Owning.{NoOther}
use Rattle.call_table.specs.Claims.{Estate, is_mine, frame_of, is_shared, claim_of, claims, is_named, free_frames, Facts, IsEstate}
use Rattle.call_table.proofs.ClaimLaws.{claim_same, claim_other}
use Rattle.call_table.proofs.ClaimLawsSlots.{claims_at, claims_fixed, claims_set, named_by, names, unnamed}
use Rattle.call_table.proofs.TablesSlots.{claim_within}
use Rattle.call_table.proofs.TablesMeaning.{mine_is_own}

-- the free frames of slots
abbrev pub free_of : Estate → Slots → FreeList
free_of e caps = record { share = e.share; free = free_frames e caps }

-- ---- what stands in them

Ascends-filter : (p : ℕ → Bool) (xs : List ℕ) (b : ℕ) → Ascends b xs → Ascends b (filter p xs)
unfolding Ascends
Ascends-filter p [] b up = tt
Ascends-filter p (x ∷ xs) b up = by_case (p x) (Ascends-filter p xs (suc x) up.1)
  where
    by_case : (t : Bool) → Ascends (suc x) (filter p xs) → Ascends b (cond t (x ∷ filter p xs) (filter p xs))
    by_case true rest = (up.0, rest)
    by_case false rest = let first : b ≤ x = up.0 in Ascends-less (filter p xs) (suc x) b (omega arith) rest

pub free_has : (e : Estate) (caps : Slots) (f : ℕ)
    → is_free (free_of e caps) f ≡ (not (is_named e caps f) && has (pool e.share) f)
unfolding free_frames
free_has e caps f =
    any-filter_same (λ m. nat_eq m f) (λ n. not (is_named e caps n)) (not (is_named e caps f))
    (λ n same. ap (λ n. not (is_named e caps n)) (eqb-true n f same)) (pool e.share)

second : (a b : Bool) → (a && b) ≡ true → b ≡ true
second true b h = h
second false b h = absurd (true≢false (sym h))

pub free_sound : (e : Estate) (caps : Slots) → IsFreeList (free_of e caps)
unfolding free_frames
free_sound e caps = record {
  increasing =
      increasing_from_Ascends (free_frames e caps) 0
      (Ascends-filter (λ n. not (is_named e caps n)) (pool e.share) 0 (Ascends-pool e.share));
  own = λ f there. IsOwn-pool e.share f (second (not (is_named e caps f)) (has (pool e.share) f) (sym (free_has e caps f) ∙ there));
}

-- a frame that is named isn't free
pub named_out : (e : Estate) (caps : Slots) (f : ℕ) → is_named e caps f ≡ true
    → is_free (free_of e caps) f ≡ false
named_out e caps f named = free_has e caps f ∙ ap (λ b. not b && has (pool e.share) f) named

-- frames that are named alike are free alike
pub free_alike : (e : Estate) (caps new : Slots) (f : ℕ) → is_named e caps f ≡ is_named e new f
    → is_free (free_of e caps) f ≡ is_free (free_of e new) f
free_alike e caps new f same = free_has e caps f ∙ ap (λ b. not b && has (pool e.share) f) same ∙ sym (free_has e new f)

-- slots that name the same frames leave the same free
pub same_free : (e : Estate) (caps new : Slots) → ((f : ℕ) → is_named e caps f ≡ is_named e new f)
    → free_of e caps ≡ free_of e new
same_free e caps new same =
    free_list_determined (free_of e caps) (free_of e new) refl (free_sound e caps) (free_sound e new)
    (λ f. free_alike e caps new f (same f))

-- the least frame is named too
pub least_taken : (e : Estate) (caps new : Slots) (f : ℕ) → slice_get (free_frames e caps) 0 ≡ Some f
    → is_named e new f ≡ true
    → ((g : ℕ) → g ≢ f → is_named e caps g ≡ is_named e new g) → without_least (free_of e caps) ≡ free_of e new
least_taken e caps new f least named others =
    free_list_determined (without_least (free_of e caps)) (free_of e new) refl
    (without_least_is_free_list (free_of e caps) (free_sound e caps)) (free_sound e new) (λ g. elim
    (cases_eq g f) [
      | inl same ↦ subst (λ (g : ℕ). has (drop 1 (free_frames e caps)) g ≡ is_free (free_of e new) g) (sym same)
          (gone (free_frames e caps) least (free_sound e caps) ∙ sym (named_out e new f named))
      | inr other ↦ there g other (free_frames e caps) least ∙ free_alike e caps new g (others g other)
    ])
  where
    gone : (xs : List ℕ) → slice_get xs 0 ≡ Some f → IsFreeList (record { share = e.share; free = xs })
        → has (drop 1 xs) f ≡ false
    gone [] first sound = absurd (cc first)
    gone (x ∷ xs) first sound = let same : x ≡ f = cc first in
        subst (λ (g : ℕ). has xs g ≡ false) same (least_is_gone e.share x xs sound)

    there : (g : ℕ) → g ≢ f → (xs : List ℕ) → slice_get xs 0 ≡ Some f → has (drop 1 xs) g ≡ has xs g
    there g other [] first = absurd (cc first)
    there g other (x ∷ xs) first = let same : x ≡ f = cc first in
        sym (has_other x g xs (λ q. other (sym q ∙ same)))

-- one frame is named no more
pub frame_back : (e : Estate) (caps new : Slots) (f : ℕ) → IsOwn e.share f → is_named e caps f ≡ true
    → is_named e new f ≡ false
    → ((g : ℕ) → g ≢ f → is_named e caps g ≡ is_named e new g) → with_frame (free_of e caps) f ≡ free_of e new
frame_back e caps new f own named unnamed others =
    free_list_determined (with_frame (free_of e caps) f) (free_of e new) refl
    (with_frame_is_free_list (free_of e caps) f (free_sound e caps) own (named_out e caps f named))
    (free_sound e new) (λ g. elim (cases_eq g f) [
      | inl same ↦ subst (λ (g : ℕ). is_free (with_frame (free_of e caps) f) g ≡ is_free (free_of e new) g) (sym same)
          (placed_has_it (free_frames e caps) f ∙ sym back)
      | inr other ↦ placed_has_other (free_frames e caps) f g other ∙ free_alike e caps new g (others g other)
    ])
  where
    back : is_free (free_of e new) f ≡ true
    back = free_has e new f ∙ ap (λ b. not b && has (pool e.share) f) unnamed ∙ pool_has e.share f own

-- ---- what is named

pub same_bool : (a b : Bool) → (a ≡ true → b ≡ true) → (b ≡ true → a ≡ true) → a ≡ b
same_bool true b to from = sym (to refl)
same_bool false true to from = from refl
same_bool false false to from = refl

-- some slot names it there where one does here
abbrev pub Names : Estate → Slots → ℕ → Type 0
Names e caps f = (i : ℕ) × (frame_of (claims e caps i) ≡ Some f)

pub named_alike : (e : Estate) (caps new : Slots) (f : ℕ) → (Names e caps f → Names e new f)
    → (Names e new f → Names e caps f)
    → is_named e caps f ≡ is_named e new f
named_alike e caps new f to from =
    same_bool (is_named e caps f) (is_named e new f)
    (λ h. let n : Names e new f = to (named_by e caps f h) in names e new f n.0 n.1)
    (λ h. let n : Names e caps f = from (named_by e new f h) in names e caps f n.0 n.1)

module _ (e : Estate) (caps : Slots) (long : length caps ≡ 64) (a : ℕ) (below : a < 64) where
  module _ (x : Option Cap) where
    abbrev set : Slots
    set = with_cap caps a x

    claim_here : claims e set a ≡ claim_of x
    claim_here = ap (λ k. k a) (claims_set e caps long a x below) ∙ claim_same (claims e caps) a (claim_of x)

    claim_there : (i : ℕ) → i ≢ a → claims e set i ≡ claims e caps i
    claim_there i other = ap (λ k. k i) (claims_set e caps long a x below) ∙ claim_other (claims e caps) a (claim_of x) i other

    -- another frame than the old and the new one of the slot
    pub named_other : (g : ℕ) → frame_of (claims e caps a) ≢ Some g → frame_of (claim_of x) ≢ Some g
        → is_named e caps g ≡ is_named e set g
    named_other g old new =
        named_alike e caps set g
        (λ (n : Names e caps g). elim (cases_eq n.0 a) [
          | inl same ↦ absurd (old (ap (λ i. frame_of (claims e caps i)) (sym same) ∙ n.1))
          | inr other ↦ (n.0, ap frame_of (claim_there n.0 other) ∙ n.1)
        ])
        (λ (n : Names e set g). elim (cases_eq n.0 a) [
          | inl same ↦ absurd (new (ap frame_of (sym claim_here) ∙ ap (λ i. frame_of (claims e set i)) (sym same) ∙ n.1))
          | inr other ↦ (n.0, ap frame_of (sym (claim_there n.0 other)) ∙ n.1)
        ])

    pub named_here : (f : ℕ) → frame_of (claim_of x) ≡ Some f → is_named e set f ≡ true
    named_here f is = names e set f a (ap frame_of claim_here ∙ is)

  -- the least frame is named by a slot that was empty
  pub put_free : (x : Option Cap) (f : ℕ) → frame_of (claims e caps a) ≡ None → frame_of (claim_of x) ≡ Some f
      → slice_get (free_frames e caps) 0 ≡ Some f → without_least (free_of e caps) ≡ free_of e (with_cap caps a x)
  put_free x f was is least =
      least_taken e caps (with_cap caps a x) f least (named_here x f is)
      (λ g other. named_other x g (λ old. let no : None ≡ Some g = sym was ∙ old in absurd (cc no))
      (λ new. other (let same : Some g ≡ Some f = sym new ∙ is in cc same)))

  nothing_named : (g : ℕ) → frame_of (claim_of None) ≢ Some g
  unfolding frame_of claim_of
  nothing_named g is = absurd (cc is)

  -- the slot that is emptied names no frame
  pub no_frame_free : frame_of (claims e caps a) ≡ None → free_of e caps ≡ free_of e (with_cap caps a None)
  no_frame_free was =
      same_free e caps (with_cap caps a None)
      (λ g. named_other None g (λ old. let no : None ≡ Some g = sym was ∙ old in absurd (cc no)) (nothing_named g))

  module _ (f : ℕ) (was : frame_of (claims e caps a) ≡ Some f) where
    others_stay : (g : ℕ) → g ≢ f → is_named e caps g ≡ is_named e (with_cap caps a None) g
    others_stay g other = named_other None g (λ old. other (let same : Some g ≡ Some f = sym old ∙ was in cc same)) (nothing_named g)

    -- its frame is named by another
    pub shared_free : (i : ℕ) → i ≢ a → frame_of (claims e caps i) ≡ Some f
        → free_of e caps ≡ free_of e (with_cap caps a None)
    shared_free i apart is =
        same_free e caps (with_cap caps a None)
        (λ g. elim (cases_eq g f) [
          | inl same ↦ subst (λ (g : ℕ). is_named e caps g ≡ is_named e (with_cap caps a None) g) (sym same)
              (names e caps f i is ∙ sym (names e (with_cap caps a None) f i (ap frame_of (claim_there None i apart) ∙ is)))
          | inr other ↦ others_stay g other
        ])

    -- its frame is named by no other
    pub freed : is_mine e f ≡ true → ((i : ℕ) → i ≢ a → frame_of (claims e caps i) ≢ Some f)
        → with_frame (free_of e caps) f ≡ free_of e (with_cap caps a None)
    freed mine alone =
        frame_back e caps (with_cap caps a None) f (mine_is_own e f mine) (names e caps f a was)
        (false_from_ne_true (is_named e (with_cap caps a None) f) (λ h.
        let n : Names e (with_cap caps a None) f = named_by e (with_cap caps a None) f h in
        elim (cases_eq n.0 a) [
          | inl same ↦ nothing_named f
              (ap frame_of (sym (claim_here None))
              ∙ ap (λ i. frame_of (claims e (with_cap caps a None) i)) (sym same) ∙ n.1)
          | inr other ↦ alone n.0 other (ap frame_of (sym (claim_there None n.0 other)) ∙ n.1)
        ]))
        others_stay

-- ---- what a slot names, by its capability

pub page_frame : (c : Option Cap) (f : ℕ) → page_of c ≡ Some f → frame_of (claim_of c) ≡ Some f
unfolding frame_of claim_of
page_frame None f e = absurd (cc e)
page_frame (Some (cap.Frame g r w)) f e = e
page_frame (Some (cap.Table g w)) f e = absurd (cc e)
page_frame (Some (cap.Irq line)) f e = absurd (cc e)

pub table_frame : (c : Option Cap) (f : ℕ) → table_of c ≡ Some f → frame_of (claim_of c) ≡ Some f
unfolding frame_of claim_of
table_frame None f e = absurd (cc e)
table_frame (Some (cap.Frame g r w)) f e = absurd (cc e)
table_frame (Some (cap.Table g w)) f e = e
table_frame (Some (cap.Irq line)) f e = absurd (cc e)

table_unshared : (c : Option Cap) (f : ℕ) → table_of c ≡ Some f → is_shared (claim_of c) ≡ false
unfolding is_shared claim_of
table_unshared None f e = absurd (cc e)
table_unshared (Some (cap.Frame g r w)) f e = absurd (cc e)
table_unshared (Some (cap.Table g w)) f e = refl
table_unshared (Some (cap.Irq line)) f e = absurd (cc e)

-- a shared claim of a slot is a page's
shared_page : (c : Option Cap) (f : ℕ) → is_shared (claim_of c) ≡ true → frame_of (claim_of c) ≡ Some f
    → page_of c ≡ Some f
unfolding frame_of is_shared claim_of
shared_page None f s e = absurd (cc e)
shared_page (Some (cap.Frame g r w)) f s e = e
shared_page (Some (cap.Table g w)) f s e = absurd (cc s)
shared_page (Some (cap.Irq line)) f s e = absurd (cc e)

-- ---- a slot that is emptied

module _ (e : Estate) (caps : Slots) (m : Mem) (long : length caps ≡ 64) (estate : IsEstate e)
    (facts : Facts e.root (is_mine e) (claims e caps) m)
    (a : ℕ) (below : a < 64) where
  at_slot : (f : ℕ) → frame_of (claim_of (cap_at caps a)) ≡ Some f → frame_of (claims e caps a) ≡ Some f
  at_slot f is = ap frame_of (claims_at e caps long a below) ∙ is

  -- what the slot names is the domain's own, and isn't free
  pub own_frame : (f : ℕ) → frame_of (claim_of (cap_at caps a)) ≡ Some f → IsOwn e.share f
  own_frame f is = mine_is_own e f (facts.owned a f (at_slot f is))

  pub out_frame : (f : ℕ) → frame_of (claim_of (cap_at caps a)) ≡ Some f → is_free (free_of e caps) f ≡ false
  out_frame f is = named_out e caps f (names e caps f a (at_slot f is))

  -- no other slot, and none that stays, names a page that no other slot names
  page_alone : (f : ℕ) → page_of (cap_at caps a) ≡ Some f → NoOther caps a f → (i : ℕ) → i ≢ a
      → frame_of (claims e caps i) ≢ Some f
  page_alone f is alone i other there =
      let shared : is_shared (claims e caps i) ≡ true = (facts.apart i a f other there (at_slot f (page_frame (cap_at caps a) f is))).0 in
      elim (cases_lt i 64) [
        | inl slot ↦ alone.none i other
            (shared_page (cap_at caps i) f (ap is_shared (sym (claims_at e caps long i slot)) ∙ shared)
            (ap frame_of (sym (claims_at e caps long i slot)) ∙ there))
        | inr past ↦
            let place : 64 + (i - 64) ≡ i = omega (arith, past) in
            true≢false (sym shared ∙ ap (λ j. is_shared (claims e caps j)) (sym place)
            ∙ ap is_shared (claims_fixed e caps long (i - 64)) ∙ estate.alone (i - 64))
      ]

  table_alone : (f : ℕ) → table_of (cap_at caps a) ≡ Some f → (i : ℕ) → i ≢ a
      → frame_of (claims e caps i) ≢ Some f
  table_alone f is i other there =
      let shared : is_shared (claims e caps a) ≡ true = (facts.apart i a f other there (at_slot f (table_frame (cap_at caps a) f is))).1 in
      true≢false (sym shared ∙ ap is_shared (claims_at e caps long a below) ∙ table_unshared (cap_at caps a) f is)

  -- the frame that comes back is free
  pub page_back : (f : ℕ) → page_of (cap_at caps a) ≡ Some f → NoOther caps a f
      → with_frame (free_of e caps) f ≡ free_of e (with_cap caps a None)
  page_back f is alone =
      let here = page_frame (cap_at caps a) f is in
      freed e caps long a below f (at_slot f here) (facts.owned a f (at_slot f here)) (page_alone f is alone)

  pub table_back : (f : ℕ) → table_of (cap_at caps a) ≡ Some f
      → with_frame (free_of e caps) f ≡ free_of e (with_cap caps a None)
  table_back f is =
      let here = table_frame (cap_at caps a) f is in
      freed e caps long a below f (at_slot f here) (facts.owned a f (at_slot f here)) (table_alone f is)

  -- none comes back
  pub none_back : (c : Option Cap) → cap_at caps a ≡ c
      → ((f : ℕ) → page_of c ≡ Some f → (i : ℕ) × (i ≢ a) × (page_of (cap_at caps i) ≡ Some f))
      → table_of c ≡ None
      → free_of e caps ≡ free_of e (with_cap caps a None)
  unfolding frame_of claim_of
  none_back None is page table =
      no_frame_free e caps long a below
      (ap frame_of (claims_at e caps long a below) ∙ ap (λ c. frame_of (claim_of c)) is)
  none_back (Some (cap.Irq line)) is page table =
      no_frame_free e caps long a below
      (ap frame_of (claims_at e caps long a below) ∙ ap (λ c. frame_of (claim_of c)) is)
  none_back (Some (cap.Table f w)) is page table = absurd (cc table)
  none_back (Some (cap.Frame f r w)) is page table =
      let other = page f refl in
      shared_free e caps long a below f (ap frame_of (claims_at e caps long a below) ∙ ap (λ c. frame_of (claim_of c)) is) other.0 other.1
      (by_page other.0 other.2)
    where
      by_page : (i : ℕ) → page_of (cap_at caps i) ≡ Some f → frame_of (claims e caps i) ≡ Some f
      by_page i is = elim (cases_lt i (length caps)) [
        | inl within ↦ ap frame_of (claim_within e caps i within) ∙ page_frame (cap_at caps i) f is
        | inr past ↦ let no : None ≡ Some f = sym (ap page_of (get_or_past caps i None past)) ∙ is in absurd (cc no)
      ]
