-- For the tests of calls: the domain that they begin with is one that calls can be made of.
use Rattle.std.proofs.Common.{◌≡◌, ◌≢◌, ℕ, zero, suc, Bool, true, false, length, Option, Some, None, [], ◌∷◌, ◌++◌, get_or, inl, inr, refl, ap, sym, subst, ◌∙◌, arith}
use Rattle.std.specs.Prelude.{◌⊎◌, replicate, slice_get}
use Rattle.std.proofs.lemmas.Bool.{cases_eq}
use Rattle.std.proofs.lemmas.Option.{none-some, same_Some}
use Rattle.tp_base.specs.Table.{empty}
use Rattle.phys_mem.specs.Contents.{Contents, zeroed}
use Rattle.phys_mem.specs.Mem.{Mem, word, zeroed_frame, word-empty, word-zeroed_same, word-zeroed_other}
use Rattle.phys_mem.specs.Holds.{Holds}
use Rattle.phys_mem.proofs.HoldsLemmas.{holds-zeroed}
use Rattle.frame_colours.specs.Colours.{whole_of, share_of, pool}
use Rattle.frame_colours.specs.FreeList.{FreeList, all_free, without_least}
use Rattle.kernel_clone.specs.Permissions.{every_call}
use Rattle.cap_table.specs.declared.Cap.TheVariants as cap
use Rattle.cap_table.specs.Slots.{Slots, empty_slots, with_cap}
use Rattle.call_table.specs.Claims.{Claim, Estate, is_mine, frame_of, is_shared, leaf_at, claim_of, region_of, all_claims, claims, frames_in, is_named, free_frames, Facts, IsEstate}
use Rattle.call_table.specs.Claims.Claim.{Nothing, Fixed, Leaf, Directory}
use Rattle.sv32_walk.specs.PageTableEntry.{valid}
use Rattle.call_table.proofs.ClaimLaws.{zero_invalid}
use Rattle.kernel_call.specs.declared.domain.Domain.{Domain}
use Rattle.kernel_call.specs.Facts.{Valid}

-- the frames 1, 5, .. to 61, of which the root has the first for good
unfoldable estate : Estate
estate = record {
  share = share_of (whole_of 64 4) (1 ∷ []);
  root = 1;
  fixed = Fixed 1 ∷ [];
  calls = every_call;
  number = 0;
}

-- a table, in the second of them, and two lines
abbrev pub slots_of : ℕ → Slots
slots_of table = with_cap (with_cap (with_cap empty_slots 1 (Some (cap.Table table None))) 0 (Some (cap.Irq 3))) 2 (Some (cap.Irq 5))

unfoldable slots : Slots
slots = slots_of 5

-- ---- what is claimed: the table by slot 1, the root after the slots, and nothing besides

last_of : (n i : ℕ) → ((i ≡ n) × (get_or (replicate n Nothing ++ Fixed 1 ∷ []) i Nothing ≡ Fixed 1))
    ⊎ (get_or (replicate n Nothing ++ Fixed 1 ∷ []) i Nothing ≡ Nothing)
last_of zero zero = inl (refl, refl)
last_of zero (suc i) = inr refl
last_of (suc n) zero = inr refl
last_of (suc n) (suc i) = elim (last_of n i) [
  | inl q ↦ inl (ap suc q.0, q.1)
  | inr q ↦ inr q
]

by_claim : (P : ℕ → Claim → Type 0) → P 1 (Directory 5 None) → P 64 (Fixed 1) → ((i : ℕ) → P i Nothing)
    → (i : ℕ) → P i (claims estate slots i)
unfolding estate slots claims all_claims claim_of region_of empty_slots
by_claim P table root none zero = none 0
by_claim P table root none (suc zero) = table
by_claim P table root none (suc (suc i)) = elim (last_of 62 i) [
  | inl q ↦
      let at : suc (suc i) ≡ 64 = ap (λ n. suc (suc n)) q.0 in
      subst (λ (c : Claim). P (suc (suc i)) c) (sym q.1) (subst (λ (n : ℕ). P n (Fixed 1)) (sym at) root)
  | inr q ↦ subst (λ (c : Claim). P (suc (suc i)) c) (sym q) (none (suc (suc i)))
]

-- ---- the memory reads zero

memory_of : Mem
memory_of = zeroed_frame (zeroed_frame empty 1) 5

reads_zero : (f i : ℕ) → word memory_of f i ≡ 0
unfolding memory_of
reads_zero f i = elim (cases_eq f 5) [
  | inl same ↦ ap (λ (g : ℕ). word memory_of g i) same ∙ word-zeroed_same (zeroed_frame empty 1) 5 i
  | inr other ↦ word-zeroed_other (zeroed_frame empty 1) 5 f i other ∙ elim (cases_eq f 1) [
    | inl same ↦ ap (λ (g : ℕ). word (zeroed_frame empty 1) g i) same ∙ word-zeroed_same empty 1 i
    | inr apart ↦ word-zeroed_other empty 1 f i apart ∙ word-empty f i
  ]
]

-- ---- the facts

root_is : claims estate slots 64 ≡ Fixed 1
unfolding estate slots claims all_claims claim_of region_of empty_slots
root_is = refl

-- two claims name no frame
alone : (i j f : ℕ) → i ≢ j → frame_of (claims estate slots i) ≡ Some f
    → frame_of (claims estate slots j) ≡ Some f → ⊥
unfolding frame_of
alone =
    by_claim (λ i c. (j f : ℕ) → i ≢ j → frame_of c ≡ Some f → frame_of (claims estate slots j) ≡ Some f → ⊥)
    (by_claim (λ j c. (f : ℕ) → 1 ≢ j → Some 5 ≡ Some f → frame_of c ≡ Some f → ⊥)
    (λ f other e e'. other refl)
    (λ f other e e'. let p : 5 ≡ 1 = same_Some 5 1 (e ∙ sym e') in absurd (omega (arith, p)))
    (λ j f other e e'. cc e'))
    (by_claim (λ j c. (f : ℕ) → 64 ≢ j → Some 1 ≡ Some f → frame_of c ≡ Some f → ⊥)
    (λ f other e e'. let p : 1 ≡ 5 = same_Some 1 5 (e ∙ sym e') in absurd (omega (arith, p)))
    (λ f other e e'. other refl)
    (λ j f other e e'. cc e'))
    (λ i j f other e e'. cc e)

no_leaf : (i r t : ℕ) → leaf_at (claims estate slots i) ≡ Some (r, t) → ⊥
unfolding leaf_at
no_leaf = by_claim (λ i c. (r t : ℕ) → leaf_at c ≡ Some (r, t) → ⊥) (λ r t e. cc e) (λ r t e. cc e) (λ i r t e. cc e)

no_page : (i : ℕ) (b : Bool) (g r t : ℕ) → claims estate slots i ≡ Leaf b g (Some (r, t)) → ⊥
no_page =
    by_claim (λ i c. (b : Bool) (g r t : ℕ) → c ≡ Leaf b g (Some (r, t)) → ⊥)
    (λ b g r t e. cc e) (λ b g r t e. cc e) (λ i b g r t e. cc e)

none_installed : (i f r : ℕ) → claims estate slots i ≡ Directory f (Some r) → ⊥
none_installed =
    by_claim (λ i c. (f r : ℕ) → c ≡ Directory f (Some r) → ⊥)
    (λ f r e. absurd (none-some r (ap region_in e))) (λ f r e. cc e) (λ i f r e. cc e)
  where
    region_in : Claim → Option ℕ
    region_in (Directory f w) = w
    region_in _ = None

owned : (i f : ℕ) → frame_of (claims estate slots i) ≡ Some f → is_mine estate f ≡ true
unfolding estate frame_of
owned =
    by_claim (λ i c. (f : ℕ) → frame_of c ≡ Some f → is_mine estate f ≡ true)
    (λ f e. subst (λ (g : ℕ). is_mine estate g ≡ true) (same_Some 5 f e) refl)
    (λ f e. subst (λ (g : ℕ). is_mine estate g ≡ true) (same_Some 1 f e) refl)
    (λ i f e. absurd (cc e))

invalid : (f i : ℕ) → valid (word memory_of f i) ≡ true → ⊥
invalid f i is_valid = zero_invalid (subst (λ (w : ℕ). valid w ≡ true) (reads_zero f i) is_valid)

facts : Facts 1 (is_mine estate) (claims estate slots) memory_of
facts = record {
  root_slot = 64;
  root_is = root_is;
  owned = owned;
  apart = λ i j f other e e'. absurd (alone i j f other e e');
  once = λ i j r t other e e'. no_leaf i r t e;
  tables = λ r is_valid. absurd (invalid 1 r is_valid);
  leaves = λ i f r t e is_valid. absurd (invalid f t is_valid);
  installed = λ i f r e. absurd (none_installed i f r e);
  mapped = λ i b g r t e. absurd (no_page i b g r t e);
  blank = λ i f e t. reads_zero f t;
}

fixed_alone : (n : ℕ) → is_shared (get_or (Fixed 1 ∷ []) n Nothing) ≡ false
unfolding is_shared
fixed_alone zero = refl
fixed_alone (suc n) = refl

no_page_fixed : (n : ℕ) (b : Bool) (g r t : ℕ) → get_or (Fixed 1 ∷ []) n Nothing ≡ Leaf b g (Some (r, t)) → ⊥
no_page_fixed zero b g r t e = cc e
no_page_fixed (suc n) b g r t e = cc e

is_estate : IsEstate estate
unfolding estate
is_estate = record { alone = fixed_alone; stays = λ n b g r t e. absurd (no_page_fixed n b g r t e) }

-- ---- what the pool gave out, and what is left

pub first_of : (list : FreeList) → list ≡ all_free (share_of (whole_of 64 4) (1 ∷ []))
    → slice_get list.free 0 ≡ Some 1
unfolding pool
first_of list is = ap (λ (l : FreeList). slice_get l.free 0) is

pub second_of : (list : FreeList) → list ≡ all_free (share_of (whole_of 64 4) (1 ∷ []))
    → slice_get (without_least list).free 0 ≡ Some 5
unfolding pool
second_of list is = ap (λ (l : FreeList). slice_get (without_least l).free 0) is

left : without_least (without_least (all_free (share_of (whole_of 64 4) (1 ∷ []))))
    ≡ record { share = estate.share; free = free_frames estate slots }
unfolding estate slots pool free_frames is_named frames_in frame_of all_claims claim_of region_of empty_slots
left = refl

long : length slots ≡ 64
unfolding slots empty_slots
long = refl

-- ---- so calls can be made

of_these : (first : Contents) (d : Domain) → first.frames ≡ 64 → Holds first empty → d.map ≡ 1
    → d.pool ≡ without_least (without_least (all_free (share_of (whole_of 64 4) (1 ∷ [])))) → d.caps ≡ slots → d.calls ≡ every_call
    → d.number ≡ 0
    → Valid (zeroed (zeroed first 1) 5) d
unfolding estate memory_of
of_these first d size holds root free caps calls number = record {
  estate = estate;
  mem = memory_of;
  facts = record {
    estate = is_estate;
    frames = sym size;
    has = record {
      root = root;
      pool = free ∙ (left ∙ ap (λ (s : Slots). record { share = estate.share; free = free_frames estate s }) (sym caps));
      slots = ap (λ (s : Slots). length s) caps ∙ long;
      calls = calls;
      number = number;
    };
    holds = holds-zeroed (zeroed first 1) (zeroed_frame empty 1) 5 (omega (arith, size))
        (holds-zeroed first empty 1 (omega (arith, size)) holds);
    facts = subst (λ (s : Slots). Facts 1 (is_mine estate) (claims estate s) memory_of) (sym caps) facts;
  };
}

pub is_valid : (first second last : Contents) (root table : ℕ) (d : Domain) → first.frames ≡ 64
    → Holds first empty
    → root ≡ 1 → table ≡ 5 → second ≡ zeroed first root → last ≡ zeroed second table → d.map ≡ root
    → d.pool ≡ without_least (without_least (all_free (share_of (whole_of 64 4) (1 ∷ [])))) → d.caps ≡ slots_of table
    → d.calls ≡ every_call → d.number ≡ 0 → Valid last d
unfolding slots
is_valid first second last root table d size holds one five then after at free caps calls number =
    let memory : last ≡ zeroed (zeroed first 1) 5 =
    after ∙ ap (λ (m : Contents). zeroed m table) (then ∙ ap (λ (f : ℕ). zeroed first f) one)
    ∙ ap (λ (f : ℕ). zeroed (zeroed first 1) f) five in
    subst (λ (m : Contents). Valid m d) (sym memory)
    (of_these first d size holds (at ∙ one) free (caps ∙ ap (λ (f : ℕ). slots_of f) five) calls number)
