-- What ALLOC and MAP come to, and that the frames that are reached are of the pool.
use Rattle.std.proofs.Common.{◌≡◌, ◌≢◌, ◌⊎◌, ◌∙◌, ap, sym, subst, refl, inl, inr, ℕ, ◌-◌, ◌<◌, ◌≤◌, Bool, true, false, true≢false, cond, arith, ltb-true, List, [], ◌∷◌, length, length-set, get_or, Option, Some, None}
use Rattle.std.specs.Prelude.{map, nat_eq, nat_lt, Ok}
use Rattle.std.specs.List.{All}
use Rattle.std.specs.List.Sorted.{IsStrictlyIncreasing}
use Rattle.std.proofs.lemmas.Bool.{and_parts, cases_eq, cases_lt}
use Rattle.std.proofs.lemmas.List.{get_or-append_right, length-map}
use Rattle.std.proofs.lemmas.List.Elements.{All-head, All-tail}
use Rattle.tp_base.specs.Rights.{are_good}
use Rattle.phys_mem.specs.Mem.{Mem, word, zeroed_frame, word-zeroed_same}
use Rattle.sv32_walk.specs.declared.access.Access.{Access}
use Rattle.sv32_walk.specs.PageTableEntry.{rights_permit, leaf_word}
use Rattle.sv32_walk.specs.Walk.{walk}
use Rattle.page_map.specs.Tables.{map_refusal}
use Rattle.page_map.specs.Changes.{mapped, CanMap}
use Rattle.page_map.proofs.PageLemmas.{mapped_leaf}
use Rattle.page_map.proofs.ReachedWalks.{walk_page}
use Rattle.frame_colours.specs.Colours.{has, pool}
use Rattle.frame_colours.proofs.Ascending.{Ascends-from_increasing, length_within, has_other}
use Rattle.frame_colours.proofs.Pools.{Ascends-pool, pool_has}
use Rattle.cap_table.specs.declared.Cap.{Cap}
use Rattle.cap_table.specs.declared.Cap.TheVariants as cap
use Rattle.cap_table.specs.Slots.{Slots, cap_at, with_cap, page_of, table_of, noted}
use Rattle.call_table.specs.Domain.{Dom, replied, placed, done, with_caps}
use Rattle.call_table.specs.Claims.{Claim, Estate, claims, all_claims, claim_of, entry_places, frame_of, is_named, least_free}
use Rattle.call_table.specs.Calls.{Page, is_slot, page_in, is_within, may_give, fresh_cap, with_slot, alloc, map_page}
use Rattle.call_table.specs.Laws.{Kept, IsMine, IsFresh, IsReached}
use Rattle.call_table.proofs.ClaimLawsSlots.{names}
use Rattle.call_table.proofs.TablesSlots.{claim_at, claim_within, cap_same, cap_other}
use Rattle.call_table.proofs.TablesMeaning.{mine_is_own, page_frame, page_tables}
use Rattle.call_table.proofs.ConfinedCalls.{free_parts, free_mine, page_in_is}
use Rattle.call_table.proofs.MeaningSteps.{Whatever, Gives, given, give_gives, zero_gives, map_gives, page_refusal_gives, check_gives, some_gives, filled_gives, allowed_gives}
use Rattle.call_table.proofs.MeaningRights.{not_named}

-- ---- claims after a slot was set

pub claim_past : (e : Estate) (caps : Slots) (i : ℕ) → length caps ≤ i
    → claims e caps i ≡ get_or e.fixed (i - length caps) Claim.Nothing
unfolding claims all_claims
claim_past e caps i past = get_or-append_right (map claim_of caps) e.fixed (length caps) i Claim.Nothing (length-map caps claim_of) past

pub claim_other : (e : Estate) (caps : Slots) (a i : ℕ) (c : Option Cap) → i ≢ a
    → claims e (with_cap caps a c) i ≡ claims e caps i
claim_other e caps a i c apart = elim (cases_lt i (length caps)) [
  | inl below ↦
      claim_within e (with_cap caps a c) i (omega (arith, below, length-set caps a c))
      ∙ ap claim_of (cap_other caps a i c apart)
      ∙ sym (claim_within e caps i below)
  | inr past ↦
      claim_past e (with_cap caps a c) i (omega (arith, past, length-set caps a c))
      ∙ ap (λ (n : ℕ). get_or e.fixed (i - n) Claim.Nothing) (length-set caps a c)
      ∙ sym (claim_past e caps i past)
]

-- ---- ALLOC

fresh_frame : (t : Bool) (g f : ℕ)
    → (page_of (Some (cond t (cap.Frame g 7 None) (cap.Table g None))) ≡ Some f)
    ⊎ (table_of (Some (cond t (cap.Frame g 7 None) (cap.Table g None))) ≡ Some f) → g ≡ f
fresh_frame true g f (inl e) = cc e
fresh_frame true g f (inr e) = absurd (cc e)
fresh_frame false g f (inl e) = absurd (cc e)
fresh_frame false g f (inr e) = cc e

module _ (e : Estate) (d : Dom) (m : Mem) (h : Kept e d m) where
  abbrev Fresh : ℕ → Dom → Mem → Type 0
  Fresh a x n = (f : ℕ) → (page_of (cap_at x.caps a) ≡ Some f) ⊎ (table_of (cap_at x.caps a) ≡ Some f) → IsFresh e d x n a f

  alone : (a f : ℕ) (c : Option Cap) → is_named e d.caps f ≡ false → (i : ℕ)
      → frame_of (claims e (with_cap d.caps a c) i) ≡ Some f → i ≡ a
  alone a f c free i is = elim (cases_eq i a) [
    | inl same ↦ same
    | inr other ↦
        absurd (true≢false (sym (names e d.caps f i (ap frame_of (sym (claim_other e d.caps a i c other)) ∙ is)) ∙ free))
  ]

  taken : (a b g : ℕ) → a < length d.caps → least_free e d.caps ≡ Some g
      → Fresh a (done 0 (with_slot d a (Some (fresh_cap b g)))) (zeroed_frame m g)
  unfolding replied placed with_caps
  taken a b g below is f named =
      let at : cap_at (with_cap d.caps a (Some (fresh_cap b g))) a ≡ Some (fresh_cap b g) =
      cap_same d.caps a (Some (fresh_cap b g)) below in
      let same : g ≡ f = fresh_frame (nat_eq b 0) g f (subst (λ (c : Option Cap). (page_of c ≡ Some f) ⊎ (table_of c ≡ Some f)) at named) in
      let free : is_named e d.caps g ≡ false = not_named _ (free_parts e d.caps g is).0 in
      record {
        own = subst (IsMine e) same (free_mine e d.caps g is);
        was_free = subst (λ (n : ℕ). is_named e d.caps n ≡ false) same free;
        zero = λ i. subst (λ (n : ℕ). word (zeroed_frame m g) n i ≡ 0) same (word-zeroed_same m g i);
        alone = λ i. alone a f (Some (fresh_cap b g)) (subst (λ (n : ℕ). is_named e d.caps n ≡ false) same free) i;
      }

  slot_below : (a : ℕ) → nat_lt a 64 ≡ true → a < length d.caps
  slot_below a t = let below = ltb-true a 64 t in omega (arith, below, h.slots)

  alloc_fresh : (a b : ℕ) → Gives Whatever (Fresh a) (alloc e d a b m)
  unfolding alloc is_slot
  alloc_fresh a b =
      check_gives Whatever (Fresh a) m d (λ _. tt) 2 _ _ (λ below.
      check_gives Whatever (Fresh a) m d (λ _. tt) 4 _ _ (λ _.
      check_gives Whatever (Fresh a) m d (λ _. tt) 5 _ _ (λ _.
      some_gives Whatever (Fresh a) m d (λ _. tt) 10 (least_free e d.caps) _ (λ g is.
      zero_gives Whatever (Fresh a) m g _
      (give_gives Whatever (Fresh a) (zeroed_frame m g) _ (taken a b g (slot_below a below) is))))))

  pub alloc_means : (x : Dom) (a b f : ℕ) → (alloc e d a b m).value ≡ inr x
      → (page_of (cap_at x.caps a) ≡ Some f) ⊎ (table_of (cap_at x.caps a) ≡ Some f) → IsFresh e d x (alloc e d a b m).state a f
  alloc_means x a b f is named = given Whatever (Fresh a) (alloc e d a b m) (alloc_fresh a b) x is f named

  -- ---- MAP

  module _ (a b c : ℕ) (access : Access) (permits : rights_permit c access ≡ true) where
    abbrev Found : Dom → Mem → Type 0
    Found x n = (f : ℕ) → page_of (cap_at d.caps a) ≡ Some f → (walk n e.share.frames e.root b access).result ≡ Ok (leaf_word f c)

    found : (page : Page) → cap_at d.caps a ≡ Some (cap.Frame page.frame page.rights page.mapped)
        → may_give page.rights c ≡ true
        → map_refusal m e.root b ≡ None → (x : Dom) → Found x (mapped m e.root b page.frame c)
    unfolding claim_of
    found page is good none x f named =
        let frame =
        page_frame e d m h a page.frame true (entry_places page.mapped)
        (claim_at e d.caps a (cap.Frame page.frame page.rights page.mapped) is) in
        let can : CanMap m e.root e.share.frames b page.frame c = record {
          tables = (page_tables e d m h).map;
          allowed = none;
          in_memory = (mine_is_own e page.frame frame.own).below;
          apart = frame.apart;
          rights_are_good = (and_parts (are_good c) (is_within c page.rights) good).0;
        } in
        let same : Some page.frame ≡ Some f = ap page_of (sym is) ∙ named in
        let same_frame : page.frame ≡ f = cc same in
        mapped_leaf m e.root e.share.frames b page.frame c b access can refl permits ∙ ap (λ (n : ℕ). Ok (leaf_word n c)) same_frame

    map_found : Gives Whatever Found (map_page e d a b c m)
    unfolding map_page
    map_found =
        filled_gives Whatever Found m d (λ _. tt) a _ (λ _ x is.
        some_gives Whatever Found m d (λ _. tt) 5 (page_in x) _ (λ page in_x.
        check_gives Whatever Found m d (λ _. tt) 6 _ _ (λ good.
        check_gives Whatever Found m d (λ _. tt) 7 _ _ (λ _.
        check_gives Whatever Found m d (λ _. tt) 8 _ _ (λ _.
        page_refusal_gives Whatever Found m e.root b _
        (allowed_gives Whatever Found m d (λ _. tt) (map_refusal m e.root b) _ (λ none.
        map_gives Whatever Found m e.root b page.frame c _
        (give_gives Whatever Found (mapped m e.root b page.frame c) _
        (found page (is ∙ ap Some (page_in_is x page in_x)) good none (done 0 (with_slot d a (noted (Some x) (Some b)))))))))))))

    pub map_means : (x : Dom) (f : ℕ) → (map_page e d a b c m).value ≡ inr x
        → page_of (cap_at d.caps a) ≡ Some f
        → (walk (map_page e d a b c m).state e.share.frames e.root b access).result ≡ Ok (leaf_word f c)
    map_means x f is named = given Whatever Found (map_page e d a b c m) map_found x is f named

  -- ---- the frames that are reached

  reached_mine : (f : ℕ) → IsReached e m f → IsMine e f
  reached_mine f r =
      let t = page_tables e d m h in
      subst (IsMine e) r.4 (walk_page m e.root e.share.frames t.map r.0 r.2 (IsMine e) t.reaches.pages r.1 r.3)

  in_all : (fs : List ℕ) (f : ℕ) → All (IsReached e m) fs → has fs f ≡ true → IsReached e m f
  in_all [] f all there = absurd (true≢false (sym there))
  in_all (x ∷ fs) f all there = elim (cases_eq x f) [
    | inl same ↦ subst (IsReached e m) same (All-head (IsReached e m) x fs all)
    | inr other ↦ in_all fs f (All-tail (IsReached e m) x fs all) (sym (has_other x f fs other) ∙ there)
  ]

  pub no_more_than_pool : (fs : List ℕ) → IsStrictlyIncreasing fs → All (IsReached e m) fs
      → length fs ≤ length (pool e.share)
  no_more_than_pool fs up all =
      length_within (pool e.share) fs 0 0 (Ascends-pool e.share) (Ascends-from_increasing fs 0 up (λ _. omega arith))
      (λ f there. pool_has e.share f (mine_is_own e f (reached_mine f (in_all fs f all there))))
