-- How ALLOC runs, and how a call ends where it is refused or done.
use Rattle.std.proofs.lemmas.Bool.Decides.{nat_tests}
use Rattle.std.proofs.lemmas.List.{get_or_past}
use Rattle.std.proofs.lemmas.Bool.{cases_lt}
use Rattle.std.proofs.Common.{arith, drop, ◌≡◌, ◌∙◌, ap, sym, subst, refl, inl, inr, ℕ, ◌<◌, ◌≤◌, Bool, true, false, not, List, [], ◌∷◌, length, Some, None}
use Rattle.std.specs.Prelude.{nat_eq, nat_le, slice_get, if◌then◌else◌, Err}
use Rattle.tp_base.specs.Act as act
use Rattle.tp_base.specs.Act.{◌>>=◌, ◌>>◌, give, check}
use Rattle.phys_mem.specs.Contents.{Contents}
use Rattle.phys_mem.specs.Mem.{Mem, zeroed_frame}
use Rattle.phys_mem.specs.Holds.{Holds}
use Rattle.frame_colours.specs.FreeList.{FreeList, without_least}
use Rattle.kernel_clone.specs.Models.{work_model}
use Rattle.cap_table.specs.declared.Cap.TheVariants as cap
use Rattle.cap_table.specs.Slots.{Slots, cap_at, is_filled, with_cap, page_of, table_of}
use Rattle.cap_table.specs.Owning.{IsUnnamed}
use Rattle.call_table.specs.Domain.{Dom, refused, done, with_caps}
use Rattle.call_table.specs.Claims.{Estate, frame_of, claim_of, free_frames, least_free}
use Rattle.call_table.specs.Calls.{Note, fresh_cap, zero_out, with_slot, alloc, work_of, zeroed_in, entries_in}
use Rattle.call_table.specs.Laws.{Kept}
use Rattle.call_table.specs.declared.Reply.{Reply}
use Rattle.call_table.proofs.ClaimLawsSlots.{claims_at, long_set, least_is_free, unnamed}
use Rattle.call_table.proofs.TablesSlots.{claim_within}
use Rattle.kernel_call.specs.declared.domain.Domain.{Domain}
use Rattle.kernel_call.specs.declared.error.CallError.{CallError}
use Rattle.kernel_call.specs.Models.{dom_model}
use Rattle.kernel_call.specs.Facts.{Done, Has, HasFacts, Ends, code_of, reads}
use Rattle.kernel_call.proofs.Paths.{slot_then, slot_ends, check_then, check_ends, some_then, some_ends, runs}
use Rattle.kernel_call.proofs.Frees.{free_of, put_free, page_frame, table_frame}

pub kept : (e : Estate) (memory : Contents) (m : Mem) (d : Domain) (readings : List ℕ) (replies : List Reply)
    → HasFacts e memory m d → Kept e (dom_model d readings replies) m
kept e memory m d readings replies h = record { slots = h.has.slots; facts = h.facts }

-- a call that is refused
pub refusal : (number : ℕ) (e : Estate) (d : Domain) (memory : Contents) (readings : List ℕ)
    (replies : List Reply) (x : CallError) (m : Mem) (r : act.Done Mem Note Dom Dom)
    → HasFacts e memory m d → r ≡ reads m (inl (refused (code_of x) (dom_model d readings replies)))
    → Ends number e d d memory readings replies (Err x) r
refusal number e d memory readings replies x m r h is =
    subst (λ (r : act.Done Mem Note Dom Dom). Ends number e d d memory readings replies (Err x) r) (sym is)
    (record { value = refl; holds = h.holds; work = refl; has = h.has })

-- a domain with other slots and another pool
pub has_slots : (e : Estate) (old new : Domain) (caps : Slots) → Has e old → new.map ≡ old.map
    → new.calls ≡ old.calls → new.number ≡ old.number → new.caps ≡ caps
    → length caps ≡ 64 → new.pool ≡ free_of e caps → Has e new
has_slots e old new caps h map calls number is long pool = record {
  root = map ∙ h.root;
  calls = calls ∙ h.calls;
  number = number ∙ h.number;
  pool = pool ∙ ap (free_of e) (sym is);
  slots = ap length is ∙ long;
}

-- a call that is done, and leaves these slots and this pool
pub record DoneWith (number : ℕ) (e : Estate) (model : Dom) (caps : Slots) (pool : FreeList) (map : ℕ)
    (memory : Contents) (x : Done) (r : act.Done Mem Note Dom Dom) : Type 0 where
  pub value : r.value ≡ inr (done x.value (record model { caps = caps }))
  pub holds : Holds memory r.state
  pub told : work_model x.work ≡ work_of number r.notes
  pub root : map ≡ e.root
  pub free : pool ≡ free_of e caps
  pub slots : length caps ≡ 64

-- ---- ALLOC

module _ (e : Estate) (d : Dom) (a b : ℕ) (m : Mem) where
  alloc_slot : 64 ≤ a → alloc e d a b m ≡ reads m (inl (refused 2 d))
  unfolding alloc
  alloc_slot above = slot_ends d a _ m above

  module _ (below : a < 64) where
    alloc_used : is_filled (cap_at d.caps a) ≡ true → alloc e d a b m ≡ reads m (inl (refused 4 d))
    unfolding alloc
    alloc_used used = slot_then d a _ m below ∙ check_ends (refused 4 d) (not (is_filled (cap_at d.caps a))) _ m (ap not used)

    module _ (empty : is_filled (cap_at d.caps a) ≡ false) where
      alloc_kind : 1 < b → alloc e d a b m ≡ reads m (inl (refused 5 d))
      unfolding alloc
      alloc_kind other =
          slot_then d a _ m below
          ∙ check_then (refused 4 d) (not (is_filled (cap_at d.caps a))) _ m (ap not empty)
          ∙ check_ends (refused 5 d) (nat_le b 1) _ m (not_le b 1 other)
        where
          not_le : (b n : ℕ) → n < b → nat_le b n ≡ false
          not_le b n over = grind (arith, nat_tests)

      module _ (kind : b ≤ 1) where
        is_le : nat_le b 1 ≡ true
        is_le = grind (arith, nat_tests)

        alloc_none : least_free e d.caps ≡ None → alloc e d a b m ≡ reads m (inl (refused 10 d))
        unfolding alloc
        alloc_none none =
            slot_then d a _ m below
            ∙ check_then (refused 4 d) (not (is_filled (cap_at d.caps a))) _ m (ap not empty)
            ∙ check_then (refused 5 d) (nat_le b 1) _ m is_le
            ∙ some_ends (refused 10 d) (least_free e d.caps) _ m none

        alloc_runs : (f : ℕ) → least_free e d.caps ≡ Some f → alloc e d a b m ≡ record {
          notes = Note.Zeroed f ∷ [];
          state = zeroed_frame m f;
          value = inr (done 0 (with_slot d a (Some (fresh_cap b f))));
        }
        unfolding alloc zero_out give
        alloc_runs f least =
            slot_then d a _ m below
            ∙ check_then (refused 4 d) (not (is_filled (cap_at d.caps a))) _ m (ap not empty)
            ∙ check_then (refused 5 d) (nat_le b 1) _ m is_le
            ∙ some_then (refused 10 d) (least_free e d.caps) _ f m least
            ∙ runs (zero_out f) (give (done 0 (with_slot d a (Some (fresh_cap b f))))) m (zeroed_frame m f) (Note.Zeroed f ∷ []) tt refl

-- the frame that is taken, and the slot that names it

module _ (e : Estate) (memory : Contents) (m : Mem) (old : Domain) (h : HasFacts e memory m old) where
  pub pool_least : slice_get old.pool.free 0 ≡ least_free e old.caps
  unfolding least_free
  pool_least = ap (λ (p : FreeList). slice_get p.free 0) h.has.pool

  -- no slot names the least free frame
  pub least_unnamed : (f : ℕ) → slice_get old.pool.free 0 ≡ Some f → IsUnnamed old.caps f
  least_unnamed f least = record {
    no_page =
        λ i is. not_named i (page_frame (cap_at old.caps i) f is)
        (λ none. let no : None ≡ Some f = sym (ap page_of none) ∙ is in cc no);
    no_table =
        λ i is. not_named i (table_frame (cap_at old.caps i) f is)
        (λ none. let no : None ≡ Some f = sym (ap table_of none) ∙ is in cc no);
  }
    where
      not_named : (i : ℕ) → frame_of (claim_of (cap_at old.caps i)) ≡ Some f → (cap_at old.caps i ≡ None → ⊥)
          → ⊥
      not_named i names there = elim (cases_lt i (length old.caps)) [
        | inl within ↦ unnamed e old.caps f (least_is_free e old.caps f (sym pool_least ∙ least)).not_named i
            (ap frame_of (claim_within e old.caps i within) ∙ names)
        | inr past ↦ there (get_or_past old.caps i None past)
      ]

fresh_frame : (t : Bool) (f : ℕ)
    → frame_of (claim_of (Some (if t then cap.Frame f 7 None else cap.Table f None))) ≡ Some f
unfolding frame_of claim_of
fresh_frame true f = refl
fresh_frame false f = refl

none_named : frame_of (claim_of None) ≡ None
unfolding frame_of claim_of
none_named = refl

pub none_stays : (l : FreeList) → slice_get l.free 0 ≡ None → without_least l ≡ l
none_stays l none = ap (λ (xs : List ℕ). record l { free = xs }) (by_list l.free none)
  where
    by_list : (xs : List ℕ) → slice_get xs 0 ≡ None → drop 1 xs ≡ xs
    by_list [] none = refl
    by_list (x ∷ xs) none = absurd (cc none)

module _ (e : Estate) (old new : Domain) (memory : Contents) (readings : List ℕ) (replies : List Reply) (m : Mem) (a b : ℕ)
    (h : HasFacts e memory m old) (below : a < 64) where
  abbrev model : Dom
  model = dom_model old readings replies

  pub ends_slot : (x : CallError) → code_of x ≡ 4 → is_filled (cap_at old.caps a) ≡ true
      → Ends 2 e old old memory readings replies (Err x) (alloc e model a b m)
  ends_slot x is used = refusal 2 e old memory readings replies x m (alloc e model a b m) h
      (alloc_used e model a b m below used ∙ ap (λ (n : ℕ). reads m (inl (refused n model))) (sym is))

  module _ (empty : cap_at old.caps a ≡ None) where
    not_filled : is_filled (cap_at old.caps a) ≡ false
    not_filled = ap is_filled empty

    pub ends_kind : (x : CallError) → code_of x ≡ 5 → 1 < b
        → Ends 2 e old old memory readings replies (Err x) (alloc e model a b m)
    ends_kind x is other = refusal 2 e old memory readings replies x m (alloc e model a b m) h
        (alloc_kind e model a b m below not_filled other ∙ ap (λ (n : ℕ). reads m (inl (refused n model))) (sym is))

    module _ (kind : b ≤ 1) where
      -- the pool is taken of, and nothing came
      pub ends_none : (x : CallError) → code_of x ≡ 10 → slice_get old.pool.free 0 ≡ None → new.map ≡ old.map
          → new.calls ≡ old.calls → new.number ≡ old.number → new.caps ≡ old.caps → new.pool ≡ without_least old.pool
          → Ends 2 e old new memory readings replies (Err x) (alloc e model a b m)
      ends_none x is none map calls number caps pool =
          let run : alloc e model a b m ≡ reads m (inl (refused (code_of x) model)) =
          alloc_none e model a b m below not_filled kind (sym (pool_least e memory m old h) ∙ none)
          ∙ ap (λ (n : ℕ). reads m (inl (refused n model))) (sym is) in
          subst (λ (r : act.Done Mem Note Dom Dom). Ends 2 e old new memory readings replies (Err x) r) (sym run)
          (record {
            value = refl;
            holds = h.holds;
            work = refl;
            has = has_slots e old new old.caps h.has map calls number caps h.has.slots (pool ∙ none_stays old.pool none ∙ h.has.pool);
          })

      pub ends_taken : (f : ℕ) (memory' : Contents) (caps : Slots) (pool : FreeList) (x : Done)
          → slice_get old.pool.free 0 ≡ Some f
          → caps ≡ with_cap old.caps a (Some (fresh_cap b f)) → pool ≡ without_least old.pool
          → Holds memory' (zeroed_frame m f) → x.value ≡ 0 → work_model x.work ≡ record { op = 2; zeroed = Some f; entries = [] }
          → DoneWith 2 e model caps pool old.map memory' x (alloc e model a b m)
      unfolding work_of zeroed_in entries_in with_caps
      ends_taken f memory' caps pool x least is back holds value told =
          let run = alloc_runs e model a b m below not_filled kind f (sym (pool_least e memory m old h) ∙ least) in
          let free : free_frames e old.caps ≡ old.pool.free = ap (λ (p : FreeList). p.free) (sym h.has.pool) in
          subst (λ (r : act.Done Mem Note Dom Dom). DoneWith 2 e model caps pool old.map memory' x r) (sym run)
          (record {
            value =
                ap (λ (s : Slots). inr (done 0 (record model { caps = s }))) (sym is)
                ∙ ap (λ (v : ℕ). inr (done v (record model { caps = caps }))) (sym value);
            holds = holds;
            told = told;
            root = h.has.root;
            free = back ∙ ap without_least h.has.pool
                ∙ put_free e old.caps h.has.slots a below (Some (fresh_cap b f)) f
                (ap frame_of (claims_at e old.caps h.has.slots a below ∙ ap claim_of empty) ∙ none_named)
                (fresh_frame (nat_eq b 0) f) (ap (λ (xs : List ℕ). slice_get xs 0) free ∙ least)
                ∙ ap (free_of e) (sym is);
            slots = ap length is ∙ long_set old.caps h.has.slots a (Some (fresh_cap b f));
          })

pub ends_past : (e : Estate) (old : Domain) (memory : Contents) (readings : List ℕ) (replies : List Reply)
    (m : Mem) (a b : ℕ) (x : CallError)
    → HasFacts e memory m old → 64 ≤ a → code_of x ≡ 2
    → Ends 2 e old old memory readings replies (Err x) (alloc e (dom_model old readings replies) a b m)
ends_past e old memory readings replies m a b x h above is =
    refusal 2 e old memory readings replies x m (alloc e (dom_model old readings replies) a b m) h
    (alloc_slot e (dom_model old readings replies) a b m above
    ∙ ap (λ (n : ℕ). reads m (inl (refused n (dom_model old readings replies)))) (sym is))
