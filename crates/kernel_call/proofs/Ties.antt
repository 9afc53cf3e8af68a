-- What the facts of the code's domain give its calls, and how a call ends that was refused or done.
use Rattle.std.proofs.Common.{◌≡◌, ◌≢◌, ℕ, ◌<◌, Bool, true, false, true≢false, not, List, [], length, Option, Some, None, Ok, Err, ◌⊎◌, inl, inr, refl, ap, sym, subst, ◌∙◌}
use Rattle.std.specs.Prelude.{is_some, filter, Result}
use Rattle.std.proofs.lemmas.Bool.{cases_eq, and_from}
use mathlib.Core.Path.{fun_ext}
use Rattle.tp_base.specs.Act as act
use Rattle.phys_mem.specs.Contents.{Contents}
use Rattle.phys_mem.specs.Holds.{Holds}
use Rattle.phys_mem.specs.Mem.{Mem, word}
use Rattle.sv32_walk.specs.PageTableEntry.{valid, ppn, vpn_0, vpn_1, leaf_word}
use Rattle.sv32_walk.specs.Translation.{second_entry}
use Rattle.sv32_walk.proofs.WordLemmas.{valid-leaf}
use Rattle.page_map.specs.Tables.{IsPageMap, IsBlank, StandsWith, has_table, has_page}
use Rattle.page_map.specs.Reached.{IsApart}
use Rattle.frame_colours.specs.Colours.{pool}
use Rattle.kernel_clone.specs.Models.{work_model}
use Rattle.kernel_clone.specs.declared.Work.{Work}
use Rattle.cap_table.specs.declared.Cap.{Cap}
use Rattle.cap_table.specs.declared.Cap.TheVariants as cap
use Rattle.cap_table.specs.Slots.{Slots, cap_at, with_cap}
use Rattle.call_table.specs.Domain.{Dom, done, refused}
use Rattle.call_table.specs.Claims.{Claim, Claims, Estate, is_mine, frame_of, claim_of, claims, entry_places, region_of, is_named, free_frames, IsMapped}
use Rattle.call_table.specs.Calls.{Note, work_of, filled}
use Rattle.call_table.specs.Laws.{Kept, IsMine, IsPageFrame}
use Rattle.call_table.specs.declared.Reply.{Reply}
use Rattle.call_table.proofs.ClaimLaws.{with_claim, claim_same, claim_other}
use Rattle.call_table.proofs.ClaimLawsSlots.{claims_at, claims_set, long_set, named_by, names}
use Rattle.call_table.proofs.ClaimLaws.{one_slot, not_root}
use Rattle.call_table.proofs.TablesClaims.{valid-table, own_table, table_frame}
use Rattle.call_table.proofs.TablesMeaning.{mine_is_own, page_frame, page_tables}
use Rattle.call_table.proofs.CallLaws.{table_at}
use Rattle.kernel_call.specs.declared.domain.Domain.{Domain}
use Rattle.kernel_call.specs.declared.error.CallError.{CallError}
use Rattle.kernel_call.specs.Models.{dom_model}
use Rattle.kernel_call.specs.Facts.{Done, with_work, Has, HasFacts, Valid, code_of, end_of, reads, Ends}

pub kept_facts : (e : Estate) (memory : Contents) (m : Mem) (d : Domain) (readings : List ℕ)
    (replies : List Reply)
    → HasFacts e memory m d → Kept e (dom_model d readings replies) m
kept_facts e memory m d readings replies h = record { slots = h.has.slots; facts = h.facts }

-- ---- how calls end

pub ends_refused : (number : ℕ) (e : Estate) (old new : Domain) (memory : Contents) (m : Mem)
    (readings : List ℕ) (replies : List Reply)
    (x : CallError) (r : act.Done Mem Note Dom Dom) → Holds memory m → Has e new
    → r ≡ reads m (inl (refused (code_of x) (dom_model old readings replies)))
    → Ends number e old new memory readings replies (Err x) r
ends_refused number e old new memory m readings replies x r holds has is = record {
  value = ap (λ (r : act.Done Mem Note Dom Dom). r.value) is;
  holds = subst (λ (r : act.Done Mem Note Dom Dom). Holds memory r.state) (sym is) holds;
  work = ap (λ (r : act.Done Mem Note Dom Dom). r.notes) is;
  has = has;
}

-- nothing is changed
pub ends_same : (number : ℕ) (e : Estate) (d : Domain) (memory : Contents) (m : Mem) (readings : List ℕ)
    (replies : List Reply)
    (x : CallError) (r : act.Done Mem Note Dom Dom) → HasFacts e memory m d
    → r ≡ reads m (inl (refused (code_of x) (dom_model d readings replies)))
    → Ends number e d d memory readings replies (Err x) r
ends_same number e d memory m readings replies x r h is =
    ends_refused number e d d memory m readings replies x r h.holds h.has is

pub ends_error : (number : ℕ) (e : Estate) (d : Domain) (memory : Contents) (m : Mem) (readings : List ℕ)
    (replies : List Reply)
    (x : CallError) (result : Result Done CallError) (r : act.Done Mem Note Dom Dom) → HasFacts e memory m d → result ≡ Err x
    → r ≡ reads m (inl (refused (code_of x) (dom_model d readings replies)))
    → Ends number e d d memory readings replies result r
ends_error number e d memory m readings replies x result r h is exit =
    subst (λ (t : Result Done CallError). Ends number e d d memory readings replies t r) (sym is)
    (ends_same number e d memory m readings replies x r h exit)

-- by `?`, whatever the work
pub exits : (result : Result ℕ CallError) (x : CallError) (work : Work) → result ≡ Err x
    → with_work result work ≡ Err x
exits result x work is = ap (λ (t : Result ℕ CallError). with_work t work) is

-- the slot's number is bad, or the slot is empty
pub ends_unfilled : (number : ℕ) (e : Estate) (d : Domain) (memory : Contents) (m : Mem) (readings : List ℕ)
    (replies : List Reply)
    (slot : ℕ) (found : Result Cap CallError) (x y : CallError) (result : Result Done CallError) (r : act.Done Mem Note Dom Dom)
    → HasFacts e memory m d
    → filled (dom_model d readings replies) slot m ≡ reads m (end_of (dom_model d readings replies) found)
    → found ≡ Err y → x ≡ y → result ≡ Err x
    → ((z : Dom) → filled (dom_model d readings replies) slot m ≡ reads m (inl z) → r ≡ reads m (inl z))
    → Ends number e d d memory readings replies result r
ends_unfilled number e d memory m readings replies slot found x y result r h finds was same is exit =
    ends_error number e d memory m readings replies x result r h is (exit (refused (code_of x) (dom_model d readings replies))
    (finds ∙ ap (λ (t : Result Cap CallError). reads m (end_of (dom_model d readings replies) t)) (was ∙ ap Err (sym same))))

-- the call was done, and leaves this domain
pub ends_done : (number : ℕ) (e : Estate) (old new : Domain) (memory : Contents) (readings : List ℕ)
    (replies : List Reply)
    (x : Done) (notes : List Note) (n : Mem) (after : Dom) (r : act.Done Mem Note Dom Dom)
    → r ≡ record { notes = notes; state = n; value = inr (done x.value after) }
    → dom_model new readings replies ≡ after → Holds memory n → work_model x.work ≡ work_of number notes → Has e new
    → Ends number e old new memory readings replies (Ok x) r
ends_done number e old new memory readings replies x notes n after r is leaves holds work has = record {
  value = ap (λ (r : act.Done Mem Note Dom Dom). r.value) is ∙ ap (λ (d : Dom). ◌⊎◌.inr (done x.value d)) (sym leaves);
  holds = subst (λ (r : act.Done Mem Note Dom Dom). Holds memory r.state) (sym is) holds;
  work = work ∙ ap (λ (r : act.Done Mem Note Dom Dom). work_of number r.notes) (sym is);
  has = has;
}

-- ---- a slot is set, and no frame is free that was not, or was that is not

-- each frame that one family of claims names is one that the other does
abbrev pub NamesAll : Claims → Claims → Type 0
NamesAll k l = (i f : ℕ) → frame_of (k i) ≡ Some f → (j : ℕ) × (frame_of (l j) ≡ Some f)

same_bool : (a b : Bool) → (a ≡ true → b ≡ true) → (b ≡ true → a ≡ true) → a ≡ b
same_bool true b f g = sym (f refl)
same_bool false true f g = g refl
same_bool false false f g = refl

named_over : (e : Estate) (old new : Slots) (f : ℕ) → NamesAll (claims e old) (claims e new)
    → is_named e old f ≡ true → is_named e new f ≡ true
named_over e old new f over is =
    let r = named_by e old f is in
    let s = over r.0 f r.1 in
    names e new f s.0 s.1

pub same_free : (e : Estate) (old new : Slots) → NamesAll (claims e old) (claims e new)
    → NamesAll (claims e new) (claims e old)
    → free_frames e new ≡ free_frames e old
unfolding free_frames
same_free e old new over back =
    ap (λ (p : ℕ → Bool). filter (λ f. not (p f)) (pool e.share)) (fun_ext (λ f.
    same_bool (is_named e new f) (is_named e old f) (named_over e new old f back) (named_over e old new f over)))

module _ (e : Estate) (caps : Slots) (long : length caps ≡ 64) (a : ℕ) (x : Option Cap) (below : a < 64) where
  -- what the slot named is named still, and what it names was
  pub free_set : ((f : ℕ) → frame_of (claims e caps a) ≡ Some f
      → (j : ℕ) × (frame_of (with_claim (claims e caps) a (claim_of x) j) ≡ Some f))
      → ((f : ℕ) → frame_of (claim_of x) ≡ Some f → (j : ℕ) × (frame_of (claims e caps j) ≡ Some f))
      → free_frames e (with_cap caps a x) ≡ free_frames e caps
  free_set was is = same_free e caps (with_cap caps a x)
      (subst (λ (k : Claims). NamesAll (claims e caps) k) (sym (claims_set e caps long a x below)) (λ i f named. elim (cases_eq i a) [
        | inl same ↦ was f (subst (λ (j : ℕ). frame_of (claims e caps j) ≡ Some f) same named)
        | inr other ↦ (i, ap frame_of (claim_other (claims e caps) a (claim_of x) i other) ∙ named)
      ]))
      (subst (λ (k : Claims). NamesAll k (claims e caps)) (sym (claims_set e caps long a x below)) (λ i f named. elim (cases_eq i a) [
        | inl same ↦
            is f (ap frame_of (sym (claim_same (claims e caps) a (claim_of x)))
            ∙ subst (λ (j : ℕ). frame_of (with_claim (claims e caps) a (claim_of x) j) ≡ Some f) same named)
        | inr other ↦ (i, ap frame_of (sym (claim_other (claims e caps) a (claim_of x) i other)) ∙ named)
      ]))

  -- the slot names the frame that it named
  pub free_noted : frame_of (claim_of x) ≡ frame_of (claim_of (cap_at caps a))
      → free_frames e (with_cap caps a x) ≡ free_frames e caps
  free_noted same =
      let here : frame_of (claims e caps a) ≡ frame_of (claim_of x) = ap frame_of (claims_at e caps long a below) ∙ sym same in
      free_set
      (λ f named. (a, ap frame_of (claim_same (claims e caps) a (claim_of x)) ∙ (sym here ∙ named)))
      (λ f named. (a, here ∙ named))

pub has_set : (e : Estate) (old new : Domain) (a : ℕ) (x : Option Cap) → Has e old → new.map ≡ old.map
    → new.calls ≡ old.calls → new.number ≡ old.number
    → new.pool ≡ old.pool → new.caps ≡ with_cap old.caps a x → free_frames e (with_cap old.caps a x) ≡ free_frames e old.caps → Has e new
has_set e old new a x h map calls number same_pool caps free = record {
  root = map ∙ h.root;
  calls = calls ∙ h.calls;
  number = number ∙ h.number;
  pool = same_pool ∙ h.pool ∙ ap (λ (fs : List ℕ). record { share = e.share; free = fs }) (sym (ap (free_frames e) caps ∙ free));
  slots = ap length caps ∙ long_set old.caps h.slots a x;
}

-- the parts that hold the facts are as they were
pub has_still : (e : Estate) (old new : Domain) → Has e old → new.map ≡ old.map → new.calls ≡ old.calls
    → new.number ≡ old.number → new.pool ≡ old.pool
    → new.caps ≡ old.caps → Has e new
has_still e old new h map calls number same_pool caps = record {
  root = map ∙ h.root;
  calls = calls ∙ h.calls;
  number = number ∙ h.number;
  pool = same_pool ∙ h.pool ∙ ap (λ (fs : List ℕ). record { share = e.share; free = fs }) (sym (ap (free_frames e) caps));
  slots = ap length caps ∙ h.slots;
}

-- ---- the conditions of page tables

no_some : {A : Type 0} (w : Option A) → is_some w ≡ false → w ≡ None
no_some None e = refl
no_some (Some a) e = absurd (true≢false e)

module _ (memory : Contents) (d : Domain) (v : Valid memory d) where
  dom : Dom
  dom = dom_model d [] []

  kept : Kept v.estate dom v.mem
  unfolding dom
  kept = kept_facts v.estate memory v.mem d [] [] v.facts

  claim_there : (a : ℕ) (c : Option Cap) → a < 64 → cap_at d.caps a ≡ c
      → claims v.estate d.caps a ≡ claim_of c
  claim_there a c below there = claims_at v.estate d.caps v.facts.has.slots a below ∙ ap claim_of there

  -- what is so of the estate's root and memory is so of the domain's
  stands : (P : Mem → ℕ → Type 0) → P v.mem v.estate.root → StandsWith memory (λ m. P m d.map)
  stands P so = record { mem = v.mem; holds = v.facts.holds; so = subst (P v.mem) (sym v.facts.has.root) so }

  in_memory : (f : ℕ) → IsMine v.estate f → f < memory.frames
  in_memory f own = subst (λ (n : ℕ). f < n) v.facts.frames (mine_is_own v.estate f own).below

  pub tables_stand : StandsWith memory (λ m. IsPageMap m d.map memory.frames)
  unfolding dom
  tables_stand = stands (λ m root. IsPageMap m root memory.frames)
      (subst (λ (n : ℕ). IsPageMap v.mem v.estate.root n) v.facts.frames (page_tables v.estate dom v.mem kept).map)

  page_there : (a f rights : ℕ) (w : Option ℕ) → a < 64 → cap_at d.caps a ≡ Some (cap.Frame f rights w)
      → IsPageFrame v.estate dom v.mem f
  unfolding dom claim_of
  page_there a f rights w below there =
      page_frame v.estate dom v.mem kept a f true (entry_places w) (claim_there a (Some (cap.Frame f rights w)) below there)

  pub page_below : (a f rights : ℕ) (w : Option ℕ) → a < 64 → cap_at d.caps a ≡ Some (cap.Frame f rights w)
      → f < memory.frames
  page_below a f rights w below there = in_memory f (page_there a f rights w below there).own

  pub page_apart : (a f rights : ℕ) (w : Option ℕ) → a < 64 → cap_at d.caps a ≡ Some (cap.Frame f rights w)
      → StandsWith memory (λ m. IsApart m d.map f)
  page_apart a f rights w below there = stands (λ m root. IsApart m root f) (page_there a f rights w below there).apart

  -- a page that is mapped
  pub page_mapped : (a f rights va : ℕ) → a < 64 → cap_at d.caps a ≡ Some (cap.Frame f rights (Some va))
      → StandsWith memory (λ m. has_page m d.map va ≡ true)
  unfolding dom claim_of entry_places
  page_mapped a f rights va below there =
      let claim : claims v.estate d.caps a ≡ Claim.Leaf true f (Some (vpn_1 va, vpn_0 va)) =
      claim_there a (Some (cap.Frame f rights (Some va))) below there in
      let l : IsMapped (claims v.estate d.caps) v.mem f (vpn_1 va) (vpn_0 va) = v.facts.facts.mapped a true f (vpn_1 va) (vpn_0 va) claim in
      let table : has_table v.mem v.estate.root va ≡ true =
      ap valid (v.facts.facts.installed l.slot l.frame (vpn_1 va) l.claim) ∙ valid-table l.frame in
      let entry : second_entry v.mem v.estate.root va ≡ leaf_word f l.rights =
      ap (λ (g : ℕ). word v.mem g (vpn_0 va)) (table_at v.estate dom v.mem va l.slot l.frame kept l.claim) ∙ l.entry_is in
      stands (λ m root. has_page m root va ≡ true)
      (and_from (has_table v.mem v.estate.root va) (valid (second_entry v.mem v.estate.root va)) table
      (ap valid entry ∙ valid-leaf f l.rights l.good))

  -- a table that is installed nowhere
  loose : (a f : ℕ) (w : Option ℕ) → a < 64 → cap_at d.caps a ≡ Some (cap.Table f w) → is_some w ≡ false
      → claims v.estate d.caps a ≡ Claim.Directory f None
  unfolding claim_of region_of
  loose a f w below there none =
      claim_there a (Some (cap.Table f w)) below there ∙ ap (λ w. Claim.Directory f (region_of w)) (no_some w none)

  pub table_below : (a f : ℕ) (w : Option ℕ) → a < 64 → cap_at d.caps a ≡ Some (cap.Table f w)
      → is_some w ≡ false → f < memory.frames
  table_below a f w below there none =
      in_memory f (own_table v.estate.root (is_mine v.estate) (claims v.estate d.caps) v.mem v.facts.facts a
      f None (loose a f w below there none))

  not_installed : (a f place : ℕ) → claims v.estate d.caps a ≡ Claim.Directory f None
      → valid (word v.mem v.estate.root place) ≡ true
      → ppn (word v.mem v.estate.root place) ≢ f
  not_installed a f place claim ok same =
      let t = v.facts.facts.tables place ok in
      let frame : t.frame ≡ f =
      sym (table_frame v.estate.root (is_mine v.estate) (claims v.estate d.caps) v.mem v.facts.facts
      place ok) ∙ same in
      let claim_too : claims v.estate d.caps t.slot ≡ Claim.Directory f (Some place) =
      subst (λ (g : ℕ). claims v.estate d.caps t.slot ≡ Claim.Directory g (Some place)) frame t.claim in
      let slot : a ≡ t.slot =
      one_slot v.estate.root (is_mine v.estate) (claims v.estate d.caps) v.mem v.facts.facts a t.slot f
      None (Some place) claim claim_too in
      let no : Claim.Directory f None ≡ Claim.Directory f (Some place) = sym claim ∙ ap (claims v.estate d.caps) slot ∙ claim_too in
      cc no

  pub table_apart : (a f : ℕ) (w : Option ℕ) → a < 64 → cap_at d.caps a ≡ Some (cap.Table f w)
      → is_some w ≡ false
      → StandsWith memory (λ m. IsApart m d.map f)
  table_apart a f w below there none =
      let claim = loose a f w below there none in
      stands (λ m root. IsApart m root f) (record {
        no_root = not_root v.estate.root (is_mine v.estate) (claims v.estate d.caps) v.mem v.facts.facts a f None claim;
        no_table = record { unnamed = λ place within ok. not_installed a f place claim ok };
      })

  pub table_blank : (a f : ℕ) (w : Option ℕ) → a < 64 → cap_at d.caps a ≡ Some (cap.Table f w)
      → is_some w ≡ false
      → StandsWith memory (λ m. IsBlank m f)
  table_blank a f w below there none =
      stands (λ m root. IsBlank m f) (record { zero = λ place within. v.facts.facts.blank a f (loose a f w below there none) place })
