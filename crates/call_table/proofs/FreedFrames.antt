-- A frame that the last capability of it named is free again.
use Rattle.std.proofs.Common.{◌≡◌, ◌⊎◌, ◌≢◌, ◌∙◌, ℕ, ◌+◌, ◌-◌, ◌<◌, ◌&&◌, Bool, true, false, true≢false, not, nat_eq, eqb-true, length, Option, Some, None, refl, sym, ap, ap₂, arith, inl, inr}
use Rattle.std.specs.Prelude.{slice_index_or}
use Rattle.std.proofs.lemmas.Bool.{cases_eq, cases_lt}
use Rattle.std.proofs.lemmas.List.{get_or_past}
use Rattle.std.proofs.lemmas.Map.Views.{any-filter_same}
use Rattle.tp_base.specs.Act.{either}
use Rattle.frame_colours.specs.Colours.{pool}
use Rattle.frame_colours.proofs.Pools.{pool_has}
use Rattle.cap_table.specs.Slots.{Slots, cap_at}
use Rattle.cap_table.specs.declared.Cap.{Cap}
use Rattle.call_table.specs.Domain.{Dom}
use Rattle.call_table.specs.Claims.{Claim, Estate, is_shared, frame_of, claim_of, claims, is_named, free_frames}
use Rattle.call_table.specs.Entries.{FreedLaw}
use Rattle.call_table.proofs.ClaimLawsSlots.{claims_at, claims_fixed, named_by}
use Rattle.call_table.proofs.TablesMeaning.{mine_is_own}
use Rattle.call_table.proofs.CallLawsDelete.{calls_keep}
use Rattle.call_table.proofs.EntriesWritten.{deleted_slot}

module _ (e : Estate) (old new : Slots) (a f : ℕ) (long : length old ≡ 64) (still : length new ≡ 64)
    (emptied : cap_at new a ≡ None) (others : (i : ℕ) → i ≢ a → cap_at new i ≡ cap_at old i)
    (there : frame_of (claim_of (cap_at old a)) ≡ Some f)
    (alone : (i : ℕ) → i ≢ a → frame_of (claim_of (cap_at old i)) ≢ Some f)
    (unfixed : (n : ℕ) → frame_of (slice_index_or e.fixed n Claim.Nothing) ≢ Some f) where
  no_slot : (i : ℕ) → frame_of (claim_of (cap_at new i)) ≢ Some f
  unfolding claim_of frame_of
  no_slot i is = elim (cases_eq i a) [
    | inl same ↦
        let empty : cap_at new i ≡ None = ap (λ (n : ℕ). cap_at new n) same ∙ emptied in
        absurd (cc (sym (ap (λ (c : Option Cap). frame_of (claim_of c)) empty) ∙ is))
    | inr other ↦ alone i other (ap (λ (c : Option Cap). frame_of (claim_of c)) (sym (others i other)) ∙ is)
  ]

  no_claim : (i : ℕ) → frame_of (claims e new i) ≢ Some f
  no_claim i is = elim (cases_lt i 64) [
    | inl below ↦ no_slot i (ap frame_of (sym (claims_at e new still i below)) ∙ is)
    | inr past ↦
        let place : 64 + (i - 64) ≡ i = omega (arith, past) in
        unfixed (i - 64)
        (ap frame_of (sym (claims_fixed e new still (i - 64))) ∙ ap (λ (n : ℕ). frame_of (claims e new n)) place ∙ is)
  ]

  pub not_named : is_named e new f ≡ false
  not_named = by (is_named e new f) refl
    where
      by : (b : Bool) → is_named e new f ≡ b → b ≡ false
      by true is = let named = named_by e new f is in absurd (no_claim named.0 named.1)
      by false is = refl

-- a frame of no slot is none
no_frame : (c : Option Cap) (f : ℕ) → c ≡ None → frame_of (claim_of c) ≢ Some f
unfolding claim_of frame_of
no_frame c f none is = absurd (cc (sym (ap (λ (x : Option Cap). frame_of (claim_of x)) none) ∙ is))

pub freed : FreedLaw
unfolding free_frames either
freed e d x m a f estate kept is does same there alone =
    let set = deleted_slot e d x m is does in
    let after = calls_keep e d m estate kept in
    let long : length x.caps ≡ 64 = ap (λ (v : Dom ⊎ Dom). length (either v).caps) (sym does) ∙ after.slots in
    let below : a < 64 = elim (cases_lt a 64) [
      | inl l ↦ l
      | inr past ↦ absurd (no_frame (cap_at d.caps a) f (get_or_past d.caps a None (omega (arith, past, kept.slots))) there)
    ] in
    let claimed : frame_of (claims e d.caps a) ≡ Some f = ap frame_of (claims_at e d.caps kept.slots a below) ∙ there in
    let unfixed : (n : ℕ) → frame_of (slice_index_or e.fixed n Claim.Nothing) ≢ Some f = λ n fixed.
    let here = ap frame_of (claims_fixed e d.caps kept.slots n) ∙ fixed in
    let both = kept.facts.apart a (64 + n) f (λ e. omega (arith, e, below)) claimed here in
    true≢false (sym both.1 ∙ ap is_shared (claims_fixed e d.caps kept.slots n) ∙ estate.alone n) in
    let free = not_named e d.caps x.caps a f kept.slots long (ap (λ (n : ℕ). cap_at x.caps n) same ∙ set.there)
    (λ i other. set.others i (λ q. other (q ∙ sym same))) there alone unfixed in
    any-filter_same (λ m. nat_eq m f) (λ n. not (is_named e x.caps n)) (not (is_named e x.caps f))
    (λ n s. ap (λ n. not (is_named e x.caps n)) (eqb-true n f s)) (pool e.share)
    ∙ ap₂ (λ (b c : Bool). not b && c) free (pool_has e.share f (mine_is_own e f (kept.facts.owned a f claimed)))
