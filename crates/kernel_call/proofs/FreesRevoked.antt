-- What is free after a revocation: the same frames, since the slot that is asked still names its page.
use Rattle.std.proofs.Common.{arith, ◌≡◌, ◌≢◌, ◌∙◌, ap, sym, refl, inl, inr, ℕ, ◌+◌, ◌-◌, ◌<◌, Bool, true, false, true≢false, eqb-true, length, Option, Some, None}
use Rattle.std.specs.Prelude.{if◌then◌else◌}
use Rattle.std.proofs.lemmas.Bool.{cases_lt, and_parts}
use Rattle.cap_table.specs.declared.Cap.{Cap}
use Rattle.cap_table.specs.declared.Cap.TheVariants as cap
use Rattle.cap_table.specs.Slots.{Slots, cap_at, alike, same_number, is_revoked, revoked}
use Rattle.call_table.specs.Claims.{Claim, Estate, frame_of, claim_of, claims}
use Rattle.call_table.proofs.ClaimLawsSlots.{claims_at, claims_fixed}
use Rattle.kernel_call.proofs.Frees.{free_of, same_free, Names, named_alike}
use Rattle.cap_table.proofs.RevokeLemmas.{length_revoked, at_revoked, itself}

number_same : (w : Option ℕ) (n : ℕ) → same_number (Some n) w ≡ true → w ≡ Some n
number_same None n e = absurd (cc e)
number_same (Some k) n e = ap Some (sym (eqb-true n k e))

-- what is alike names the same frame
alike_frame : (c d : Option Cap) (f : ℕ) → alike c d ≡ true → frame_of (claim_of d) ≡ Some f
    → frame_of (claim_of c) ≡ Some f
unfolding frame_of claim_of
alike_frame None d f same is = absurd (true≢false (sym same))
alike_frame (Some (cap.Table g w)) d f same is = absurd (true≢false (sym same))
alike_frame (Some (cap.Irq line)) None f same is = absurd (cc is)
alike_frame (Some (cap.Irq line)) (Some (cap.Irq other)) f same is = absurd (cc is)
alike_frame (Some (cap.Irq line)) (Some (cap.Frame h r w)) f same is = absurd (true≢false (sym same))
alike_frame (Some (cap.Irq line)) (Some (cap.Table h w)) f same is = absurd (true≢false (sym same))
alike_frame (Some (cap.Frame g s v)) None f same is = absurd (cc is)
alike_frame (Some (cap.Frame g s v)) (Some (cap.Irq other)) f same is = absurd (cc is)
alike_frame (Some (cap.Frame g s v)) (Some (cap.Table h w)) f same is = absurd (true≢false (sym same))
alike_frame (Some (cap.Frame g s v)) (Some (cap.Frame h r w)) f same is = sym (number_same (Some h) g same) ∙ is

module _ (e : Estate) (caps : Slots) (long : length caps ≡ 64) (a : ℕ) (below : a < 64) where
  abbrev after : Slots
  after = revoked caps a

  kept_at : (i : ℕ) → i < 64 → is_revoked caps a i ≡ false → claims e after i ≡ claims e caps i
  kept_at i within stays =
      claims_at e after (length_revoked caps a ∙ long) i within
      ∙ ap claim_of (at_revoked caps a i ∙ ap (λ (t : Bool). if t then None else cap_at caps i) stays)
      ∙ sym (claims_at e caps long i within)

  gone_at : (i f : ℕ) → i < 64 → is_revoked caps a i ≡ true → frame_of (claims e after i) ≢ Some f
  unfolding frame_of claim_of
  gone_at i f within goes is =
      let none : claims e after i ≡ Claim.Nothing =
      claims_at e after (length_revoked caps a ∙ long) i within
      ∙ ap claim_of (at_revoked caps a i ∙ ap (λ (t : Bool). if t then None else cap_at caps i) goes) in
      let no : None ≡ Some f = sym (ap frame_of none) ∙ is in
      cc no

  fixed_at : (i : ℕ) → 64 + (i - 64) ≡ i → claims e after i ≡ claims e caps i
  fixed_at i place =
      ap (claims e after) (sym place) ∙ claims_fixed e after (length_revoked caps a ∙ long) (i - 64)
      ∙ sym (claims_fixed e caps long (i - 64)) ∙ ap (claims e caps) place

  to_after : (i f : ℕ) → i < 64 → frame_of (claims e caps i) ≡ Some f → (t : Bool) → is_revoked caps a i ≡ t
      → Names e after f
  to_after i f within is false stays = (i, ap frame_of (kept_at i within stays) ∙ is)
  to_after i f within is true goes =
      let here : frame_of (claim_of (cap_at caps i)) ≡ Some f = ap frame_of (sym (claims_at e caps long i within)) ∙ is in
      let self : frame_of (claim_of (cap_at caps a)) ≡ Some f = alike_frame (cap_at caps a) (cap_at caps i) f (and_parts _ _ goes).1 here in
      (a, ap frame_of (kept_at a below (itself caps a) ∙ claims_at e caps long a below) ∙ self)

  from_after : (i f : ℕ) → i < 64 → frame_of (claims e after i) ≡ Some f → (t : Bool)
      → is_revoked caps a i ≡ t → Names e caps f
  from_after i f within is false stays = (i, ap frame_of (sym (kept_at i within stays)) ∙ is)
  from_after i f within is true goes = absurd (gone_at i f within goes is)

  pub revoked_free : free_of e caps ≡ free_of e (revoked caps a)
  revoked_free = same_free e caps after (λ f. named_alike e caps after f
      (λ (n : Names e caps f). elim (cases_lt n.0 64) [
        | inl within ↦ to_after n.0 f within n.1 (is_revoked caps a n.0) refl
        | inr past ↦ (n.0, ap frame_of (fixed_at n.0 (omega (arith, past))) ∙ n.1)
      ])
      (λ (n : Names e after f). elim (cases_lt n.0 64) [
        | inl within ↦ from_after n.0 f within n.1 (is_revoked caps a n.0) refl
        | inr past ↦ (n.0, ap frame_of (sym (fixed_at n.0 (omega (arith, past)))) ∙ n.1)
      ]))
