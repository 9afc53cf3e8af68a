-- How COPY and PUT run, to each of their ends.
use Rattle.std.proofs.Common.{◌≡◌, ℕ, ◌<◌, ◌≤◌, ◌%◌, true, false, not, [], ◌∷◌, ◌++◌, length, Option, Some, None, inl, refl, ap, sym, ◌∙◌}
use Rattle.std.specs.Prelude.{is_some, nat_lt}
use Rattle.std.proofs.lemmas.Bool.{lt-ltb, le-ltb}
use Rattle.tp_base.specs.Act.{give}
use Rattle.phys_mem.specs.Mem.{Mem}
use Rattle.cap_table.specs.declared.Cap.{Cap}
use Rattle.cap_table.specs.declared.Cap.TheVariants as cap
use Rattle.cap_table.specs.Slots.{Slots, cap_at, is_filled, with_cap, copied}
use Rattle.call_table.specs.Domain.{Dom, done, refused}
use Rattle.call_table.specs.Claims.{Estate, frame_of, claim_of, claims, free_frames}
use Rattle.call_table.specs.Calls.{copy, copy_refusal, put_byte, with_slot}
use Rattle.call_table.proofs.ClaimLawsSlots.{claims_at}
use Rattle.kernel_call.specs.Facts.{reads}
use Rattle.kernel_call.proofs.Ties.{free_set}
use Rattle.kernel_call.proofs.TiesTables.{does}
use Rattle.kernel_call.proofs.Paths.{slot_then, slot_ends, some_then, some_ends, check_then, check_ends, then_goes, then_ends, unless_passes, unless_stops}

filled_some : (o : Option Cap) → is_filled o ≡ is_some o
filled_some None = refl
filled_some (Some c) = refl

pub empty_none : (o : Option Cap) → is_some o ≡ false → o ≡ None
empty_none None e = refl
empty_none (Some c) e = absurd (cc e)

-- ---- COPY

module _ (d : Dom) (m : Mem) (a b c : ℕ) where
  pub copy_bad : 64 ≤ a → copy d a b c m ≡ reads m (inl (refused 2 d))
  unfolding copy
  copy_bad above = slot_ends d a _ m above

  module _ (below : a < 64) where
    pub copy_bad_too : 64 ≤ b → copy d a b c m ≡ reads m (inl (refused 2 d))
    unfolding copy
    copy_bad_too above = slot_then d a _ m below ∙ slot_ends d b _ m above

    module _ (in_range : b < 64) where
      pub copy_empty : cap_at d.caps a ≡ None → copy d a b c m ≡ reads m (inl (refused 3 d))
      unfolding copy
      copy_empty none =
          slot_then d a _ m below ∙ slot_then d b _ m in_range
          ∙ some_ends (refused 3 d) (cap_at d.caps a) _ m none

      module _ (x : Cap) (there : cap_at d.caps a ≡ Some x) where
        pub copy_used : is_some (cap_at d.caps b) ≡ true → copy d a b c m ≡ reads m (inl (refused 4 d))
        unfolding copy
        copy_used full =
            slot_then d a _ m below ∙ slot_then d b _ m in_range
            ∙ some_then (refused 3 d) (cap_at d.caps a) _ x m there
            ∙ check_ends (refused 4 d) (not (is_filled (cap_at d.caps b))) _ m (ap not (filled_some (cap_at d.caps b) ∙ full))

        pub copy_refused : (code : ℕ) → is_some (cap_at d.caps b) ≡ false → copy_refusal x c ≡ Some code
            → copy d a b c m ≡ reads m (inl (refused code d))
        unfolding copy
        copy_refused code empty is =
            slot_then d a _ m below ∙ slot_then d b _ m in_range
            ∙ some_then (refused 3 d) (cap_at d.caps a) _ x m there
            ∙ check_then (refused 4 d) (not (is_filled (cap_at d.caps b))) _ m (ap not (filled_some (cap_at d.caps b) ∙ empty))
            ∙ then_ends _ _ m (refused code d) (unless_stops d (copy_refusal x c) code m is)

        pub copy_done : is_some (cap_at d.caps b) ≡ false → copy_refusal x c ≡ None
            → copy d a b c m ≡ does [] m (done 0 (with_slot d b (copied (Some x) c)))
        unfolding copy give
        copy_done empty is =
            slot_then d a _ m below ∙ slot_then d b _ m in_range
            ∙ some_then (refused 3 d) (cap_at d.caps a) _ x m there
            ∙ check_then (refused 4 d) (not (is_filled (cap_at d.caps b))) _ m (ap not (filled_some (cap_at d.caps b) ∙ empty))
            ∙ then_goes _ _ m tt (unless_passes d (copy_refusal x c) m is)

-- one more slot names what another does
frame_copied : (x : Cap) (c : ℕ) → frame_of (claim_of (copied (Some x) c)) ≡ frame_of (claim_of (Some x))
unfolding frame_of claim_of
frame_copied (cap.Frame f rights w) c = refl
frame_copied (cap.Table f w) c = refl
frame_copied (cap.Irq line) c = refl

nothing_there : (e : Estate) (caps : Slots) (b : ℕ) → length caps ≡ 64 → b < 64
    → is_some (cap_at caps b) ≡ false → frame_of (claims e caps b) ≡ None
unfolding frame_of claim_of
nothing_there e caps b long below empty =
    ap frame_of (claims_at e caps long b below) ∙ ap (λ (c : Option Cap). frame_of (claim_of c)) (empty_none (cap_at caps b) empty)

pub free_copied : (e : Estate) (caps : Slots) (a b c : ℕ) (x : Cap) → length caps ≡ 64 → a < 64 → b < 64
    → cap_at caps a ≡ Some x
    → is_some (cap_at caps b) ≡ false → free_frames e (with_cap caps b (copied (Some x) c)) ≡ free_frames e caps
free_copied e caps a b c x long below in_range there empty =
    free_set e caps long b (copied (Some x) c) in_range
    (λ f named.
    let none : None ≡ Some f = sym (nothing_there e caps b long in_range empty) ∙ named in
    absurd (cc none))
    (λ f named. (
      a,
      ap frame_of (claims_at e caps long a below) ∙ ap (λ (c : Option Cap). frame_of (claim_of c)) there
          ∙ (sym (frame_copied x c) ∙ named),
    ))

-- ---- PUT

module _ (d : Dom) (m : Mem) (a : ℕ) where
  pub put_full : 4096 ≤ length d.printed → put_byte d a m ≡ reads m (inl (refused 11 d))
  unfolding put_byte
  put_full above = check_ends (refused 11 d) (nat_lt (length d.printed) 4096) _ m (le-ltb (length d.printed) 4096 above)

  pub put_done : length d.printed < 4096
      → put_byte d a m ≡ does [] m (done 0 (record d { printed = d.printed ++ a % 256 ∷ [] }))
  unfolding put_byte give
  put_done below = check_then (refused 11 d) (nat_lt (length d.printed) 4096) _ m (lt-ltb (length d.printed) 4096 below)
