-- The domain on its hart before a switch, and after it, beside the domain alone.
use Rattle.std.proofs.Common.{◌≡◌, ◌≢◌, ℕ, Bool, true, false, eqb, zero, suc, ap, sym, ◌∙◌, refl, true≢false, eqb-true, eq-eqb}
use Rattle.std.proofs.lemmas.Option.{same_Some}
use Rattle.std.specs.Prelude.{Some, List}
use Rattle.mail_slots.specs.Sides.{Arrival, arrival}
use Rattle.world_view.specs.Mail.{left_boxes, turns, nth_of}
use Rattle.image_check.specs.Image.{Image, own_of}
use Rattle.sched_table.specs.Schedule.{entry_of_slot, outgoing}
use Rattle.world_view.specs.Machine.{Local, World, part_of, guarded, switch_on, alone_enter, alone_in, alone_out, alone_if, alone_mail}
use Rattle.world_view.specs.Relations.{IsDomain, SameFrames, Within, Apiece, InTime}
use Rattle.world_view.proofs.opening.Separate.{Separated}
use Rattle.world_view.proofs.runs.SwitchLaws.{switch_past, switch_out, switch_in, switch_both}

-- after slot k, where this came to it: the slot was the domain's, which hasn't left yet; or another's
abbrev pub JoinedIf : Image → ℕ → List Arrival → ℕ → Bool → Local → Type 0
JoinedIf i d came k true x =
    Within i.all.hardware (own_of i d) x
    (alone_in i.all (own_of i d) k (nth_of came (turns i.all.schedule d k)) (alone_mail i.all (own_of i d) d came k))
JoinedIf i d came k false x = Apiece i.all.hardware (own_of i d) x (alone_mail i.all (own_of i d) d came k)

-- before switch k, beside the domain alone
abbrev pub Joined : Image → ℕ → List Arrival → ℕ → Local → Type 0
Joined i d came zero x = Apiece i.all.hardware (own_of i d) x (alone_mail i.all (own_of i d) d came 0)
Joined i d came (suc k) x = JoinedIf i d came k (eqb (entry_of_slot i.all.schedule k).domain d) x

module _ (i : Image) (r : Separated i) (d : ℕ) (is : IsDomain i d) where
  pub leaves_as : (k : ℕ) → eqb (entry_of_slot i.all.schedule k).domain d ≡ true
      → outgoing i.all.schedule (suc k) ≡ Some d
  leaves_as k t = ap Some (eqb-true (entry_of_slot i.all.schedule k).domain d t)

  pub leaves_not : (k : ℕ) → eqb (entry_of_slot i.all.schedule k).domain d ≡ false
      → outgoing i.all.schedule (suc k) ≢ Some d
  leaves_not k t q = true≢false (sym (eq-eqb (entry_of_slot i.all.schedule k).domain d (same_Some _ _ q)) ∙ t)

  module _ (came : List Arrival) where
    -- the domain alone before slot k
    abbrev out_at : ℕ → Local
    out_at k = alone_mail i.all (own_of i d) d came k

    -- what its slot k begins with, if the slot is its own
    abbrev words_at : ℕ → Arrival
    words_at k = nth_of came (turns i.all.schedule d k)

    module _ (h : ℕ) (w : World) where
      -- after the switch, on this hart
      switched_part : ℕ → Local
      switched_part k = part_of h d (switch_on (guarded i) i h k w)

      -- what comes in with it
      abbrev comes : ℕ → Arrival
      comes k = arrival d (left_boxes (outgoing i.all.schedule k) w.storage.boxes)

      -- after the leave, if any, where another enters
      left_if : (k : ℕ) (b : Bool) → eqb (entry_of_slot i.all.schedule k).domain d ≡ b
          → (entry_of_slot i.all.schedule (suc k)).domain ≢ d
          → InTime i h (suc k) w → JoinedIf i d came k b (part_of h d w)
          → Apiece i.all.hardware (own_of i d) (switched_part (suc k)) (alone_if i.all (own_of i d) k (words_at k) (out_at k) b)
      unfolding alone_if switched_part
      left_if k true t ne time j =
          switch_out i r h (suc k) d is w (alone_in i.all (own_of i d) k (words_at k) (out_at k)) time (leaves_as k t) ne j
      left_if k false t ne time j = switch_past i r h (suc k) d is w (out_at k) time (leaves_not k t) ne j

      pub another_enters : (k : ℕ) → (entry_of_slot i.all.schedule k).domain ≢ d → InTime i h k w
          → Joined i d came k (part_of h d w)
          → Apiece i.all.hardware (own_of i d) (part_of h d (switch_on (guarded i) i h k w)) (out_at k)
      unfolding alone_mail switched_part
      another_enters zero ne time j = switch_past i r h 0 d is w (out_at 0) time (λ q. absurd (cc q)) ne j
      another_enters (suc k) ne time j = left_if k _ refl ne time j

      enter_if : (k : ℕ) (b : Bool) → eqb (entry_of_slot i.all.schedule k).domain d ≡ b
          → (entry_of_slot i.all.schedule (suc k)).domain ≡ d
          → InTime i h (suc k) w → JoinedIf i d came k b (part_of h d w)
          → Within i.all.hardware (own_of i d) (switched_part (suc k))
          (alone_enter i.all (own_of i d) (suc k) (comes (suc k))
          (alone_if i.all (own_of i d) k (words_at k) (out_at k) b))
      unfolding alone_if switched_part
      enter_if k true t e time j = switch_both i r h (suc k) d is w _ time (leaves_as k t) e j
      enter_if k false t e time j = switch_in i r h (suc k) d is w _ time (leaves_not k t) e j

      pub it_enters : (k : ℕ) → (entry_of_slot i.all.schedule k).domain ≡ d → InTime i h k w
          → Joined i d came k (part_of h d w)
          → Within i.all.hardware (own_of i d) (part_of h d (switch_on (guarded i) i h k w))
          (alone_enter i.all (own_of i d) k (comes k) (out_at k))
      unfolding alone_mail switched_part
      it_enters zero e time j = switch_in i r h 0 d is w _ time (λ q. absurd (cc q)) e j
      it_enters (suc k) e time j = enter_if k _ refl e time j

    seen_if : (k : ℕ) (b : Bool) (x : Local) → JoinedIf i d came k b x
        → (x.dom ≡ (alone_if i.all (own_of i d) k (words_at k) (out_at k) b).dom)
        × SameFrames i.all.hardware (own_of i d) x.storage.mem (alone_if i.all (own_of i d) k (words_at k) (out_at k) b).storage.mem
    unfolding alone_if alone_out
    seen_if k true x j = (j.dom, j.part.frames)
    seen_if k false x j = (j.dom, j.part.frames)

    -- its state and its frames are those of the domain alone
    pub seen : (k : ℕ) (x : Local) → Joined i d came k x
        → (x.dom ≡ (out_at k).dom) × SameFrames i.all.hardware (own_of i d) x.storage.mem (out_at k).storage.mem
    unfolding alone_mail
    seen zero x j = (j.dom, j.part.frames)
    seen (suc k) x j = seen_if k _ x j
