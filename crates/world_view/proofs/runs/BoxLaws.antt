-- What a switch does to a domain's side of the boxes: it goes by who leaves, by who enters, and by what arrives.
use Rattle.std.proofs.Common.{◌≡◌, ◌≢◌, ℕ, Option, Some, None, ap, sym, ◌∙◌, refl, subst}
use Rattle.mail_slots.specs.Boxes.{Boxes, ends, begins}
use Rattle.mail_slots.specs.Sides.{own_side, arrival, bring}
use Rattle.mail_slots.proofs.Sides.{ends_law, bring_law, others_end_law, others_begin_law}
use Rattle.world_view.specs.Mail.{left_boxes}

-- of a domain by its own number n, which is d
module _ (d n : ℕ) (number : n ≡ d) where
  -- another leaves, or nobody
  pub others_leave_boxes : (out : Option ℕ) (boxes : Boxes) → out ≢ Some d
      → own_side n (left_boxes out boxes) ≡ own_side n boxes
  others_leave_boxes None boxes other = refl
  others_leave_boxes (Some e) boxes other =
      others_end_law n e boxes (λ same. other (ap Some (sym same ∙ number)))

  -- it leaves itself
  pub own_leave_boxes : (out : Option ℕ) (boxes others : Boxes) → out ≡ Some d
      → own_side n boxes ≡ own_side n others
      → own_side n (left_boxes out boxes) ≡ own_side n (ends n others)
  own_leave_boxes out boxes others is same =
      subst (λ (x : Option ℕ). own_side n (left_boxes x boxes) ≡ own_side n (ends n others))
      (ap Some number ∙ sym is) (ends_law n boxes others same)

  -- another enters
  pub others_enter_boxes : (e : ℕ) (boxes : Boxes) → e ≢ d → own_side n (begins e boxes) ≡ own_side n boxes
  others_enter_boxes e boxes other = others_begin_law n e boxes (λ same. other (sym same ∙ number))

  -- it enters itself: where its side was the same, what arrives makes it so
  pub own_enters_boxes : (e : ℕ) (boxes others : Boxes) → e ≡ d → own_side n boxes ≡ own_side n others
      → own_side n (begins e boxes) ≡ own_side n (bring (arrival d boxes) others)
  own_enters_boxes e boxes others is same =
      subst (λ (x : ℕ). own_side n (begins x boxes) ≡ own_side n (bring (arrival d boxes) others)) (sym is)
      (subst (λ (x : ℕ). own_side n (begins x boxes) ≡ own_side n (bring (arrival x boxes) others)) number
      (bring_law n boxes others same))
