-- A switch, from two worlds that are the same for its hart.
use Rattle.std.proofs.Common.{◌≡◌, ◌≢◌, ◌⊎◌, inl, inr, ℕ, zero, suc, ◌<◌, List, Some, ap, sym, ◌∙◌, refl, subst}
use Rattle.std.proofs.lemmas.Bool.{cases_eq}
use Rattle.std.proofs.lemmas.Option.{same_Some}
use Rattle.sched_table.specs.declared.schedule.Entry.{Entry}
use Rattle.sched_table.specs.Schedule.{entry_of_slot, outgoing, harts_in}
use Rattle.hardware_check.specs.Hardware.{Hardware}
use Rattle.image_check.specs.Own.{Own}
use Rattle.image_check.specs.Image.{Image, own_of}
use Rattle.image_check.specs.Laws.{Runnable}
use Rattle.mail_slots.specs.Sides.{Arrival, own_side, arrival}
use Rattle.world_view.specs.Mail.{left_boxes}
use Rattle.world_view.specs.Machine.{Hart, Local, World, hart_of, part_of, with_mail, switch_on, alone_enter, alone_out}
use Rattle.world_view.specs.Relations.{IsDomain, Within, Apiece, InTime}
use Rattle.world_view.specs.Harts.{image_on, domain_in, hart_of_domain}
use Rattle.world_view.proofs.opening.Separate.{Separated}
use Rattle.world_view.proofs.runs.SwitchParts.{hart-with}
use Rattle.world_view.proofs.runs.SwitchLaws.{switch_past, switch_in, switch_out, switch_both}
use Rattle.world_view.proofs.harts.OnHart.{separated_on, hart_is}
use Rattle.world_view.proofs.harts.Events.{switched}
use Rattle.world_view.proofs.harts.Meets.{within_trans, apiece_trans}
use Rattle.hart_machine.specs.HartMachine.{SameParts, waiting}
use Rattle.hart_machine.proofs.Boxes.{SameLeaving, comes_alike}
use Rattle.hart_machine.proofs.Equal.{within_itself, within_back, apiece_itself, apiece_back, apiece_of, same_hart_by, near}

-- who leaves is this domain, or it isn't
pub leaves_or : (es : List Entry) (k d : ℕ) → (outgoing es k ≡ Some d) ⊎ (outgoing es k ≢ Some d)
leaves_or es zero d = inr (λ q. absurd (cc q))
leaves_or es (suc k) d = elim (cases_eq (entry_of_slot es k).domain d) [
  | inl same ↦ inl (ap (λ (x : ℕ). Some x) same)
  | inr other ↦ inr (λ q. other (same_Some _ _ q))
]

-- who leaves is of the hart, and so its side of the boxes is the same
pub leaving_same : (i : Image) (r : Runnable i) (h : ℕ) (is : h < harts_in i.all.schedule) (k : ℕ) (w v : World)
    → SameParts i h w v
    → SameLeaving (outgoing (image_on i h).all.schedule k) w.storage.boxes v.storage.boxes
leaving_same i r h is zero w v same = tt
leaving_same i r h is (suc k) w v same =
    let d = domain_in i h k in
    let on = separated_on i r h is in
    subst (λ (n : ℕ). own_side n w.storage.boxes ≡ own_side n v.storage.boxes) (on.numbered d (on.named k))
    (same.domains d (on.named k) (hart_is i r h is k)).part.side

module _ (i : Image) (r : Runnable i) (h : ℕ) (is : h < harts_in i.all.schedule) (k : ℕ) where
  abbrev p : Hardware
  p = i.all.hardware

  abbrev on : Image
  on = image_on i h

  r_on : Separated on
  r_on = separated_on i r h is

  -- who enters
  abbrev its : ℕ
  its = domain_in i h k

  module _ (w v : World) (time : InTime on h k w) (time' : InTime on h k v) (same : SameParts i h w v)
      (waits : waiting w.storage.boxes ≡ waiting v.storage.boxes) where
    abbrev w' : World
    w' = switched i r h is k w

    abbrev v' : World
    v' = switched i r h is k v

    -- the same comes to whom it comes
    comes : (d : ℕ) → arrival d (left_boxes (outgoing on.all.schedule k) w.storage.boxes)
        ≡ arrival d (left_boxes (outgoing on.all.schedule k) v.storage.boxes)
    comes =
        comes_alike (outgoing on.all.schedule k) w.storage.boxes v.storage.boxes waits
        (leaving_same i r h is k w v same)

    module _ (d : ℕ) (id : IsDomain i d) (home : hart_of_domain i d ≡ h) where
      abbrev o : Own
      o = own_of i d

      abbrev before : Local
      before = part_of h d v

      itself : Within p o before before
      itself = within_itself p o before

      ahead : Within p o (part_of h d w) before
      ahead = near i h w v same d id home

      -- with the words that come to it then
      abbrev words : World → Arrival
      words u = arrival d (left_boxes (outgoing on.all.schedule k) u.storage.boxes)

      -- both are as the domain alone that enters so
      entered_as : (a : Local) → Within p o (part_of h d w') (alone_enter on.all o k (words w) a)
          → Within p o (part_of h d v') (alone_enter on.all o k (words v) a)
          → Within p o (part_of h d w') (part_of h d v')
      entered_as a one other =
          within_trans p o (part_of h d w') (alone_enter on.all o k (words v) a) (part_of h d v')
          (subst (λ (ws : Arrival). Within p o (part_of h d w') (alone_enter on.all o k ws a)) (comes d) one)
          (within_back p o (part_of h d v') (alone_enter on.all o k (words v) a) other)

      enters_if : its ≡ d → (outgoing on.all.schedule k ≡ Some d) ⊎ (outgoing on.all.schedule k ≢ Some d)
          → Within p o (part_of h d w') (part_of h d v')
      enters_if e (inl out) =
          entered_as (alone_out p o before) (switch_both on r_on h k d id w before time out e ahead)
          (switch_both on r_on h k d id v before time' out e itself)
      enters_if e (inr not) =
          entered_as before (switch_in on r_on h k d id w before time not e (apiece_of p o (part_of h d w) before ahead))
          (switch_in on r_on h k d id v before time' not e (apiece_itself p o before))

      stays_if : its ≢ d → (outgoing on.all.schedule k ≡ Some d) ⊎ (outgoing on.all.schedule k ≢ Some d)
          → Apiece p o (part_of h d w') (part_of h d v')
      stays_if e (inl out) =
          apiece_trans p o (part_of h d w') _ (part_of h d v') (switch_out on r_on h k d id w before time out e ahead)
          (apiece_back p o (part_of h d v') _ (switch_out on r_on h k d id v before time' out e itself))
      stays_if e (inr not) =
          apiece_trans p o (part_of h d w') _ (part_of h d v')
          (switch_past on r_on h k d id w before time not e (apiece_of p o (part_of h d w) before ahead))
          (apiece_back p o (part_of h d v') _ (switch_past on r_on h k d id v before time' not e (apiece_itself p o before)))

      domain_if : (its ≡ d) ⊎ (its ≢ d) → Apiece p o (part_of h d w') (part_of h d v')
      domain_if (inl e) = apiece_of p o (part_of h d w') (part_of h d v') (enters_if e (leaves_or on.all.schedule k d))
      domain_if (inr e) = stays_if e (leaves_or on.all.schedule k d)

    -- the domain that enters
    entered : Within p (own_of i its) (part_of h its w') (part_of h its v')
    entered = enters_if its (r_on.named k) (hart_is i r h is k) refl (leaves_or on.all.schedule k its)

    ended_left : (u : World) → (hart_of h (switched i r h is k u)).ended ≡ (hart_of h u).ended
    unfolding switch_on
    ended_left u = ap (λ (x : Hart). x.ended) (hart-with h (with_mail (outgoing on.all.schedule k) its u) _ _)

    pub switched_same : SameParts i h w' v'
    switched_same = record {
      hart = same_hart_by (hart_of h w') (hart_of h v') entered.core entered.clock
          (ended_left w ∙ ap (λ (x : Hart). x.ended) same.hart ∙ sym (ended_left v));
      domains = λ d id home. domain_if d id home (cases_eq its d);
    }
