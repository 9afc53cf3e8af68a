-- Who can make a difference to what is seen of a domain: in two images that agree on all from whom a chain of boxes leads to it,
-- the same comes to it, by induction on slots.
use Rattle.std.proofs.Common.{◌≡◌, ◌++◌, ◌-◌, ℕ, zero, suc, false, List, [], ◌∷◌, Option, Some, ap, ap₂, sym, ◌∙◌, refl, subst, arith}
use Rattle.std.specs.Prelude.{slice_get}
use Rattle.std.proofs.lemmas.Option.{same_Some}
use Rattle.sched_table.specs.Schedule.{entry_of_slot, slot_end, outgoing, harts_in}
use Rattle.image_check.specs.Public.{Public}
use Rattle.image_check.specs.Own.{Own}
use Rattle.image_check.specs.Image.{Image, own_of}
use Rattle.image_check.specs.Laws.{Runnable}
use Rattle.mail_slots.specs.Boxes.{Boxes}
use Rattle.mail_slots.specs.Boxes as mail
use Rattle.mail_slots.specs.Sides.{Arrival, own_side, arrival}
use Rattle.mail_slots.specs.Laws.{pairs_of}
use Rattle.world_view.specs.Mail.{arrivals_in, left_boxes, switched_boxes, came_to}
use Rattle.world_view.specs.Machine.{part_of, with_part, with_hart, with_end, guarded, switch_on, switch_by, switch, own_slot, run_slot_by, whole_by, whole, opening, arrivals}
use Rattle.world_view.specs.View.{view_whole, view_mailed}
use Rattle.world_view.specs.Relations.{IsDomain, HasFacts}
use Rattle.world_view.specs.Harts.{IsOnOneHart}
use Rattle.world_view.specs.MailLaws.{LeadsBy, Leads, SendersLaw, OneWayLaw}
use Rattle.world_view.proofs.opening.Separate.{Separated, separated}
use Rattle.world_view.proofs.opening.OpeningFacts.{kernel_of}
use Rattle.world_view.proofs.steps.StepLaws.{keeps_itself, steps_keep}
use Rattle.world_view.proofs.mail.Alike.{HasBox, left_alike, switched_alike, came_alike, waits_still}
use Rattle.world_view.proofs.mail.Reached.{alone_before, stands}

-- ---- one slot

module _ (i : Image) (k : ℕ) where
  abbrev pub its : ℕ
  its = (entry_of_slot i.all.schedule k).domain

  abbrev pub out : Option ℕ
  out = outgoing i.all.schedule k

  abbrev pub boxes : Boxes
  boxes = (whole i k).storage.boxes

  -- who leaves is a domain
  out_named : Separated i → (f : ℕ) → outgoing i.all.schedule k ≡ Some f → IsDomain i f
  out_named r f is = named_if k is
    where
      named_if : (n : ℕ) → outgoing i.all.schedule n ≡ Some f → IsDomain i f
      named_if zero is = absurd (cc is)
      named_if (suc n) is = subst (IsDomain i) (same_Some _ _ is) (r.named n)

  pub slot_came : (whole i (suc k)).came ≡ (whole i k).came ++ came_to out its boxes ∷ []
  unfolding whole_by run_slot_by own_slot with_end with_part with_hart switch_by switch_on guarded
  slot_came = refl

  -- in the slot what waits for a domain still waits
  slot_waits : (r : Runnable i) → IsOnOneHart i → (e : ℕ)
      → arrival e (whole i (suc k)).storage.boxes ≡ arrival e (switched_boxes out its boxes)
  unfolding whole_by run_slot_by own_slot with_end with_part with_hart switch_by switch_on guarded
  slot_waits r one e =
      let all = separated i r in
      let p = i.all.hardware in
      let o = own_of i its in
      let named = all.named k in
      let begun = part_of 0 its (switch i k (whole i k)) in
      let end = slot_end i.all.schedule k in
      let facts : HasFacts p o begun.dom begun.storage = ((stands i r one k).each its named).facts in
      let kept = steps_keep p o (kernel_of i all its named) false end (end - begun.clock) begun.storage begun (keeps_itself p o begun facts) in
      waits_still e o.number (whole i (suc k)).storage.boxes (switched_boxes out its boxes) kept.others

module _ (i j : Image) (d : ℕ) (r : Runnable i) (q : Runnable j) (one : IsOnOneHart i) (all : i.all ≡ j.all)
    (own : (e : ℕ) → Leads i d e → own_of i e ≡ own_of j e) where
  one' : IsOnOneHart j
  one' = ap (λ (p : Public). harts_in p.schedule) (sym all) ∙ one

  domain' : (e : ℕ) → IsDomain i e → IsDomain j e
  domain' e id = omega (arith, id, r.counted, q.counted, ap (λ (p : Public). p.domains) all)

  pairs_alike : (k : ℕ) → pairs_of (boxes i k) ≡ pairs_of (boxes j k)
  pairs_alike k = (stands i r one k).pairs ∙ ap (λ (p : Public). p.mail) all ∙ sym (stands j q one' k).pairs

  -- who has a box to one from whom a chain leads to d, is one too
  leads_more : (k e f : ℕ) → Leads i d e → HasBox f e (boxes i k) → Leads i d f
  unfolding LeadsBy
  leads_more k e f leads has =
      (suc leads.0, (has.0, e, ap (λ (mail : List (ℕ × ℕ)). slice_get mail has.0) (sym (stands i r one k).pairs) ∙ has.1, leads.1))

  -- the same came to all of them, and the same waits for them
  record AreSame (k : ℕ) : Type 0 where
    came : (e : ℕ) → Leads i d e → arrivals e (whole i k) ≡ arrivals e (whole j k)
    waits : (e : ℕ) → Leads i d e → arrival e (boxes i k) ≡ arrival e (boxes j k)

  -- so each of them has put in the same
  side_same : (k f : ℕ) → AreSame k → Leads i d f → IsDomain i f → own_side f (boxes i k) ≡ own_side f (boxes j k)
  side_same k f same leads id =
      let id' = domain' f id in
      let side : Public → Own → List Arrival → Boxes =
      λ p o came. own_side o.number (alone_before p o f came k).storage.boxes in
      ap (λ (n : ℕ). own_side n (boxes i k)) (sym (r.numbered f id))
      ∙ ((stands i r one k).each f id).side
      ∙ ap₂ (λ (p : Public) (o : Own). side p o (arrivals f (whole i k))) all (own f leads)
      ∙ ap (side j.all (own_of j f)) (same.came f leads)
      ∙ sym ((stands j q one' k).each f id').side
      ∙ ap (λ (n : ℕ). own_side n (boxes j k)) (q.numbered f id')

  module _ (k : ℕ) (same : AreSame k) (e : ℕ) (leads : Leads i d e) where
    left_same : arrival e (left_boxes (out i k) (boxes i k)) ≡ arrival e (left_boxes (out i k) (boxes j k))
    left_same =
        left_alike e (out i k) (boxes i k) (boxes j k) (pairs_alike k) (same.waits e leads)
        (λ f is has. side_same k f same (leads_more k e f leads has) (out_named i k (separated i r) f is))

    came_next : arrivals e (whole i (suc k)) ≡ arrivals e (whole j (suc k))
    came_next =
        ap (arrivals_in e) (slot_came i k)
        ∙ came_alike e (out i k) (its i k) (whole i k).came (whole j k).came (boxes i k) (boxes j k) (same.came e leads) left_same
        ∙ ap (λ (p : Public). arrivals_in e ((whole j k).came
        ++ came_to (outgoing p.schedule k) (entry_of_slot p.schedule k).domain (boxes j k) ∷ [])) all
        ∙ ap (arrivals_in e) (sym (slot_came j k))

    waits_next : arrival e (boxes i (suc k)) ≡ arrival e (boxes j (suc k))
    waits_next =
        slot_waits i k r one e
        ∙ switched_alike e (out i k) (its i k) (boxes i k) (boxes j k) (pairs_alike k) left_same
        ∙ ap (λ (p : Public). arrival e (switched_boxes (outgoing p.schedule k) (entry_of_slot p.schedule k).domain (boxes j k))) all
        ∙ sym (slot_waits j k q one' e)

  first_same : AreSame 0
  unfolding whole_by opening with_hart
  first_same = record {
    came = λ e leads. refl;
    waits = λ e leads. ap (λ (p : Public). arrival e (mail.opening p.mail)) all;
  }

  are_same : (k : ℕ) → AreSame k
  are_same zero = first_same
  are_same (suc k) = let before = are_same k in record { came = came_next k before; waits = waits_next k before }

  pub seen_same : (n : ℕ) → IsDomain i d → view_whole i d n ≡ view_whole j d n
  unfolding view_whole LeadsBy
  seen_same n id =
      let leads : Leads i d d = (0, refl) in
      ((stands i r one n).each d id).seen
      ∙ ap₂ (λ (p : Public) (o : Own). view_mailed p o d (arrivals d (whole i n)) n) all (own d leads)
      ∙ ap (λ (came : List Arrival). view_mailed j.all (own_of j d) d came n) ((are_same n).came d leads)
      ∙ sym ((stands j q one' n).each d (domain' d id)).seen

pub senders_law : SendersLaw
senders_law i j d n r q one id all own = seen_same i j d r q one all own n id

pub one_way_law : OneWayLaw
one_way_law i j d other n r q one id all own apart =
    senders_law i j d n r q one id all (λ e leads. own e (λ same. apart (subst (Leads i d) same leads)))
