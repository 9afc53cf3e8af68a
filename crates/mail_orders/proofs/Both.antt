-- A switch of one hart in two runs, between slots of the same number: the same goes off, waits and comes.
use Rattle.std.proofs.Common.{◌≡◌, ◌++◌, ℕ, suc, ◌<◌, [], ◌∷◌, Option, Some, ap, ap₂, sym, ◌∙◌, subst, arith}
use Rattle.std.specs.Prelude.{slice_get}
use Rattle.sched_table.specs.Schedule.{entry_of_slot, on_hart, outgoing, harts_in}
use Rattle.image_check.specs.Public.{Public}
use Rattle.image_check.specs.Image.{Image, own_of}
use Rattle.image_check.specs.Laws.{Runnable}
use Rattle.mail_slots.specs.Boxes.{Mailbox, Boxes}
use Rattle.mail_slots.specs.Sides.{arrival}
use Rattle.mail_slots.specs.Laws.{pair_of, pairs_of}
use Rattle.world_view.specs.Mail.{arrivals_in, left_boxes, switched_boxes, came_to}
use Rattle.world_view.specs.Machine.{arrivals}
use Rattle.world_view.specs.Relations.{IsDomain}
use Rattle.world_view.specs.Harts.{Harts, IsOutside, hart_of_domain, domain_on, slots_of, next}
use Rattle.world_view.specs.Laws.{leaves_on}
use Rattle.world_view.specs.MailLaws.{LeadsBy, Leads}
use Rattle.world_view.proofs.harts.Runs.{Running}
use Rattle.world_view.proofs.mail.Moves.{box_switched, switched_at, changed_from}
use Rattle.world_view.proofs.mail.Alike.{came_alike}
use Rattle.world_view.proofs.mail.BoxEvents.{switched_are, switched_came}
use Rattle.mail_orders.proofs.Boxes.{switched_sent, left_alike}
use Rattle.mail_orders.proofs.Sides.{out_same}
use Rattle.mail_orders.proofs.Waits.{IsLeaver, leaver, mail_of, ends_of}

-- the same waits in a box
abbrev pub SameSent : ℕ → Harts → Harts → Type 0
SameSent a s t = (x y : Mailbox) → slice_get s.world.storage.boxes a ≡ Some x → slice_get t.world.storage.boxes a ≡ Some y
    → x.sent ≡ y.sent

-- who has a box to one from whom a chain leads to d, is one too
pub leads_more : (i : Image) (d a e f : ℕ) → slice_get i.all.mail a ≡ Some (e, f) → Leads i d f → Leads i d e
unfolding LeadsBy
leads_more i d a e f mail leads = (suc leads.0, (a, f, mail, leads.1))

module _ (i j : Image) (d : ℕ) (r : Runnable i) (q : Runnable j) (all : i.all ≡ j.all)
    (own : (e : ℕ) → Leads i d e → own_of i e ≡ own_of j e) (x : ℕ) (is : x < harts_in i.all.schedule)
    (s t : Harts) (was : Running i r s) (was' : Running j q t) (outside : IsOutside x s) (outside' : IsOutside x t)
    (slots : slots_of x s ≡ slots_of x t)
    (came : (e : ℕ) → Leads i d e → hart_of_domain i e ≡ x → arrivals e s.world ≡ arrivals e t.world) where
  abbrev out : Option ℕ
  out = leaves_on i x s

  abbrev into : ℕ
  into = domain_on i x s

  -- the same leave and enter
  out_is : out ≡ leaves_on j x t
  out_is = ap₂ (λ (p : Public) (k : ℕ). outgoing (on_hart p.schedule x) k) all slots

  into_is : into ≡ domain_on j x t
  into_is = ap₂ (λ (p : Public) (k : ℕ). (entry_of_slot (on_hart p.schedule x) k).domain) all slots

  mail_is : (a e f : ℕ) → slice_get i.all.mail a ≡ Some (e, f) → slice_get j.all.mail a ≡ Some (e, f)
  mail_is a e f mail = ap (λ (p : Public). slice_get p.mail a) (sym all) ∙ mail

  domain' : (e : ℕ) → IsDomain i e → IsDomain j e
  domain' e id = omega (arith, id, r.counted, q.counted, ap (λ (p : Public). p.domains) all)

  pairs_are : pairs_of s.world.storage.boxes ≡ pairs_of t.world.storage.boxes
  pairs_are = was.pairs ∙ ap (λ (p : Public). p.mail) all ∙ sym was'.pairs

  module _ (a e f : ℕ) (mail : slice_get i.all.mail a ≡ Some (e, f)) (leads : Leads i d f) (b c : Mailbox)
      (at : slice_get s.world.storage.boxes a ≡ Some b) (at' : slice_get t.world.storage.boxes a ≡ Some c) where
    ends_b : pair_of b ≡ (e, f)
    ends_b = ends_of i r s was a e f b mail at

    ends_c : pair_of c ≡ (e, f)
    ends_c = ends_of j q t was' a e f c (mail_is a e f mail) at'

    -- who leaves has put in the same
    put_by : IsLeaver i x (slots_of x s) e → b.out ≡ c.out
    put_by who =
        let more = leads_more i d a e f mail leads in
        let here : (P : ℕ → Type 0) → P x → P (hart_of_domain i e) = λ P p. subst P (sym who.hart) p in
        out_same i j r q all e who.domain (domain' e who.domain) (own e more) s t was was'
        (here (λ (h : ℕ). IsOutside h s) outside) (here (λ (h : ℕ). IsOutside h t) outside')
        (here (λ (h : ℕ). slots_of h s ≡ slots_of h t) slots) (came e more who.hart) a b c at at'
        (ap (λ (p : ℕ × ℕ). p.0) ends_b) (ap (λ (p : ℕ × ℕ). p.0) ends_c)

    put_same : out ≡ Some b.from → b.out ≡ c.out
    put_same leaves = put_by (leaver i r x is (slots_of x s) e (leaves ∙ ap (λ (p : ℕ × ℕ). Some p.0) ends_b))

    switched_box : b.sent ≡ c.sent → (box_switched out into b).sent ≡ (box_switched out into c).sent
    switched_box sent = switched_sent out b c (ends_b ∙ sym ends_c) put_same sent into

  -- the same waits after it
  pub sent_next : (a e f : ℕ) → slice_get i.all.mail a ≡ Some (e, f) → Leads i d f → SameSent a s t
      → SameSent a (next i x s) (next j x t)
  sent_next a e f mail leads before later later' at at' =
      let from =
      changed_from (box_switched out into) (slice_get s.world.storage.boxes a) later
      (sym (switched_at out into s.world.storage.boxes a)
      ∙ ap (λ (bs : Boxes). slice_get bs a) (sym (switched_are i x s outside)) ∙ at) in
      let from' =
      changed_from (box_switched out into) (slice_get t.world.storage.boxes a) later'
      (sym (switched_at out into t.world.storage.boxes a)
      ∙ ap (λ (bs : Boxes). slice_get bs a)
      (sym (switched_are j x t outside'
      ∙ ap₂ (λ (o : Option ℕ) (n : ℕ). switched_boxes o n t.world.storage.boxes) (sym out_is) (sym into_is)))
      ∙ at') in
      ap (λ (b : Mailbox). b.sent) (sym from.2)
      ∙ switched_box a e f mail leads from.0 from'.0 from.1 from'.1 (before from.0 from'.0 from.1 from'.1)
      ∙ ap (λ (b : Mailbox). b.sent) from'.2

  -- and the same came
  pub came_next : (f : ℕ) → Leads i d f → arrivals f s.world ≡ arrivals f t.world
      → ((a e : ℕ) → slice_get i.all.mail a ≡ Some (e, f) → SameSent a s t)
      → arrivals f (next i x s).world ≡ arrivals f (next j x t).world
  came_next f leads before sent =
      let boxes = s.world.storage.boxes in
      let boxes' = t.world.storage.boxes in
      let mail : (a : ℕ) (b : Mailbox) → slice_get boxes a ≡ Some b → b.to ≡ f → slice_get i.all.mail a ≡ Some (b.from, f) =
      λ a b at to. mail_of i r s was a b at ∙ ap (λ (n : ℕ). Some (b.from, n)) to in
      let alike : arrival f (left_boxes out boxes) ≡ arrival f (left_boxes out boxes') =
      left_alike f out boxes boxes' pairs_are
      (λ a b c at at'. record {
        put = λ to leaves. put_same a b.from f (mail a b at to) leads b c at at' leaves;
        sent = λ to. sent a b.from (mail a b at to) b c at at';
      }) in
      ap (arrivals_in f) (switched_came i x s outside)
      ∙ came_alike f out into s.world.came t.world.came boxes boxes' before alike
      ∙ ap₂ (λ (o : Option ℕ) (n : ℕ). arrivals_in f (t.world.came ++ came_to o n boxes' ∷ [])) out_is into_is
      ∙ ap (arrivals_in f) (sym (switched_came j x t outside'))
