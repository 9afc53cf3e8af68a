-- What is seen of a domain, by what came to it: in runs in which harts take the same turns, and so by the least clock where the
-- ends of slots lie apart.
use Rattle.std.proofs.Common.{◌≡◌, ◌≢◌, ℕ, zero, suc, ◌<◌, List, Some, inl, inr, ap, ap₂, sym, ◌∙◌, refl, subst, subst₂, arith}
use Rattle.std.specs.Prelude.{slice_get}
use Rattle.sched_table.specs.Schedule.{hart_for, harts_in}
use Rattle.image_check.specs.Public.{Public}
use Rattle.image_check.specs.Own.{Own}
use Rattle.image_check.specs.Image.{Image}
use Rattle.image_check.specs.Laws.{Runnable}
use Rattle.mail_slots.specs.Sides.{Arrival}
use Rattle.world_view.specs.Machine.{arrivals}
use Rattle.world_view.specs.View.{View, view_mailed}
use Rattle.world_view.specs.Relations.{IsDomain}
use Rattle.world_view.specs.Harts.{IsOutside, public_on, hart_of_domain, slots_of, switches_of, harts, view_on, view_mailed_on}
use Rattle.world_view.specs.HartLaws.{AreHartsOf, IsBetween}
use Rattle.world_view.specs.MailLaws.{LeadsBy, Leads}
use Rattle.world_view.proofs.harts.Runs.{home}
use Rattle.world_view.proofs.harts.Isolation.{hart_mail}
use Rattle.world_view.proofs.harts.Clocks.{hart_begun}
use Rattle.world_view.proofs.mail.BoxEvents.{in_or_out}
use Rattle.hart_orders.specs.declared.choice.Choice.TheVariants.{LeastClock}
use Rattle.hart_orders.specs.Order.{order_of, ran}
use Rattle.hart_orders.proofs.RunThrough.{harts_law, through}
use Rattle.mail_orders.specs.Apart.{AreApart, ChainApart}
use Rattle.mail_orders.specs.Turns.{ChainTakesTurns}
use Rattle.mail_orders.specs.Laws.{SameTurnsLaw, OwnHartLaw, ApartLaw, NothingBackLaw}
use Rattle.mail_orders.proofs.Counts.{count_outside}
use Rattle.mail_orders.proofs.Turns.{none_passes}
use Rattle.mail_orders.proofs.Both.{leads_more}
use Rattle.mail_orders.proofs.Chain.{same_came}

outside : (i : Image) (h : ℕ) (order : List ℕ) → Runnable i → AreHartsOf i order → h < harts_in i.all.schedule
    → IsBetween i h (harts i order) → IsOutside h (harts i order)
outside i h order r below is early = elim (in_or_out i h (harts i order)) [
  | inl within ↦ let begun = hart_begun i h order r below is within in absurd (omega (arith, begun, early))
  | inr its ↦ its
]

pub same_turns : SameTurnsLaw
unfolding view_mailed_on LeadsBy
same_turns i j d one two r q id all own below below' turns slots early late =
    let h = hart_of_domain i d in
    let s = harts i one in
    let t = harts j two in
    let leads : Leads i d d = (0, refl) in
    let at : h ≡ hart_of_domain j d = ap (λ (p : Public). hart_for p.schedule d) all in
    let id' : IsDomain j d = omega (arith, id, r.counted, q.counted, ap (λ (p : Public). p.domains) all) in
    let is = home i r d in
    let is' = subst (λ (p : Public). h < harts_in p.schedule) all is in
    let count : switches_of h s ≡ switches_of h t =
    count_outside h s (outside i h one r below is early) ∙ slots
    ∙ sym (count_outside h t (outside j h two q below' is' late)) in
    let came = same_came i j d r q all own one two below below' turns d leads count in
    let seen : Public → Own → View =
    λ p o. view_mailed (public_on p (hart_for p.schedule d)) o d (arrivals d s.world) (slots_of h s) in
    hart_mail i d one r id below early
    ∙ ap₂ seen all (own d leads)
    ∙ ap₂ (λ (xs : List Arrival) (k : ℕ). view_mailed_on j d xs k) came (slots ∙ ap (λ (g : ℕ). slots_of g t) at)
    ∙ sym (hart_mail j d two q id' below' (subst (λ (g : ℕ). IsBetween j g t) at late))

pub own_hart : OwnHartLaw
own_hart i j d one two r q id all own below below' here slots early late =
    same_turns i j d one two r q id all own below below'
    (λ a e f mail leads apart before later past rest split split'.
    absurd (apart (here e (leads_more i d a e f mail leads) ∙ sym (here f leads)))) slots early late

-- ---- by the least clock

module _ (i j : Image) (d n : ℕ) (r : Runnable i) (q : Runnable j) (all : i.all ≡ j.all) where
  leads_by : (k e : ℕ) → LeadsBy i d k e → LeadsBy j d k e
  unfolding LeadsBy
  leads_by zero e leads = leads
  leads_by (suc k) e leads =
      (leads.0, leads.1, ap (λ (p : Public). slice_get p.mail leads.0) (sym all) ∙ leads.2, leads_by k leads.1 leads.3)

  apart_too : ChainApart j d n → (a e f : ℕ) → slice_get i.all.mail a ≡ Some (e, f) → Leads i d f
      → hart_of_domain i e ≢ hart_of_domain i f → AreApart j n (hart_of_domain i e) (hart_of_domain i f)
  apart_too chain a e f mail leads apart =
      let at : (b : ℕ) → hart_of_domain j b ≡ hart_of_domain i b = λ b. ap (λ (p : Public). hart_for p.schedule b) (sym all) in
      subst₂ (AreApart j n) (at e) (at f)
      (chain a e f (ap (λ (p : Public). slice_get p.mail a) (sym all) ∙ mail) (leads.0, leads_by leads.0 f leads.1)
      (λ same. apart (sym (at e) ∙ same ∙ at f)))

  take_turns : ChainApart i d n → ChainApart j d n
      → ChainTakesTurns i j d (order_of i LeastClock n) (order_of j LeastClock n)
  take_turns chain chain' a e f mail leads apart before later past rest split split' =
      let g = hart_of_domain i e in
      let h = hart_of_domain i f in
      let over : (b : ℕ) → hart_of_domain i b < harts_in j.all.schedule =
      λ b. subst (λ (p : Public). hart_of_domain i b < harts_in p.schedule) all (home i r b) in
      let here = chain a e f mail leads apart in
      let there = apart_too chain' a e f mail leads apart in
      record {
        behind = none_passes i j r q n all g h (home i r e) (home i r f) here there before later past rest split split';
        ahead = λ passes.
            none_passes j i q r n (sym all) g h (over e) (over f) there here past rest before later split' split
            (record { more = passes.fewer; fewer = passes.more });
      }

pub apart_law : ApartLaw
unfolding ran view_on
apart_law i j d n r q id all own chain chain' =
    let h = hart_of_domain i d in
    let at : h ≡ hart_of_domain j d = ap (λ (p : Public). hart_for p.schedule d) all in
    let done = through i LeastClock n h r (home i r d) in
    let done' = through j LeastClock n h q (subst (λ (p : Public). h < harts_in p.schedule) all (home i r d)) in
    same_turns i j d (order_of i LeastClock n) (order_of j LeastClock n) r q id all own (harts_law i LeastClock n)
    (harts_law j LeastClock n) (take_turns i j d n r q all chain chain') (done.0 ∙ sym done'.0) done.1 done'.1

pub nothing_back : NothingBackLaw
nothing_back i j d other n r q id all own not chain chain' =
    apart_law i j d n r q id all (λ e leads. own e (λ same. not (subst (Leads i d) same leads))) chain chain'
