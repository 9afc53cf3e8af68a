-- After every order of the harts' events, a domain's are those of the domain alone.
use Rattle.std.proofs.Common.{◌≡◌, ◌≢◌, ℕ, ◌<◌, Bool, true, false, List, [], ap, ap₂, sym, ◌∙◌, refl, subst, arith}
use Rattle.std.specs.List.{All}
use Rattle.std.proofs.lemmas.List.Elements.{All-nil}
use Rattle.sched_table.specs.Schedule.{harts_in, hart_for}
use Rattle.image_check.specs.Public.{Public}
use Rattle.image_check.specs.Own.{Own}
use Rattle.image_check.specs.Image.{Image, own_of}
use Rattle.image_check.specs.Laws.{Runnable}
use Rattle.world_view.specs.Machine.{part_of, arrivals}
use Rattle.world_view.specs.Relations.{IsDomain, HasNoMail}
use Rattle.world_view.specs.Harts.{Progress, public_on, hart_of_domain, progress_of, slots_of, harts, after_by, harts_by}
use Rattle.world_view.specs.HartLaws.{AreHartsOf, IsBetween}
use Rattle.world_view.proofs.harts.Runs.{home}
use Rattle.world_view.proofs.harts.Clocks.{hart_begun}
use Rattle.world_view.proofs.harts.Isolation.{at_first, running}
use Rattle.domain_events.specs.Events.{slots_mailed, logged}
use Rattle.domain_events.specs.Laws.{EventsLaw, AloneEventsLaw, TwoRunEventsLaw}
use Rattle.domain_events.proofs.Alone.{slots_quiet}
use Rattle.domain_events.proofs.Logs.{LogAt, Logs, logs_after}

module _ (i : Image) (r : Runnable i) (d : ℕ) (id : IsDomain i d) where
  abbrev h : ℕ
  h = hart_of_domain i d

  -- before the first event nothing is logged
  first_logs : Logs i r d id (harts i []) []
  unfolding slots_mailed
  first_logs =
      let s = harts i [] in
      subst (λ (x : Progress). LogAt i r d id (arrivals d s.world) x.inside x.slots (part_of h d s.world) []) (sym (at_first i r h)) refl

  pub logs : (order : List ℕ) → AreHartsOf i order → Logs i r d id (harts i order) (logged i d order)
  unfolding harts_by after_by logged
  logs order below = logs_after i r d id order (harts i []) [] below (running i r [] (All-nil (λ (g : ℕ). g < harts_in i.all.schedule))) first_logs

  -- a hart that has not begun its next slot is in none
  outside_if : (order : List ℕ) → AreHartsOf i order → (b : Bool) → (progress_of h (harts i order)).inside ≡ b
      → IsBetween i h (harts i order) → b ≡ false
  outside_if order below true t early =
      let begun = hart_begun i h order r below (home i r d) t in absurd (omega (arith, begun, early))
  outside_if order below false t early = refl

  pub outside : (order : List ℕ) → AreHartsOf i order → IsBetween i h (harts i order)
      → (progress_of h (harts i order)).inside ≡ false
  outside order below early = outside_if order below (progress_of h (harts i order)).inside refl early

pub events_law : EventsLaw
events_law i d order r id below early =
    let h = hart_of_domain i d in
    let s = harts i order in
    subst (λ (b : Bool). LogAt i r d id (arrivals d s.world) b (slots_of h s) (part_of h d s.world) (logged i d order))
    (outside i r d id order below early) (logs i r d id order below)

pub alone_events_law : AloneEventsLaw
alone_events_law i d order r id none below early =
    let h = hart_of_domain i d in
    let s = harts i order in
    events_law i d order r id below early
    ∙ slots_quiet (public_on i.all h) (own_of i d) d (arrivals d s.world) (slots_of h s) ((running i r order below).quiet d none)

pub two_run_events_law : TwoRunEventsLaw
two_run_events_law i j d one two r q id none a below_one below_two same early late =
    let is' : IsDomain j d = omega (arith, r.counted, q.counted, ap (λ (p : Public). p.domains) a.all) in
    let home : hart_of_domain i d ≡ hart_of_domain j d = ap (λ (p : Public). hart_for p.schedule d) a.all in
    let none' : HasNoMail j d = subst (λ (p : Public). All (λ box. box.1 ≢ d) p.mail) a.all none in
    let there =
    alone_events_law j d two q is' none' below_two (subst (λ (h : ℕ). IsBetween j h (harts j two)) home late) in
    let slots : slots_of (hart_of_domain i d) (harts i one) ≡ slots_of (hart_of_domain j d) (harts j two) =
    same ∙ ap (λ (h : ℕ). slots_of h (harts j two)) home in
    alone_events_law i d one r id none below_one early
    ∙ ap₂ (λ (p : Public) (o : Own). slots_mailed (public_on p (hart_for p.schedule d)) o d [] (slots_of (hart_of_domain i d) (harts i one))) a.all a.own
    ∙ ap (λ (n : ℕ). slots_mailed (public_on j.all (hart_of_domain j d)) (own_of j d) d [] n) slots ∙ sym there
