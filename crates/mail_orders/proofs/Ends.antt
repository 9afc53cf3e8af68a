-- Between which cycles a hart's clock lies by how many switches it has had.
use Rattle.std.proofs.Common.{◌≡◌, ◌≢◌, ◌⊎◌, ℕ, zero, suc, ◌+◌, ◌<◌, ◌≤◌, true≢false, List, [], inl, inr, ap, sym, ◌∙◌, refl, subst, arith}
use Rattle.std.proofs.lemmas.Bool.{cases_eq}
use Rattle.sched_table.specs.Schedule.{start, on_hart, harts_in}
use Rattle.sched_table.proofs.Starts.{order_law}
use Rattle.image_check.specs.Image.{Image}
use Rattle.image_check.specs.Laws.{Runnable}
use Rattle.world_view.specs.Machine.{Hart, clock_of}
use Rattle.world_view.specs.Relations.{InTime}
use Rattle.world_view.specs.Harts.{Harts, IsOutside, image_on, start_on, end_on, slots_of, switches_of, next, harts, after_by, harts_by}
use Rattle.world_view.specs.HartLaws.{AreHartsOf}
use Rattle.world_view.proofs.harts.OnHart.{lasts}
use Rattle.world_view.proofs.harts.Runs.{Running, all_cold_are}
use Rattle.world_view.proofs.harts.Isolation.{running}
use Rattle.world_view.proofs.harts.Clocks.{hart_between, hart_stays}
use Rattle.world_view.proofs.harts.Always.{always, inside, time}
use Rattle.world_view.proofs.mail.BoxEvents.{in_or_out}
use Rattle.mail_orders.specs.Apart.{longest_in}
use Rattle.mail_orders.specs.Laws.{DueLaw}
use Rattle.mail_orders.proofs.Counts.{count_outside, count_inside, count_more, count_stays}

-- later slots end later
pub ends_later : (i : Image) (h m k : ℕ) → m ≤ k → end_on i h m ≤ end_on i h k
unfolding start
ends_later i h m k le = elim (cases_eq m k) [
  | inl same ↦ let e = ap (end_on i h) same in omega (arith, e)
  | inr other ↦ let order = order_law (on_hart i.all.schedule h) (suc m) k (omega (arith, le, other)) in omega (arith, order)
]

pub due : DueLaw
due i h k order r below is outside had =
    let s = harts i order in
    let at : InTime (image_on i h) h (suc k) s.world =
    subst (λ (n : ℕ). InTime (image_on i h) h n s.world) had (time i r h is s (running i r order below) outside) in
    record { over = at.over; soon = at.soon }

module _ (i : Image) (r : Runnable i) (order : List ℕ) (below : AreHartsOf i order) where
  abbrev s : Harts
  s = harts i order

  module _ (h : ℕ) (is : h < harts_in i.all.schedule) where
    late_if : IsOutside h s → (m k : ℕ) → slots_of h s ≡ k → m < k → end_on i h m ≤ clock_of h s.world
    late_if outside m zero had few = absurd (omega (arith, few))
    late_if outside m (suc k) had few =
        let over = (due i h k order r below is outside had).over in
        let later = ends_later i h m k (omega (arith, few)) in
        omega (arith, over, later)

    -- outside, and past its slot m, its clock has come to the end of that
    pub late : IsOutside h s → (m : ℕ) → m < slots_of h s → end_on i h m ≤ clock_of h s.world
    late outside m few = late_if outside m (slots_of h s) refl few

    early_out : IsOutside h s → (k n : ℕ) → slots_of h s ≡ n → n ≤ suc k → clock_of h s.world < end_on i h k + longest_in i h k
    early_out outside k n had few = elim (cases_eq n (suc k)) [
      | inl same ↦ (due i h k order r below is outside (had ∙ same)).soon
      | inr other ↦
          let between = subst (λ (m : ℕ). clock_of h s.world < start_on i h m) had (hart_between i h order r below is outside) in
          let later = ends_later i h n k (omega (arith, few, other)) in
          omega (arith, between, later)
    ]

    -- as long as it has not switched after its slot k, it is not past that by the longest event
    pub early : (k : ℕ) → switches_of h s ≤ suc k → clock_of h s.world < end_on i h k + longest_in i h k
    early k few = elim (in_or_out i h s) [
      | inl within ↦
          let soon = (inside i r h is s (running i r order below) within).soon in
          let here = count_inside h s within in
          let later = ends_later i h (slots_of h s) k (omega (arith, here, few)) in
          omega (arith, soon, later)
      | inr outside ↦
          let here = count_outside h s outside in
          early_out outside k (slots_of h s) refl (omega (arith, here, few))
    ]

-- ---- boots

module _ (i : Image) (r : Runnable i) where
  -- before its boot a hart's clock stands at 0
  abbrev IsUnbooted : Harts → Type 0
  IsUnbooted s = (h : ℕ) → h < harts_in i.all.schedule → switches_of h s ≡ 0 → clock_of h s.world ≡ 0

  first_unbooted : IsUnbooted (harts i [])
  unfolding harts_by after_by
  first_unbooted h is none = (all_cold_are i (harts_in i.all.schedule) h is).clock

  module _ (x : ℕ) (there : x < harts_in i.all.schedule) (s : Harts) (was : Running i r s) (before : IsUnbooted s) where
    still_if : (h : ℕ) → h < harts_in i.all.schedule → switches_of h (next i x s) ≡ 0 → (h ≡ x) ⊎ (h ≢ x)
        → clock_of h (next i x s).world ≡ 0
    still_if h is none (inl same) = elim (in_or_out i x s) [
      | inl within ↦
          let stays = count_stays i r x there s was x (λ w. true≢false (sym within ∙ w.outside)) in
          let here = count_inside x s within in
          let none_here = subst (λ (n : ℕ). switches_of n (next i x s) ≡ 0) same none in
          absurd (omega (arith, stays, here, none_here))
      | inr outside ↦
          let more = count_more i r x there s was x (record { hart = refl; outside = outside }) in
          let none_here = subst (λ (n : ℕ). switches_of n (next i x s) ≡ 0) same none in
          absurd (omega (arith, more, none_here))
    ]
    still_if h is none (inr other) =
        let stays = count_stays i r x there s was h (λ w. other (sym w.hart)) in
        ap (λ (y : Hart). y.clock) (hart_stays i h x s other).hart ∙ before h is (sym stays ∙ none)

    still_unbooted : IsUnbooted (next i x s)
    still_unbooted h is none = still_if h is none (cases_eq h x)

  pub unbooted : (order : List ℕ) → AreHartsOf i order → IsUnbooted (harts i order)
  unbooted order below = always i r IsUnbooted still_unbooted first_unbooted order below

  -- a slot ends after that
  pub ends_past : (h k : ℕ) → h < harts_in i.all.schedule → 0 < end_on i h k
  ends_past h k is = let long = lasts i r h is k in omega (arith, long)
