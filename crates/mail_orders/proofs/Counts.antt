-- How many switches harts have had after one event.
use Rattle.std.proofs.Common.{None, ◌≡◌, ◌≢◌, ◌⊎◌, ℕ, suc, ◌+◌, ◌<◌, ◌≤◌, Bool, true, false, ltb, true≢false, inl, inr, ap, sym, ◌∙◌, refl, subst, arith}
use Rattle.std.specs.Prelude.{if◌then◌else◌}
use Rattle.std.proofs.lemmas.Bool.{cases_eq, cases_order}
use Rattle.sched_table.specs.Schedule.{harts_in}
use Rattle.image_check.specs.Image.{Image}
use Rattle.image_check.specs.Laws.{Runnable}
use Rattle.world_view.specs.Machine.{World, guarded, clock_of}
use Rattle.world_view.specs.Harts.{Harts, Progress, IsInSlot, IsOutside, end_on, progress_of, slots_of, switches_of, proceeds, begins, runs, goes_on, next, next_by, settles}
use Rattle.world_view.proofs.harts.Events.{begun_world, begins_is}
use Rattle.world_view.proofs.harts.Runs.{Running, progress-same}
use Rattle.world_view.proofs.harts.Clocks.{hart_stays}
use Rattle.world_view.proofs.harts.Always.{time}
use Rattle.world_view.proofs.mail.BoxEvents.{in_or_out}

pub cases_le : (a b : ℕ) → (a ≤ b) ⊎ (b < a)
cases_le a b = elim (cases_order a b) [
  | inl same ↦ inl (omega (arith, same))
  | inr (inl less) ↦ inl (omega (arith, less))
  | inr (inr more) ↦ inr more
]

-- an event is a switch of a hart
pub record IsSwitch (h x : ℕ) (s : Harts) : Type 0 where
  pub hart : x ≡ h
  pub outside : IsOutside x s

pub switch_or_not : (i : Image) (h x : ℕ) (s : Harts) → IsSwitch h x s ⊎ (IsSwitch h x s → ⊥)
switch_or_not i h x s = elim (cases_eq x h) [
  | inl same ↦ elim (in_or_out i x s) [
    | inl within ↦ inr (λ w. true≢false (sym within ∙ w.outside))
    | inr outside ↦ inl (record { hart = same; outside = outside })
  ]
  | inr other ↦ inr (λ w. other w.hart)
]

-- how many a hart that is so far has had
abbrev pub count_at : Progress → ℕ
count_at x = if x.inside then x.slots + 1 else x.slots

module _ (h : ℕ) (s : Harts) where
  pub count_outside : IsOutside h s → switches_of h s ≡ slots_of h s
  count_outside outside = ap (λ (b : Bool). if b then slots_of h s + 1 else slots_of h s) outside

  pub count_inside : IsInSlot h s → switches_of h s ≡ slots_of h s + 1
  count_inside within = ap (λ (b : Bool). if b then slots_of h s + 1 else slots_of h s) within

  count_if : (b : Bool) → (progress_of h s).inside ≡ b → slots_of h s ≤ switches_of h s
  count_if true t = let here = count_inside t in omega (arith, here)
  count_if false t = let here = count_outside t in omega (arith, here)

  pub slots_fewer : slots_of h s ≤ switches_of h s
  slots_fewer = count_if (progress_of h s).inside refl

-- ---- its own events

module _ (i : Image) (h : ℕ) (s : Harts) where
  goes_if : (b : Bool) (k : ℕ) (w : World)
      → count_at (progress_of h (if b then proceeds h s w k true else proceeds h s w (suc k) false)) ≡ k + 1
  goes_if true k w = ap count_at (progress-same h s w k true)
  goes_if false k w = let over = ap count_at (progress-same h s w (suc k) false) in omega (arith, over)

  -- an event of its slot is none
  pub count_in : IsInSlot h s → switches_of h (next i h s) ≡ switches_of h s
  unfolding next_by goes_on settles guarded
  count_in within =
      let k = slots_of h s in
      let w = runs None i h k s.world in
      let now : switches_of h (next i h s) ≡ k + 1 =
      subst (λ (b : Bool). count_at (progress_of h (if b then goes_on None i h s else begins None i h s)) ≡ k + 1) (sym within)
      (goes_if (ltb (clock_of h w) (end_on i h k)) k w) in
      let here = count_inside h s within in
      omega (arith, now, here)

module _ (i : Image) (r : Runnable i) (x : ℕ) (is : x < harts_in i.all.schedule) (s : Harts) (was : Running i r s) where
  progress_out : IsOutside x s → progress_of x (next i x s) ≡ record { slots = slots_of x s; inside = true }
  unfolding next_by
  progress_out outside =
      ap (λ (b : Bool). progress_of x (if b then goes_on None i x s else begins None i x s)) outside
      ∙ ap (progress_of x) (begins_is i r x is s (time i r x is s was outside))
      ∙ progress-same x s (begun_world i x s) (slots_of x s) true

  -- a switch of its own is one more
  pub count_out : IsOutside x s → switches_of x (next i x s) ≡ suc (slots_of x s)
  count_out outside = let now : switches_of x (next i x s) ≡ slots_of x s + 1 = ap count_at (progress_out outside) in omega (arith, now)

  -- and another hart's event is none
  pub count_other : (y : ℕ) → y ≢ x → switches_of y (next i x s) ≡ switches_of y s
  count_other y other = ap count_at (hart_stays i y x s other).progress

  -- so it stays but for a switch of the hart
  pub count_stays : (y : ℕ) → (IsSwitch y x s → ⊥) → switches_of y (next i x s) ≡ switches_of y s
  count_stays y none = elim (cases_eq y x) [
    | inl same ↦ elim (in_or_out i x s) [
      | inl within ↦ subst (λ (n : ℕ). switches_of n (next i x s) ≡ switches_of n s) (sym same) (count_in i x s within)
      | inr outside ↦ absurd (none (record { hart = sym same; outside = outside }))
    ]
    | inr other ↦ count_other y other
  ]

  pub count_more : (y : ℕ) → IsSwitch y x s → switches_of y (next i x s) ≡ suc (switches_of y s)
  count_more y w =
      subst (λ (n : ℕ). switches_of n (next i x s) ≡ suc (switches_of n s)) w.hart
      (let now = count_out w.outside in let here = count_outside x s w.outside in omega (arith, now, here))

  pub count_rises : (y : ℕ) → switches_of y s ≤ switches_of y (next i x s)
  count_rises y = elim (switch_or_not i y x s) [
    | inl w ↦ let more = count_more y w in omega (arith, more)
    | inr none ↦ let same = count_stays y none in omega (arith, same)
  ]
