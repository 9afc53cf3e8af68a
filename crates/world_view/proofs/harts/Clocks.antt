-- When a hart's slots begin, and what an event of it adds to its clock and to its slots.
use Rattle.std.proofs.Common.{None, ◌≡◌, ◌≢◌, ℕ, Bool, true, false, suc, ◌+◌, ◌<◌, ◌≤◌, ltb, ap, ◌∙◌, sym, refl, subst, arith}
use Rattle.std.specs.Prelude.{if◌then◌else◌}
use Rattle.tp_base.specs.Table.{at-put_other}
use Rattle.pad_bound.specs.Bound.{worst_leave, bound_of}
use Rattle.image_check.specs.Image.{Image}
use Rattle.image_check.specs.Laws.{Runnable}
use Rattle.sched_table.specs.Schedule.{harts_in}
use Rattle.sched_table.proofs.Starts.{pad_law}
use Rattle.world_view.specs.Machine.{World, no_hart, hart_of, clock_of, with_part, with_hart, guarded, switch_on}
use Rattle.world_view.specs.Relations.{InTime}
use Rattle.world_view.specs.Harts.{Harts, Progress, image_on, domain_in, start_on, end_on, progress_of, slots_of, proceeds, begins, runs, goes_on, next, harts, next_by, settles}
use Rattle.world_view.specs.HartLaws.{IsBetween, HartBetweenLaw, HartBegunLaw, HartStartLaw, HartRiseLaw, OneMoreAtMost, HartSlotsLaw, HartStays, HartStaysLaw}
use Rattle.world_view.proofs.harts.OnHart.{separated_on, padded_on}
use Rattle.world_view.proofs.harts.Events.{IsHart, begun_world, begins_on_start, begins_is, later, ran-clock}
use Rattle.world_view.proofs.harts.Runs.{Running, progress-same, progress-other}
use Rattle.world_view.proofs.harts.Isolation.{running}

-- ---- when its slots begin

module _ (i : Image) (r : Runnable i) (h : ℕ) (is : h < harts_in i.all.schedule) where
  -- a step overruns its slot by less than the pad: the bound is more by the leave's trap at least
  early : (k : ℕ) (w : World) → InTime (image_on i h) h k w → clock_of h w < start_on i h k
  unfolding bound_of worst_leave
  early k w time =
      let soon = time.soon in
      let padded = padded_on i r h is k in
      let begins = pad_law (image_on i h).all.schedule k in
      let trap = (separated_on i r h is).timed.trap in
      omega (arith, soon, padded, begins, trap)

  module _ (s : Harts) (was : Running i r s) where
    abbrev k : ℕ
    k = slots_of h s

    its : (b : Bool) → (progress_of h s).inside ≡ b → IsHart i b h k s.world
    its b t = subst (λ (x : Bool). IsHart i x h k s.world) t (was.hart h is)

    between : (progress_of h s).inside ≡ false → IsBetween i h s
    between t = early k s.world (its false t)

    begun : (progress_of h s).inside ≡ true → start_on i h k ≤ clock_of h s.world
    begun t = (its true t).begun

    begins_at : (progress_of h s).inside ≡ false → clock_of h (begins None i h s).world ≡ start_on i h k
    unfolding proceeds
    begins_at t =
        ap (λ (x : Harts). clock_of h x.world) (begins_is i r h is s (its false t)) ∙ begins_on_start i r h is k s.world (its false t)

    starts : (progress_of h s).inside ≡ false → clock_of h (next i h s).world ≡ start_on i h k
    unfolding next_by
    starts t = subst (λ (b : Bool). clock_of h (if b then goes_on None i h s else begins None i h s).world ≡ start_on i h k) (sym t) (begins_at t)

    -- the event of its slot
    abbrev ran : World
    ran = runs None i h k s.world

    ran_world : (b : Bool)
        → (if b then proceeds h s ran k true else proceeds h s ran (suc k) false).world ≡ ran
    unfolding proceeds
    ran_world true = refl
    ran_world false = refl

    goes_later : (progress_of h s).inside ≡ true → clock_of h s.world < clock_of h (goes_on None i h s).world
    unfolding goes_on settles guarded
    goes_later t =
        let facts = (was.facts (domain_in i h k) ((separated_on i r h is).named k)).facts in
        let past = later i r h is k s.world (its true t) facts in
        let now = ran-clock i r h is k s.world (its true t) facts in
        let same = ap (λ (w : World). clock_of h w) (ran_world (ltb (clock_of h ran) (end_on i h k))) in
        omega (arith, past, now, same)

    begins_later : (progress_of h s).inside ≡ false → clock_of h s.world < clock_of h (begins None i h s).world
    begins_later t = let before = between t in let at = begins_at t in omega (arith, before, at)

    rises_if : (b : Bool) → (progress_of h s).inside ≡ b
        → clock_of h s.world < clock_of h (if b then goes_on None i h s else begins None i h s).world
    rises_if true t = goes_later t
    rises_if false t = begins_later t

    rises : clock_of h s.world < clock_of h (next i h s).world
    unfolding next_by
    rises = rises_if (progress_of h s).inside refl

pub hart_between : HartBetweenLaw
hart_between i h order r below is t = between i r h is (harts i order) (running i r order below) t

pub hart_begun : HartBegunLaw
hart_begun i h order r below is t = begun i r h is (harts i order) (running i r order below) t

pub hart_starts : HartStartLaw
hart_starts i h order r below is t = starts i r h is (harts i order) (running i r order below) t

pub hart_rises : HartRiseLaw
hart_rises i h order r below is = rises i r h is (harts i order) (running i r order below)

-- ---- how many slots it has had

module _ (h : ℕ) (s : Harts) (w : World) where
  abbrev slots : ℕ
  slots = slots_of h s

  went_on : (k : ℕ) (b : Bool) → slots ≤ k → k ≤ slots + 1 → OneMoreAtMost h (proceeds h s w k b) s
  went_on k b least most =
      let now = ap (λ (x : Progress). x.slots) (progress-same h s w k b) in
      record { least = omega (arith, now, least); most = omega (arith, now, most) }

  goes_if : (b : Bool)
      → OneMoreAtMost h (if b then proceeds h s w slots true else proceeds h s w (suc slots) false) s
  goes_if true = went_on slots true (omega arith) (omega arith)
  goes_if false = went_on (suc slots) false (omega arith) (omega arith)

  -- another hart
  module _ (g : ℕ) (other : g ≢ h) (same : hart_of g w ≡ hart_of g s.world) where
    stayed : (k : ℕ) (b : Bool) → HartStays g (proceeds h s w k b) s
    unfolding proceeds
    stayed k b = record { hart = same; progress = progress-other g h s w k b other }

    stays_if : (b : Bool)
        → HartStays g (if b then proceeds h s w slots true else proceeds h s w (suc slots) false) s
    stays_if true = stayed slots true
    stays_if false = stayed (suc slots) false

module _ (i : Image) (h : ℕ) (s : Harts) where
  slots_next : (b : Bool) → OneMoreAtMost h (if b then goes_on None i h s else begins None i h s) s
  unfolding goes_on begins settles guarded
  slots_next true =
      let k = slots_of h s in
      goes_if h s (runs None i h k s.world) (ltb (clock_of h (runs None i h k s.world)) (end_on i h k))
  slots_next false =
      goes_if h s (begun_world i h s) (ltb (clock_of h (begun_world i h s)) (end_on i h (slots_of h s)))

  ran_apart : (g : ℕ) → g ≢ h → hart_of g (runs None i h (slots_of h s) s.world) ≡ hart_of g s.world
  unfolding runs with_part with_hart guarded
  ran_apart g other = at-put_other no_hart s.world.harts h g _ other

  switch_apart : (g : ℕ) → g ≢ h → hart_of g (begun_world i h s) ≡ hart_of g s.world
  unfolding switch_on with_hart
  switch_apart g other = at-put_other no_hart s.world.harts h g _ other

  stays_next : (g : ℕ) → g ≢ h → (b : Bool) → HartStays g (if b then goes_on None i h s else begins None i h s) s
  unfolding goes_on begins settles guarded
  stays_next g other true =
      let k = slots_of h s in
      let w = runs None i h k s.world in
      stays_if h s w g other (ran_apart g other) (ltb (clock_of h w) (end_on i h k))
  stays_next g other false =
      let w = begun_world i h s in
      stays_if h s w g other (switch_apart g other) (ltb (clock_of h w) (end_on i h (slots_of h s)))

pub hart_slots : HartSlotsLaw
unfolding next_by
hart_slots i h s = slots_next i h s (progress_of h s).inside

pub hart_stays : HartStaysLaw
unfolding next_by
hart_stays i g h s other = stays_next i h s g other (progress_of h s).inside
