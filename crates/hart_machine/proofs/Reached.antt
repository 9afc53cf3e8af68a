-- What holds of every state that some order of events leads to.
use Rattle.std.proofs.Common.{◌≡◌, ℕ, suc, ◌<◌, ◌≤◌, Bool, true, false, List, [], ◌∷◌, ◌++◌, length, length-append, ap, sym, ◌∙◌, refl, subst, arith}
use Rattle.std.proofs.lemmas.List.Elements.{All-push}
use Rattle.image_check.specs.Image.{Image}
use Rattle.image_check.specs.Laws.{Runnable}
use Rattle.sched_table.specs.Schedule.{on_hart, start, harts_in}
use Rattle.sched_table.proofs.Starts.{order_law}
use Rattle.world_view.specs.Machine.{clock_of}
use Rattle.world_view.specs.Relations.{InTime}
use Rattle.world_view.specs.Harts.{Harts, Progress, image_on, domain_in, start_on, end_on, progress_of, slots_of, next, after, harts, after_by, harts_by}
use Rattle.world_view.specs.HartLaws.{IsBetween}
use Rattle.world_view.proofs.harts.OnHart.{separated_on}
use Rattle.world_view.proofs.harts.Events.{IsHart, begun_world, switch_inside}
use Rattle.world_view.proofs.harts.Runs.{Running, there_if, used_cold}
use Rattle.world_view.proofs.harts.Clocks.{hart_between, hart_rises}
use Rattle.world_view.proofs.harts.Isolation.{at_first, running, next_law}
use Rattle.hart_machine.specs.HartMachine.{IsReached}
use Rattle.hart_machine.proofs.Work.{IsIn}
use Rattle.hart_machine.proofs.Events.{works_used, turns_used}

module _ (i : Image) where
  abbrev many : ℕ
  many = harts_in i.all.schedule

  pub next_reached : (h : ℕ) (s : Harts) → h < many → IsReached i s → IsReached i (next i h s)
  next_reached h s there a = record {
    order = a.order ++ h ∷ [];
    of_harts = All-push (λ (g : ℕ). g < many) a.order h a.of_harts there;
    comes_to = ap (next i h) a.comes_to ∙ sym (next_law i a.order h);
  }

  -- ---- where no switch was yet there was no event

  used_if : (h : ℕ) (s : Harts) (b : Bool) → (progress_of h s).inside ≡ b
      → length s.world.used ≤ length (next i h s).world.used
  used_if h s true now = let same = ap (λ (us : List (ℕ × ℕ)). length us) (works_used i h s now) in omega (arith, same)
  used_if h s false out =
      let more = ap (λ (us : List (ℕ × ℕ)). length us) (turns_used i h s out) ∙ length-append s.world.used _ in
      omega (arith, more)

  used_grows : (order : List ℕ) (s : Harts) → length s.world.used ≤ length (after i order s).world.used
  unfolding after_by
  used_grows [] s = omega arith
  used_grows (h ∷ hs) s =
      let one = used_if h s (progress_of h s).inside refl in
      let more = used_grows hs (next i h s) in
      omega (arith, one, more)

  grows_after : (h : ℕ) (hs : List ℕ)
      → length (next i h (harts i [])).world.used ≤ length (harts i (h ∷ hs)).world.used
  unfolding harts_by after_by
  grows_after h hs = used_grows hs (next i h (harts i []))

  first_used : Runnable i → (h : ℕ) → 0 < length (next i h (harts i [])).world.used
  first_used r h =
      let out = ap (λ (x : Progress). x.inside) (at_first i r h) in
      let more = ap (λ (us : List (ℕ × ℕ)). length us) (turns_used i h (harts i []) out)
      ∙ length-append (harts i []).world.used _ in
      omega (arith, more)

  is_first : Runnable i → (order : List ℕ) → (harts i order).world.used ≡ [] → harts i order ≡ harts i []
  is_first r [] none = refl
  is_first r (h ∷ hs) none =
      let some = first_used r h in
      let grown = grows_after h hs in
      let length_is = ap (λ (us : List (ℕ × ℕ)). length us) none in
      absurd (omega (arith, some, grown, length_is))

  pub first_of : Runnable i → (s : Harts) → IsReached i s → s.world.used ≡ [] → s ≡ harts i []
  first_of r s a none =
      a.comes_to ∙ is_first r a.order (subst (λ (t : Harts). t.world.used ≡ []) a.comes_to none)

  -- no event, and so no switch
  pub none_used : (harts i []).world.used ≡ []
  unfolding harts_by after_by
  none_used = used_cold i many

module _ (i : Image) (r : Runnable i) (s : Harts) (a : IsReached i s) where
  pub run : Running i r s
  run = subst (Running i r) (sym a.comes_to) (running i r a.order a.of_harts)

  module _ (h : ℕ) (there : h < harts_in i.all.schedule) where
    its : (b : Bool) → (progress_of h s).inside ≡ b → IsHart i b h (slots_of h s) s.world
    its b t = subst (λ (x : Bool). IsHart i x h (slots_of h s) s.world) t (run.hart h there)

    -- ---- in its slot, and before a switch

    pub is_in : (progress_of h s).inside ≡ true → IsIn i r h there (slots_of h s) s.world
    is_in now = record {
      inside = its true now;
      facts = (run.facts (domain_in i h (slots_of h s)) ((separated_on i r h there).named (slots_of h s))).facts;
      there = there_if i r h s now run.shared;
    }

    pub is_in_time : (progress_of h s).inside ≡ false → InTime (image_on i h) h (slots_of h s) s.world
    is_in_time out = its false out

    -- where that leads, the slot has not ended
    pub begun_soon : (progress_of h s).inside ≡ false → clock_of h (begun_world i h s) < end_on i h (slots_of h s)
    begun_soon out = (switch_inside i r h there (slots_of h s) s.world (is_in_time out)).soon

    -- ---- time

    pub rises : clock_of h s.world < clock_of h (next i h s).world
    rises =
        subst (λ (x : Harts). clock_of h x.world < clock_of h (next i h x).world) (sym a.comes_to)
        (hart_rises i h a.order r a.of_harts there)

    pub early : (progress_of h s).inside ≡ true → clock_of h s.world < end_on i h (slots_of h s)
    early now = (its true now).soon

    between : (progress_of h s).inside ≡ false → clock_of h s.world < start_on i h (slots_of h s)
    between =
        subst (λ (x : Harts). (progress_of h x).inside ≡ false → IsBetween i h x) (sym a.comes_to)
        (hart_between i h a.order r a.of_harts there)

    before_if : (n : ℕ) (b : Bool) → (progress_of h s).inside ≡ b → slots_of h s < n → clock_of h s.world < start_on i h n
    unfolding start
    before_if n true now less =
        let soon = early now in
        let order = order_law (on_hart i.all.schedule h) (suc (slots_of h s)) n less in
        omega (arith, soon, order)
    before_if n false out less =
        let soon = between out in
        let order = order_law (on_hart i.all.schedule h) (slots_of h s) n (omega (arith, less)) in
        omega (arith, soon, order)

    pub before : (n : ℕ) → slots_of h s < n → clock_of h s.world < start_on i h n
    before n less = before_if n (progress_of h s).inside refl less
