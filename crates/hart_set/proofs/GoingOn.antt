-- Events of the domain whose slot a hart is in, as the code finds and leaves it.
use Rattle.std.proofs.Common.{true, ◌≡◌, ◌∙◌, ℕ, zero, suc, ◌+◌, ◌*◌, ◌^◌, ◌<◌, ◌≤◌, List, replicate, Option, Some, length, refl, ◌⊎◌, inl, inr, sym, ap, subst, arith}
use Rattle.std.specs.Prelude.{slice_get, slice_index_or, IfSome}
use Rattle.cycle_cost.specs.Ranges.{most_event}
use Rattle.repl_policy.specs.Members.{any_rule, any_stands_for}
use Rattle.mem_system.specs.Contents.{system}
use Rattle.image_check.specs.Image.{Image}
use Rattle.kernel_call.specs.declared.domain.Domain.{Domain}
use Rattle.kernel_call.specs.Models.{CountsUpTo}
use Rattle.world_view.specs.Machine.{Local, Setting, guards_of, setting_by, step, stretch, part_of}
use Rattle.world_view.specs.Harts.{Harts, harts_by, next_by, after_by, end_by, domain_in, progress_of, slots_of, hart_of_domain}
use Rattle.world_view.specs.HartLaws.{AreHartsOf}
use Rattle.world_view.proofs.harts.OnHart.{hart_is}
use Rattle.hart_orders.proofs.Held.{Held}
use Rattle.domain_step.specs.Moves.{Happen, Moves, MovesAlong, Runs}
use Rattle.domain_step.proofs.Elements.{each_set_kept}
use Rattle.hart_orders.specs.declared.hart.Slot.{Slot}
use Rattle.hart_orders.specs.declared.hart.Hart.{Hart as CodeHart}
use Rattle.hart_set.specs.declared.set.State.{State}
use Rattle.hart_set.specs.Standing.{StandsFor, IsEarly, IsInBounds}
use Rattle.hart_set.specs.Reached.{IsReached}
use Rattle.hart_set.proofs.Bounds.{IsCounted, in_bounds_next}
use Rattle.hart_set.specs.Slots.{NextStands, SlotEndsIn}
use Rattle.hart_set.proofs.Called.{Called, domain_read, slot_ended, reached_ended, s, holds, held_at, its, pushed, reached_next}
use Rattle.hart_orders.proofs.Through.{Ran, EndsIn, ends_once, one_event, whole}
use Rattle.hart_set.proofs.Running.{StepEnd, Stepped, GoesOn, IsOver, at, far, slot_domain, early, begun, stands_stepped}

-- events that come past the end
past_end : (w : Setting) (end n : ℕ) (s x : Local) → Happen w end end n s x → end ≤ x.clock → EndsIn w end n s
past_end w end zero s x here past = subst (λ (y : Local). end ≤ y.clock) (sym here) past
past_end w end (suc n) s x (early, rest) past = (early, past_end w end n (step w end s) x rest past)

module _ (i : Image) (t : State) (h : ℕ) (x : CodeHart) (c : Called i t h x) (slot : Slot) (inside : x.slot ≡ Some slot) where
  pub domain_there : slot.domain < length t.domains.items
  domain_there =
      let r = c.reached.accepted in
      let there = slot_domain i r (s i t h x c) t (holds i t h x c) c.reached.stands h c.below x c.got slot inside in
      let all = c.reached.stands.all_domains in
      omega (arith, there, all)

  pub slot_read : (n : ℕ) (y : Domain) → n ≡ slot.domain → y ≡ slice_index_or t.domains.items n y
      → slice_get t.domains.items slot.domain ≡ Some y
  slot_read n y same read =
      let r = c.reached.accepted in
      let named = slot_domain i r (s i t h x c) t (holds i t h x c) c.reached.stands h c.below x c.got slot inside in
      domain_read i t c.reached slot.domain named n y same read

  -- any harts that it stands for are in that slot of the hart
  far_in : (u : Harts) → Held t.off i c.reached.accepted u → StandsFor i u t
      → progress_of h u ≡ record { slots = slots_of h u; inside = true }
  far_in u held_u stands = far i c.reached.accepted u t held_u stands h c.below x c.got slot inside

  pub before : x.clock < slot.end
  before = early i c.reached.accepted (s i t h x c) t (holds i t h x c) c.reached.stands h c.below x c.got slot inside

  -- it ends early enough
  pub end_early : slot.end ≤ 2 ^ 61 + x.slots * 2 ^ 40 + 2 ^ 39
  end_early =
      subst (λ (o : Option Slot). IfSome o (λ y. y.end ≤ 2 ^ 61 + x.slots * 2 ^ 40 + 2 ^ 39)) inside
      (c.reached.in_bounds.early h x c.got).end

  pub end_fits : slot.end < 2 ^ 62
  end_fits = let soon = end_early in let most = c.reached.in_bounds.few_slots h x c.got in omega (arith, soon, most)

  pub frames_few : t.memory.frames ≤ 2 ^ 15
  frames_few = let same = (its i t h x c).machine.frames in let most = c.reached.accepted.hardware.most_frames in omega (arith, same, most)

  -- the domain is on this hart
  home : hart_of_domain i slot.domain ≡ h
  home =
      let r = c.reached.accepted in
      ap (hart_of_domain i) (at i r (s i t h x c) t (holds i t h x c) c.reached.stands h c.below x c.got slot inside).whose
      ∙ hart_is i r h c.below (slots_of h (s i t h x c))

  module _ (y : Domain) (got_y : slice_get t.domains.items slot.domain ≡ Some y) where
    pub runs_here : Runs any_rule any_stands_for t.memory t.mail y (system x.core t.l2) x.clock
    runs_here =
        let r = c.reached.accepted in
        let d = domain_in i h (slots_of h (s i t h x c)) in
        record {
          setting = setting_by (guards_of t.off i) i d;
          state = part_of h d (s i t h x c).world;
          stands_in = begun i r (s i t h x c) t (holds i t h x c) c.reached.stands h c.below x c.got slot inside y got_y;
        }

    pub counted_here : CountsUpTo x.clock y
    counted_here =
        c.reached.in_bounds.few_calls slot.domain y got_y x
        (subst (λ (g : ℕ). slice_get t.harts.items g ≡ Some x) (sym home) c.got)

    -- ---- what it leaves: one event, or all up to the slot's end

    module _ (z : StepEnd) (t' : State) (x' : CodeHart) (which : GoesOn t h x slot z t' x' ⊎ IsOver t h x slot z t' x') where
      module _ (not_last : x.slots < 65536) (counted : CountsUpTo z.clock z.domain) (later : x.clock < z.clock)
          (soon : z.clock < slot.end + most_event) where
        bounds_if : {m : ℕ} {o : Option Slot} → m ≤ 65536 → IsEarly x' → Stepped t h x slot.domain z m o t' x'
            → IsInBounds i t'
        bounds_if most early kept =
            let slots = kept.slots in
            let clock = kept.clock in
            let counts : CountsUpTo x'.clock z.domain = subst (λ (n : ℕ). CountsUpTo n z.domain) (sym clock) counted in
            in_bounds_next i t t' h x x' c.got c.reached.in_bounds (omega (arith, most, slots)) early (omega (arith, later, clock)) kept.harts
            (λ d v got_d.
            each_set_kept (λ e u. IsCounted i h x'.clock e u ⊎ (slice_get t.domains.items e ≡ Some u))
            t.domains.items slot.domain z.domain domain_there
            (inl (record { home = home; few = counts })) (λ e u other got_e. inr got_e) d v
            (subst (λ (ys : List Domain). slice_get ys d ≡ Some v) kept.domains got_d))

        bounds_of : GoesOn t h x slot z t' x' ⊎ IsOver t h x slot z t' x' → IsInBounds i t'
        bounds_of (inl on) =
            let slots = on.kept.slots in
            let end = end_early in
            bounds_if (omega (arith, not_last))
            (record {
              clock = λ none. absurd (cc (none, on.kept.now_in));
              end =
                  subst (λ (o : Option Slot). IfSome o (λ y. y.end ≤ 2 ^ 61 + x'.slots * 2 ^ 40 + 2 ^ 39)) (sym on.kept.now_in)
                  (omega (arith, end, slots));
            }) on.kept
        bounds_of (inr over) =
            let slots = over.kept.slots in
            let clock = over.kept.clock in
            let end = end_early in
            bounds_if (omega (arith, not_last))
            (record {
              clock = λ none. omega (arith, end, slots, clock, soon);
              end = subst (λ (o : Option Slot). IfSome o (λ y. y.end ≤ 2 ^ 61 + x'.slots * 2 ^ 40 + 2 ^ 39)) (sym over.kept.now_in) tt;
            }) over.kept

        bounds : IsInBounds i t'
        bounds = bounds_of which

      -- the guard that is off stays
      off_is : GoesOn t h x slot z t' x' ⊎ IsOver t h x slot z t' x' → t.off ≡ t'.off
      off_is (inl on) = on.kept.off
      off_is (inr over) = over.kept.off

      -- any harts that it stood for: it stands for what f makes of them
      now_stands : (f : Setting → ℕ → Local → Local)
          → Moves any_rule any_stands_for (λ w. f w slot.end) t.memory t.mail y (system x.core t.l2) x.clock z.memory
          z.mail z.domain (system z.core z.l2) z.clock
          → (u later : Harts) (held_u : Held t.off i c.reached.accepted u) → StandsFor i u t
          → Ran t.off i c.reached.accepted c.reached.served h c.below (slots_of h u) f u later → StandsFor i later t'
      now_stands f moved u later held_u stands ran =
          stands_stepped i c.reached.accepted u t held_u stands h c.below x c.got slot inside y got_y f z moved
          c.reached.served later ran t' x' which

      module _ (own : (guards_of t.off i).irq ≡ true) where
        -- ---- one event

        module _ (moved : Moves any_rule any_stands_for (λ w. step w slot.end) t.memory t.mail y (system x.core t.l2) x.clock
            z.memory z.mail z.domain (system z.core z.l2) z.clock) where
          stands_next : (order : List ℕ) → AreHartsOf i order → StandsFor i (harts_by t.off i order) t
              → StandsFor i (next_by t.off i h (harts_by t.off i order)) t'
          stands_next order of_harts stands =
              let u = harts_by t.off i order in
              let so = held_at i t h x c order of_harts in
              now_stands step moved u (next_by t.off i h u) so stands
              (one_event t.off i c.reached.accepted c.reached.served h c.below (slots_of h u) u so (far_in u so stands) own)

          pub gone_on : NextStands i h t t'
          gone_on = pushed i t h x c t' stands_next

          pub reached_on : x.slots < 65536 → CountsUpTo z.clock z.domain → x.clock < z.clock
              → z.clock < slot.end + most_event → IsReached i t'
          reached_on not_last counted later soon =
              reached_next i t h x c t' stands_next (off_is which) (bounds not_last counted later soon)

        -- ---- all up to the slot's end

        module _ (events : ℕ) (moved : Moves any_rule any_stands_for (λ w. stretch w slot.end) t.memory t.mail y (system x.core t.l2) x.clock
            z.memory z.mail z.domain (system z.core z.l2) z.clock)
            (along : MovesAlong any_rule any_stands_for slot.end slot.end events t.memory t.mail y (system x.core t.l2) x.clock
            z.memory z.mail z.domain (system z.core z.l2) z.clock) (past : slot.end ≤ z.clock) where
          -- any harts that it stood for come past the end with as many
          so_many : (u : Harts) → Held t.off i c.reached.accepted u → StandsFor i u t →
              let d = domain_in i h (slots_of h u) in
              let g = guards_of t.off i in
              EndsIn (setting_by g i d) (end_by g i h (slots_of h u) u.world) events (part_of h d u.world)
          so_many u so stands =
              let r = c.reached.accepted in
              let d = domain_in i h (slots_of h u) in
              let w = setting_by (guards_of t.off i) i d in
              let went = along w (part_of h d u.world) (begun i r u t so stands h c.below x c.got slot inside y got_y) in
              let now = went.stands_in.time in
              subst (λ (end : ℕ). EndsIn w end events (part_of h d u.world)) (at i r u t so stands h c.below x c.got slot inside).until
              (past_end w slot.end events (part_of h d u.world) went.state went.each (omega (arith, past, now)))

          pub gone_through : SlotEndsIn i h events t t'
          gone_through order of_harts stands =
              let u = harts_by t.off i order in
              let so = held_at i t h x c order of_harts in
              let all = whole t.off i c.reached.accepted c.reached.served h c.below (slots_of h u) own u so (far_in u so stands) in
              let more = replicate all.events h in
              let later = after_by t.off i more u in
              let ends =
              slot_ended i t h t' order all.events (slots_of h u) refl (off_is which)
              (now_stands stretch moved u later so stands all.ran) (all.ran.goes.over all.past) in
              let d = domain_in i h (slots_of h u) in
              let g = guards_of t.off i in
              let count =
              ends_once (setting_by g i d) (end_by g i h (slots_of h u) u.world) all.events events (part_of h d u.world)
              all.ends (so_many u so stands) in
              (ends.0, ends.1 ∙ count)

          pub reached_through : x.slots < 65536 → CountsUpTo z.clock z.domain → x.clock < z.clock
              → z.clock < slot.end + most_event → IsReached i t'
          reached_through not_last counted later soon =
              let ends = gone_through c.reached.order c.reached.of_harts c.reached.stands in
              reached_ended i t h x c t' (off_is which) ends.0 (bounds not_last counted later soon)
