-- An image's harts are one of the machines that the laws of orders are about.
use Rattle.std.proofs.Common.{None, ◌≡◌, ◌≢◌, ◌⊎◌, inl, inr, ℕ, ◌<◌, Bool, true, false, ltb, List, [], ◌∷◌, ◌++◌, ap, ap₂, sym, ◌∙◌, subst}
use Rattle.event_orders.specs.Machine.{IsMachine}
use Rattle.image_check.specs.Image.{Image}
use Rattle.image_check.specs.Laws.{Runnable}
use Rattle.sched_table.specs.Schedule.{harts_in}
use Rattle.mail_slots.specs.Sides.{Arrival}
use Rattle.world_view.specs.Mail.{Came, switched_boxes, came_to}
use Rattle.world_view.specs.Machine.{Hart, World, caches_of, clock_of, noted}
use Rattle.world_view.specs.Relations.{Resident, InTime}
use Rattle.world_view.specs.Harts.{Harts, Progress, image_on, domain_in, end_on, progress_of, slots_of, runs, next, harts}
use Rattle.world_view.proofs.harts.Events.{switched}
use Rattle.world_view.proofs.harts.Runs.{next_so}
use Rattle.world_view.proofs.harts.Clocks.{hart_stays}
use Rattle.world_view.proofs.harts.Events.{begun_world}
use Rattle.world_view.proofs.harts.Always.{next_out}
use Rattle.hart_machine.specs.HartMachine.{IsReached, SameParts, SameHart, waiting, SameNobodys, SameShared, machine_of}
use Rattle.hart_machine.proofs.Boxes.{SameLeaving, comes_alike, switched_alike}
use Rattle.hart_machine.proofs.Equal.{same_hart, nobodys_back, nobodys_on, same_shared}
use Rattle.hart_machine.proofs.Work.{IsIn, runs_leaves, runs_waiting, runs_same}
use Rattle.hart_machine.proofs.Turns.{leaving_same, switched_same}
use Rattle.hart_machine.proofs.Costs.{switched_leaves, cycles_alike}
use Rattle.hart_machine.proofs.Events as events
use Rattle.hart_machine.proofs.Events.{stands, is_early, place, cycles, works_world, works_progress, works_used, works_came, leaving, turns_progress, turns_used, turns_boxes, turns_came}
use Rattle.hart_machine.proofs.Reached as reached
use Rattle.hart_machine.proofs.Reached.{next_reached, first_of, none_used, run, is_in, is_in_time, begun_soon}

-- what is noted of a switch is no hart's
noted_same : (i : Image) (h e f c d : ℕ) (w v : World) → SameParts i h w v → SameParts i h (noted e c w) (noted f d v)
noted_same i h e f c d w v same = record {
  hart = same.hart;
  domains = λ x id home. let a = same.domains x id home in
      record { dom = a.dom; part = a.part };
}

module _ (i : Image) (r : Runnable i) where
  -- ---- what is nobody's

  work_shared : (h : ℕ) (s : Harts) → h < harts_in i.all.schedule → IsReached i s → (progress_of h s).inside ≡ true
      → SameShared i (next i h s) s
  work_shared h s there a now = record {
    used = works_used i h s now;
    came = works_came i h s now;
    waiting =
        ap (λ (w : World). waiting w.storage.boxes) (works_world i h s now)
        ∙ runs_waiting i r h there (slots_of h s) s.world (is_in i r s a h there now);
    nobodys = subst (λ (w : World). SameNobodys i w s.world) (sym (works_world i h s now))
        (runs_leaves i r h there (slots_of h s) s.world (is_in i r s a h there now));
  }

  turn_leaves : (h : ℕ) (s : Harts) → h < harts_in i.all.schedule → IsReached i s → (progress_of h s).inside ≡ false
      → Resident i.all.hardware (caches_of 0 s.world) → SameNobodys i (next i h s).world s.world
  turn_leaves h s there a out here =
      let k = slots_of h s in
      let left = switched_leaves i r h there k s.world (record { time = is_in_time i r s a h there out; there = here }) in
      subst (λ (w : World). SameNobodys i w s.world) (sym (next_out i h s out))
      (record { frames = left.frames; sets = left.sets; kernels = left.kernels })

  -- ---- another hart

  others : (g h : ℕ) (s : Harts) → h < harts_in i.all.schedule → g ≢ h → IsReached i s → SameHart i g (next i h s) s
  others g h s there ne a =
      let stays = hart_stays i g h s ne in
      let left = (next_so i r h there s (run i r s a)).left in
      record {
        parts = record {
          hart = stays.hart;
          domains = λ d id home. let its = left d id (λ q. ne (sym home ∙ sym q)) in
              record { dom = its.dom; part = record { frames = its.part.frames; side = its.part.side; sets = its.part.sets } };
        };
        progress = stays.progress;
      }

  module _ (h : ℕ) (s t : Harts) (there : h < harts_in i.all.schedule) (a : IsReached i s) (b : IsReached i t)
      (same : SameHart i h s t) where
    abbrev k : ℕ
    k = slots_of h s

    slots : slots_of h t ≡ k
    slots = ap (λ (x : Progress). x.slots) (sym same.progress)

    inside_too : (b : Bool) → (progress_of h s).inside ≡ b → (progress_of h t).inside ≡ b
    inside_too b e = ap (λ (x : Progress). x.inside) (sym same.progress) ∙ e

    -- ---- an event of a slot

    module _ (now : (progress_of h s).inside ≡ true) where
      now_too : (progress_of h t).inside ≡ true
      now_too = inside_too true now

      ran_too : (next i h t).world ≡ runs None i h k t.world
      ran_too = works_world i h t now_too ∙ ap (λ (n : ℕ). runs None i h n t.world) slots

      ran_same : SameParts i h (runs None i h k s.world) (runs None i h k t.world)
      ran_same =
          runs_same i r h there k s.world t.world (is_in i r s a h there now)
          (subst (λ (n : ℕ). IsIn i r h there n t.world) slots (is_in i r t b h there now_too)) same.parts

      early_alike : is_early i h s ≡ is_early i h t
      early_alike =
          ap (λ (x : Hart). ltb x.clock (end_on i h k)) ran_same.hart
          ∙ ap (λ (n : ℕ). ltb (clock_of h (runs None i h n t.world)) (end_on i h n)) (sym slots)

      pub work : SameHart i h (next i h s) (next i h t)
      work = record {
        parts =
            subst (λ (w : World). SameParts i h w (next i h t).world) (sym (works_world i h s now))
            (subst (SameParts i h (runs None i h k s.world)) (sym ran_too) ran_same);
        progress = works_progress i h s now ∙ ap₂ stands (sym slots) early_alike ∙ sym (works_progress i h t now_too);
      }

    -- ---- a switch

    module _ (out : (progress_of h s).inside ≡ false) where
      out_too : (progress_of h t).inside ≡ false
      out_too = inside_too false out

      time_too : InTime (image_on i h) h k t.world
      time_too = subst (λ (n : ℕ). InTime (image_on i h) h n t.world) slots (is_in_time i r t b h there out_too)

      begun_same : waiting s.world.storage.boxes ≡ waiting t.world.storage.boxes
          → SameParts i h (begun_world i h s) (begun_world i h t)
      begun_same waits =
          subst (λ (n : ℕ). SameParts i h (begun_world i h s)
          (noted (place i h t n) (cycles i h t n t.world) (switched i r h there n t.world))) (sym slots)
          (noted_same i h _ _ _ _ (switched i r h there k s.world) (switched i r h there k t.world)
          (switched_same i r h there k s.world t.world (is_in_time i r s a h there out) time_too same.parts waits))

      pub turn : waiting s.world.storage.boxes ≡ waiting t.world.storage.boxes → SameHart i h (next i h s) (next i h t)
      turn waits = record {
        parts =
            subst (λ (w : World). SameParts i h w (next i h t).world) (sym (next_out i h s out))
            (subst (SameParts i h (begun_world i h s)) (sym (next_out i h t out_too)) (begun_same waits));
        progress = turns_progress i h s out (begun_soon i r s a h there out)
            ∙ ap (λ (n : ℕ). record { slots = n; inside = true }) (sym slots)
            ∙ sym (turns_progress i h t out_too (begun_soon i r t b h there out_too));
      }

      -- ---- boxes, and what came in them

      sides : SameLeaving (leaving i h s k) s.world.storage.boxes t.world.storage.boxes
      sides = leaving_same i r h there k s.world t.world same.parts

      waits_alike : waiting s.world.storage.boxes ≡ waiting t.world.storage.boxes
          → waiting (next i h s).world.storage.boxes ≡ waiting (next i h t).world.storage.boxes
      waits_alike waits =
          ap waiting (turns_boxes i h s out)
          ∙ switched_alike (leaving i h s k) s.world.storage.boxes t.world.storage.boxes waits sides (domain_in i h k)
          ∙ ap (λ (n : ℕ). waiting (switched_boxes (leaving i h t n) (domain_in i h n) t.world.storage.boxes)) (sym slots)
          ∙ sym (ap waiting (turns_boxes i h t out_too))

      came_alike : SameShared i s t → (next i h s).world.came ≡ (next i h t).world.came
      came_alike shared =
          let words =
          comes_alike (leaving i h s k) s.world.storage.boxes t.world.storage.boxes shared.waiting sides (domain_in i h k) in
          turns_came i h s out
          ∙ ap₂ (λ (xs : List Came) (ws : Arrival). xs ++ record { domain = domain_in i h k; words = ws } ∷ []) shared.came words
          ∙ ap (λ (n : ℕ). t.world.came ++ came_to (leaving i h t n) (domain_in i h n) t.world.storage.boxes ∷ []) (sym slots)
          ∙ sym (turns_came i h t out_too)

      -- ---- what it took

      abbrev IsFirstOr : Harts → Type 0
      IsFirstOr x = (x ≡ harts i []) ⊎ Resident i.all.hardware (caches_of 0 x.world)

      took_alike : Resident i.all.hardware (caches_of 0 s.world) → Resident i.all.hardware (caches_of 0 t.world)
          → cycles i h s k s.world ≡ cycles i h t (slots_of h t) t.world
      took_alike here here_too =
          cycles_alike i r h there s.world t.world same.parts k
          (record { time = is_in_time i r s a h there out; there = here })
          (record { time = time_too; there = here_too })
          ∙ ap (λ (n : ℕ). cycles i h t n t.world) (sym slots)

      shared_if : SameShared i s t → IsFirstOr s → IsFirstOr t → SameShared i (next i h s) (next i h t)
      shared_if shared (inl first) x =
          let none = sym shared.used ∙ ap (λ (y : Harts). y.world.used) first ∙ none_used i in
          let equal : s ≡ t = first ∙ sym (first_of i r t b none) in
          subst (λ (y : Harts). SameShared i (next i h s) (next i h y)) equal ((same_shared i).itself (next i h s))
      shared_if shared (inr here) (inl first) =
          let none = shared.used ∙ ap (λ (y : Harts). y.world.used) first ∙ none_used i in
          let equal : s ≡ t = first_of i r s a none ∙ sym first in
          subst (λ (y : Harts). SameShared i (next i h s) (next i h y)) equal ((same_shared i).itself (next i h s))
      shared_if shared (inr here) (inr here_too) = record {
        used =
            turns_used i h s out
            ∙ ap₂ (λ (us : List (ℕ × ℕ)) (c : ℕ). us ++ (place i h s k, c) ∷ []) shared.used (took_alike here here_too)
            ∙ ap (λ (n : ℕ). t.world.used ++ (place i h t n, cycles i h t (slots_of h t) t.world) ∷ []) (sym slots)
            ∙ sym (turns_used i h t out_too);
        came = came_alike shared;
        waiting = waits_alike shared.waiting;
        nobodys =
            nobodys_on i (next i h s).world s.world (next i h t).world (turn_leaves h s there a out here)
            (nobodys_on i s.world t.world (next i h t).world shared.nobodys
            (nobodys_back i (next i h t).world t.world (turn_leaves h t there b out_too here_too)));
      }

      pub turn_shared : SameShared i s t → SameShared i (next i h s) (next i h t)
      turn_shared shared = shared_if shared (run i r s a).shared (run i r t b).shared

  -- ---- all of it

  pub is_machine : IsMachine (machine_of i)
  is_machine = record {
    same = same_hart i;
    shared = same_shared i;
    as_far = λ h s t e. record {
      clock = ap (λ (x : Hart). x.clock) e.parts.hart;
      slots = ap (λ (x : Progress). x.slots) e.progress;
      inside = ap (λ (x : Progress). x.inside) e.progress;
    };
    sound = λ h s there a. next_reached i h s there a;
    others = λ g h s there ne a. others g h s there ne a;
    work = λ h s t there a b now same. work h s t there a b same now;
    work_shared = work_shared;
    turn = λ h s t there a b out same shared. turn h s t there a b same out shared.waiting;
    turn_shared = λ h s t there a b out same shared. turn_shared h s t there a b same out shared;
    rises = λ h s there a. reached.rises i r s a h there;
    early = λ h s there a now. reached.early i r s a h there now;
    before = λ h n s there a less. reached.before i r s a h there n less;
    begins = λ h s there a out. ap (λ (x : Progress). x.inside) (turns_progress i h s out (begun_soon i r s a h there out));
    begins_slot = λ h s there a out. ap (λ (x : Progress). x.slots) (turns_progress i h s out (begun_soon i r s a h there out));
    goes_on = λ h s now after.
        ap (λ (x : Progress). x.slots) (works_progress i h s now)
        ∙ events.stands_goes (slots_of h s) (is_early i h s) (ap (λ (x : Progress). x.inside) (sym (works_progress i h s now)) ∙ after);
    ends = λ h s now after.
        ap (λ (x : Progress). x.slots) (works_progress i h s now)
        ∙ events.stands_ends (slots_of h s) (is_early i h s) (ap (λ (x : Progress). x.inside) (sym (works_progress i h s now)) ∙ after);
  }
