-- Events of one hart, up to the end of the slot that it is in: what the definition has then, at each place, with all guards on or
-- with one off.
use Rattle.std.proofs.Common.{◌≡◌, ◌≢◌, ◌∙◌, ℕ, zero, suc, ◌+◌, ◌<◌, ◌≤◌, Bool, true, false, List, [], ◌∷◌, ◌++◌, replicate, ltb, ltb-true, Option, inl, inr, refl, sym, ap, subst, subst₂, arith}
use Rattle.std.specs.Prelude.{if◌then◌else◌}
use Rattle.std.proofs.lemmas.Bool.{cases_lt, ltb-false}
use Rattle.tp_base.specs.Table.{at-put_other}
use Rattle.guards.specs.declared.Guard.{Guard}
use Rattle.sched_table.specs.Schedule.{harts_in}
use Rattle.image_check.specs.Image.{Image}
use Rattle.image_check.specs.Laws.{Runnable}
use Rattle.world_view.specs.Kernel.{no_dom}
use Rattle.world_view.specs.Machine.{World, Local, Setting, Guards, guards_of, setting_by, step, stretch, dom_of, clock_of, ended_of, part_of, with_part, with_hart, event_if, step_among, open_slot}
use Rattle.world_view.specs.Harts.{Harts, Progress, IsInSlot, progress_of, domain_in, end_by, proceeds, runs, next_by, after_by, harts_by, settles}
use Rattle.world_view.specs.HartLaws.{LeftAlone}
use Rattle.world_view.proofs.opening.Separate.{separated}
use Rattle.world_view.proofs.steps.Fuel.{step_later, stretch_step, stretch_done}
use Rattle.world_view.proofs.runs.GuardLaws.{among_later, open_step, open_done}
use Rattle.world_view.proofs.harts.Always.{part-with}
use Rattle.world_view.proofs.harts.Runs.{progress-same}
use Rattle.hart_orders.specs.Off.{IsServed}
use Rattle.hart_orders.proofs.Held.{Held, LeavesOthers, next_inside, next_held, next_leaves, event_used, event_ended, end_stays}

-- ---- after more events

appended : (off : Option Guard) (i : Image) (order more : List ℕ) (s : Harts)
    → after_by off i (order ++ more) s ≡ after_by off i more (after_by off i order s)
unfolding after_by
appended off i [] more s = refl
appended off i (g ∷ order) more s = appended off i order more (next_by off i g s)

pub harts_appended : (off : Option Guard) (i : Image) (order more : List ℕ)
    → harts_by off i (order ++ more) ≡ after_by off i more (harts_by off i order)
unfolding harts_by
harts_appended off i order more = appended off i order more _

pub next_by_law : (off : Option Guard) (i : Image) (order : List ℕ) (h : ℕ)
    → harts_by off i (order ++ h ∷ []) ≡ next_by off i h (harts_by off i order)
unfolding after_by
next_by_law off i order h = harts_appended off i order (h ∷ [])

-- so many steps lead past the end of a slot, each of which begins before it
abbrev pub EndsIn : Setting → ℕ → ℕ → Local → Type 0
EndsIn w end zero x = end ≤ x.clock
EndsIn w end (suc n) x = (x.clock < end) × EndsIn w end n (step w end x)

-- in one way at most
pub ends_once : (w : Setting) (end n k : ℕ) (x : Local) → EndsIn w end n x → EndsIn w end k x → n ≡ k
ends_once w end zero zero x past over = refl
ends_once w end zero (suc k) x past (early, rest) = absurd (omega (arith, past, early))
ends_once w end (suc n) zero x (early, rest) past = absurd (omega (arith, past, early))
ends_once w end (suc n) (suc k) x (early, rest) (also, more) = ap (λ (m : ℕ). suc m) (ends_once w end n k (step w end x) rest more)

module _ (off : Option Guard) (i : Image) (r : Runnable i) (served : IsServed off i) (h : ℕ) (below : h < harts_in i.all.schedule) where
  abbrev g : Guards
  g = guards_of off i

  -- ---- what events of the hart in its slot k leave

  -- the slot is over where the clock is past its end
  pub record GoesThrough (k end : ℕ) (s later : Harts) : Type 0 where
    pub used : later.world.used ≡ s.world.used
    pub ended : ended_of h later.world ≡ ended_of h s.world
    pub soon : clock_of h later.world < end → progress_of h later ≡ record { slots = k; inside = true }
    pub over : end ≤ clock_of h later.world → progress_of h later ≡ record { slots = suc k; inside = false }
    pub held : Held off i r later
    pub left : LeavesOthers off i r h s later

  -- its domain is as f leaves it, and each other as it was
  pub record Ran (k : ℕ) (f : Setting → ℕ → Local → Local) (s later : Harts) : Type 0 where
    pub part : let d = domain_in i h k in
        part_of h d later.world ≡ f (setting_by g i d) (end_by g i h k s.world) (part_of h d s.world)
    pub doms : (e : ℕ) → e ≢ domain_in i h k → dom_of later.world e ≡ dom_of s.world e
    pub goes : GoesThrough k (end_by g i h k s.world) s later

  -- what one event after the other leaves of another hart's domain
  left_twice : (d : ℕ) (s t u : Harts) → LeftAlone i d t s → LeftAlone i d u t → LeftAlone i d u s
  left_twice d s t u one more = record {
    dom = more.dom ∙ one.dom;
    part = record {
      frames = λ f own. more.part.frames f own ∙ one.part.frames f own;
      side = more.part.side ∙ one.part.side;
      sets = λ x own. more.part.sets x own ∙ one.part.sets x own;
    };
    hart = more.hart ∙ one.hart;
    progress = more.progress ∙ one.progress;
  }

  left_here : (d : ℕ) (s : Harts) → LeftAlone i d s s
  left_here d s = record {
    dom = refl;
    part = record { frames = λ f own. refl; side = refl; sets = λ x own. refl };
    hart = refl;
    progress = refl;
  }

  pub goes_twice : (k end : ℕ) (s t u : Harts) → GoesThrough k end s t → GoesThrough k end t u → GoesThrough k end s u
  goes_twice k end s t u one more = record {
    used = more.used ∙ one.used;
    ended = more.ended ∙ one.ended;
    soon = more.soon;
    over = more.over;
    held = more.held;
    left = λ e named other. left_twice e s t u (one.left e named other) (more.left e named other);
  }

  pub goes_nowhere : (k end : ℕ) (s : Harts) → Held off i r s → progress_of h s ≡ record { slots = suc k; inside = false }
      → end ≤ clock_of h s.world → GoesThrough k end s s
  goes_nowhere k end s was ended past = record {
    used = refl;
    ended = refl;
    soon = λ early. absurd (omega (arith, early, past));
    over = λ over. ended;
    held = was;
    left = λ e named other. left_here e s;
  }

  module _ (k : ℕ) where
    abbrev d : ℕ
    d = domain_in i h k

    -- ---- one event

    module _ (s : Harts) (was : Held off i r s) (far : progress_of h s ≡ record { slots = k; inside = true }) where
      abbrev end : ℕ
      end = end_by g i h k s.world

      pub inside : IsInSlot h s
      inside = ap (λ (x : Progress). x.inside) far

      pub early : clock_of h s.world < end
      early = subst (λ (x : Progress). clock_of h s.world < end_by g i h x.slots s.world) far (was.soon h below inside)

      abbrev went : World → Bool → Harts
      went w b = if b then proceeds h s w k true else proceeds h s w (suc k) false

      next_is : next_by off i h s ≡ settles h s (event_if g.irq g i h d end s.world) k end
      unfolding runs
      next_is =
          next_inside off i r h s inside
          ∙ ap (λ (x : Progress). settles h s (runs off i h x.slots s.world) x.slots (end_by g i h x.slots s.world)) far

      -- with or without moments of all domains
      module _ (moments : Bool) (irq : g.irq ≡ moments) where
        abbrev ran : World
        ran = event_if moments g i h d end s.world

        settled : next_by off i h s ≡ went ran (ltb (clock_of h ran) end)
        unfolding settles
        settled = next_is ∙ ap (λ (b : Bool). settles h s (event_if b g i h d end s.world) k end) irq

        goes_if : (b : Bool) → ltb (clock_of h ran) end ≡ b → Held off i r (went ran b) → LeavesOthers off i r h s (went ran b)
            → GoesThrough k end s (went ran b)
        unfolding proceeds
        goes_if true test now left = record {
          used = event_used g i h d end moments s.world;
          ended = event_ended g i h d end moments s.world;
          soon = λ soon. progress-same h s ran k true;
          over = λ past. let soon = ltb-true (clock_of h ran) end test in absurd (omega (arith, soon, past));
          held = now;
          left = left;
        }
        goes_if false test now left = record {
          used = event_used g i h d end moments s.world;
          ended = event_ended g i h d end moments s.world;
          soon = λ soon. let past = ltb-false (clock_of h ran) end test in absurd (omega (arith, soon, past));
          over = λ past. progress-same h s ran (suc k) false;
          held = now;
          left = left;
        }

        pub goes_next : GoesThrough k end s (next_by off i h s)
        goes_next =
            subst (GoesThrough k end s) (sym settled)
            (goes_if (ltb (clock_of h ran) end) refl
            (subst (Held off i r) settled (next_held off i r served h below s was))
            (subst (LeavesOthers off i r h s) settled (next_leaves off i r served h below s was)))

        world_if : (b : Bool) → (went ran b).world ≡ ran
        unfolding proceeds
        world_if true = refl
        world_if false = refl

        pub world_is : (next_by off i h s).world ≡ ran
        world_is = ap (λ (t : Harts). t.world) settled ∙ world_if (ltb (clock_of h ran) end)

      pub one_event : g.irq ≡ true → Ran k step s (next_by off i h s)
      unfolding with_part with_hart
      one_event own =
          let w = world_is true own in
          record {
            part = ap (part_of h d) w ∙ part-with h d s.world (step (setting_by g i d) end (part_of h d s.world));
            doms = λ e other. ap (λ (v : World). dom_of v e) w ∙ at-put_other no_dom s.world.doms d e _ other;
            goes = goes_next true own;
          }

    -- the slot's end stays
    end_is : (s later : Harts) → ended_of h later.world ≡ ended_of h s.world → end_by g i h k later.world ≡ end_by g i h k s.world
    end_is s later same = end_stays g i h k later.world s.world same

    -- ---- all events of the slot

    -- so many of them
    pub record Whole (s : Harts) : Type 0 where
      pub events : ℕ
      pub ends : EndsIn (setting_by g i d) (end_by g i h k s.world) events (part_of h d s.world)
      pub ran : Ran k stretch s (after_by off i (replicate events h) s)
      pub past : end_by g i h k s.world ≤ clock_of h (after_by off i (replicate events h) s).world

    module _ (own : g.irq ≡ true) where
      none_left : (s : Harts) → Held off i r s → progress_of h s ≡ record { slots = suc k; inside = false }
          → end_by g i h k s.world ≤ clock_of h s.world → Whole s
      unfolding after_by
      none_left s was ended past = record {
        events = 0;
        ends = past;
        ran = record {
          part = sym (stretch_done (setting_by g i d) (separated i r).timed (end_by g i h k s.world) (part_of h d s.world) past);
          doms = λ e other. refl;
          goes = goes_nowhere k (end_by g i h k s.world) s was ended past;
        };
        past = past;
      }

      one_more : (s : Harts) (was : Held off i r s) → progress_of h s ≡ record { slots = k; inside = true }
          → Whole (next_by off i h s) → Whole s
      unfolding after_by
      one_more s was far rest =
          let one = one_event s was far own in
          let later = after_by off i (replicate rest.events h) (next_by off i h s) in
          let same : end_by g i h k (next_by off i h s).world ≡ end_by g i h k s.world = end_is s (next_by off i h s) one.goes.ended in
          record {
            events = suc rest.events;
            ends = (
              early s was far,
              subst₂ (λ (n : ℕ) (x : Local). EndsIn (setting_by g i d) n rest.events x) same one.part rest.ends,
            );
            ran = record {
              part =
                  rest.ran.part
                  ∙ ap (λ (n : ℕ). stretch (setting_by g i d) n (part_of h d (next_by off i h s).world)) same
                  ∙ ap (λ (x : Local). stretch (setting_by g i d) (end_by g i h k s.world) x) one.part
                  ∙ sym (stretch_step (setting_by g i d) (separated i r).timed (end_by g i h k s.world) (part_of h d s.world) (early s was far));
              doms = λ e other. rest.ran.doms e other ∙ one.doms e other;
              goes =
                  goes_twice k (end_by g i h k s.world) s (next_by off i h s) later one.goes
                  (subst (λ (n : ℕ). GoesThrough k n (next_by off i h s) later) same rest.ran.goes);
            };
            past = subst (λ (n : ℕ). n ≤ clock_of h later.world) same rest.past;
          }

      -- each event takes a cycle or more
      within : (n : ℕ) (s : Harts) → Held off i r s → progress_of h s ≡ record { slots = k; inside = true }
          → end_by g i h k s.world ≤ clock_of h s.world + n → Whole s
      within zero s was far left = let soon = early s was far in absurd (omega (arith, soon, left))
      within (suc n) s was far left =
          let one = one_event s was far own in
          let later = step_later (setting_by g i d) (separated i r).timed (end_by g i h k s.world) (part_of h d s.world) (early s was far) in
          let now = ap (λ (x : Local). x.clock) one.part in
          let same = end_is s (next_by off i h s) one.goes.ended in
          one_more s was far
          (elim (cases_lt (clock_of h (next_by off i h s).world) (end_by g i h k s.world)) [
            | inl soon ↦ within n (next_by off i h s) one.goes.held (one.goes.soon soon) (omega (arith, left, later, now, same))
            | inr past ↦ none_left (next_by off i h s) one.goes.held (one.goes.over past) (omega (arith, past, same))
          ])

      pub whole : (s : Harts) → Held off i r s → progress_of h s ≡ record { slots = k; inside = true } → Whole s
      whole s was far = within (end_by g i h k s.world) s was far (omega arith)

-- ---- all events of a slot in which moments of all domains come

module _ (off : Option Guard) (i : Image) (r : Runnable i) (served : IsServed off i) (below : 0 < harts_in i.all.schedule)
    (all : (guards_of off i).irq ≡ false) (k : ℕ) where
  abbrev go : Guards
  go = guards_of off i

  abbrev whose : ℕ
  whose = domain_in i 0 k

  pub record WholeOpen (s : Harts) : Type 0 where
    pub events : ℕ
    pub world : (after_by off i (replicate events 0) s).world ≡ open_slot go i whose (end_by go i 0 k s.world) s.world
    pub goes : GoesThrough off i r served 0 below k (end_by go i 0 k s.world) s (after_by off i (replicate events 0) s)
    pub past : end_by go i 0 k s.world ≤ clock_of 0 (after_by off i (replicate events 0) s).world

  none_open : (s : Harts) → Held off i r s → progress_of 0 s ≡ record { slots = suc k; inside = false }
      → end_by go i 0 k s.world ≤ clock_of 0 s.world → WholeOpen s
  unfolding after_by
  none_open s was ended past = record {
    events = 0;
    world = sym (open_done i (separated i r) go whose (end_by go i 0 k s.world) s.world past);
    goes = goes_nowhere off i r served 0 below k (end_by go i 0 k s.world) s was ended past;
    past = past;
  }

  module _ (s : Harts) (was : Held off i r s) (far : progress_of 0 s ≡ record { slots = k; inside = true }) where
    abbrev ends : ℕ
    ends = end_by go i 0 k s.world

    abbrev once : Harts
    once = next_by off i 0 s

    now_is : once.world ≡ step_among go i 0 whose ends s.world
    now_is = world_is off i r served 0 below k s was far false all

    goes_one : GoesThrough off i r served 0 below k ends s once
    goes_one = goes_next off i r served 0 below k s was far false all

    soon_in : clock_of 0 s.world < ends
    soon_in = early off i r served 0 below k s was far

    same_end : end_by go i 0 k once.world ≡ ends
    same_end = end_stays go i 0 k once.world s.world goes_one.ended

    later_on : clock_of 0 s.world < clock_of 0 once.world
    later_on =
        subst (λ (w : World). clock_of 0 s.world < clock_of 0 w) (sym now_is)
        (among_later i (separated i r) go whose ends s.world soon_in)

    one_more_open : WholeOpen once → WholeOpen s
    unfolding after_by
    one_more_open rest =
        let later = after_by off i (replicate rest.events 0) once in
        record {
          events = suc rest.events;
          world =
              rest.world
              ∙ ap (λ (n : ℕ). open_slot go i whose n once.world) same_end
              ∙ ap (open_slot go i whose ends) now_is
              ∙ sym (open_step i (separated i r) go whose ends s.world soon_in);
          goes =
              goes_twice off i r served 0 below k ends s once later goes_one
              (subst (λ (n : ℕ). GoesThrough off i r served 0 below k n once later) same_end rest.goes);
          past = subst (λ (n : ℕ). n ≤ clock_of 0 later.world) same_end rest.past;
        }

  within_open : (n : ℕ) (s : Harts) → Held off i r s → progress_of 0 s ≡ record { slots = k; inside = true }
      → end_by go i 0 k s.world ≤ clock_of 0 s.world + n → WholeOpen s
  within_open zero s was far left = let soon = soon_in s was far in absurd (omega (arith, soon, left))
  within_open (suc n) s was far left =
      let one = goes_one s was far in
      let later = later_on s was far in
      let same = same_end s was far in
      one_more_open s was far
      (elim (cases_lt (clock_of 0 (next_by off i 0 s).world) (end_by go i 0 k s.world)) [
        | inl soon ↦ within_open n (next_by off i 0 s) one.held (one.soon soon) (omega (arith, left, later, same))
        | inr past ↦ none_open (next_by off i 0 s) one.held (one.over past) (omega (arith, past, same))
      ])

  pub whole_open : (s : Harts) → Held off i r s → progress_of 0 s ≡ record { slots = k; inside = true } → WholeOpen s
  whole_open s was far = within_open (end_by go i 0 k s.world) s was far (omega arith)
