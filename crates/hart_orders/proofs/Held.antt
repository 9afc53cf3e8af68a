-- What holds of an image's harts after every order of events, also where a guard is off: each domain's facts, how far each hart
-- is, how many switches there were, and what an event leaves of another hart.
use Rattle.std.proofs.Common.{◌≡◌, ◌≢◌, ◌∙◌, ℕ, zero, suc, ◌+◌, ◌<◌, ◌≤◌, Bool, true, false, true≢false, List, [], ◌∷◌, ◌++◌, length, ltb, ltb-true, Option, Some, None, inl, inr, ◌⊎◌, refl, sym, ap, subst, arith}
use Rattle.std.specs.Prelude.{if◌then◌else◌}
use Rattle.std.specs.List.{All}
use Rattle.std.proofs.lemmas.Bool.{cases_eq, ltb-false}
use Rattle.std.proofs.lemmas.List.Elements.{All-head, All-tail}
use Rattle.tp_base.specs.Table.{at, put, at-put_same, at-put_other, at-empty}
use Rattle.guards.specs.declared.Guard.{Guard}
use Rattle.guards.specs.declared.Guard.TheVariants as guard
use Rattle.sched_table.specs.Schedule.{entry_in, switch_entry, place_on, harts_in}
use Rattle.sched_table.proofs.Harts.{hart_there_law, domain_hart_law}
use Rattle.image_check.specs.Image.{Image}
use Rattle.image_check.specs.Laws.{Runnable}
use Rattle.call_table.specs.Domain.{is_running}
use Rattle.world_view.specs.Machine.{Hart, World, Guards, guarded, guards_of, no_hart, Owned, clock_of, ended_of, dom_of, ended_by, ends_by, with_part, with_hart, with_end, delivered_or_step, step_among, first_due, event_if, noted, cycles_on, switch_on, with_cold}
use Rattle.world_view.specs.Used.{count_of}
use Rattle.world_view.specs.Relations.{IsDomain}
use Rattle.world_view.specs.Harts.{Harts, Progress, IsOnOneHart, IsInSlot, IsOutside, image_on, domain_in, hart_of_domain, progress_of, slots_of, switches_of, proceeds, settles, end_on, end_by, with_end_by, begins, runs, goes_on, next_by, after_by, harts_by, all_cold}
use Rattle.world_view.specs.HartLaws.{AreHartsOf, LeftAlone}
use Rattle.world_view.proofs.opening.Separate.{Separated, separated}
use Rattle.world_view.proofs.facts.FactsLaws.{AllBoth, step_keeps_all, among_keeps}
use Rattle.world_view.proofs.steps.CodeLaws.{count_of-push_same, count_of-push_other}
use Rattle.world_view.proofs.harts.OnHart.{separated_on}
use Rattle.world_view.proofs.harts.OneHart.{one_hart}
use Rattle.world_view.proofs.harts.Events.{IsHart}
use Rattle.world_view.proofs.harts.Runs.{Running, Next, next_so, progress-same}
use Rattle.world_view.proofs.harts.Isolation.{running}
use Rattle.hart_orders.specs.Off.{IsServed}

-- of an image, whichever guard is off, its hart's entries say the same
pub same_guards : (off : Option Guard) (i : Image) (h : ℕ) → guards_of off (image_on i h) ≡ guards_of off i
unfolding guarded
same_guards None i h = refl
same_guards (Some guard.Flush) i h = refl
same_guards (Some guard.Prefetch) i h = refl
same_guards (Some guard.Pad) i h = refl
same_guards (Some guard.Colour) i h = refl
same_guards (Some guard.Clone) i h = refl
same_guards (Some guard.Irq) i h = refl

-- ---- an event in a slot

module _ (g : Guards) (i : Image) (h d end : ℕ) where
  among_used : (w : World) (o : Option Owned) → (delivered_or_step g i h d end w o).used ≡ w.used
  unfolding with_part with_hart
  among_used w None = refl
  among_used w (Some x) = refl

  pub event_used : (b : Bool) (w : World) → (event_if b g i h d end w).used ≡ w.used
  unfolding step_among with_part with_hart
  event_used true w = refl
  event_used false w = among_used w (if is_running (dom_of w d).status then first_due i h w i.all.domains else None)

  ended_with : (w : World) (x : Hart) → x.ended ≡ ended_of h w → (at no_hart (put w.harts h x) h).ended ≡ ended_of h w
  ended_with w x same = ap (λ (y : Hart). y.ended) (at-put_same no_hart w.harts h x) ∙ same

  among_ended : (w : World) (o : Option Owned) → ended_of h (delivered_or_step g i h d end w o) ≡ ended_of h w
  unfolding with_part with_hart
  among_ended w None = ended_with w _ refl
  among_ended w (Some x) = ended_with w _ refl

  -- it is known before when the slot ends
  pub event_ended : (b : Bool) (w : World) → ended_of h (event_if b g i h d end w) ≡ ended_of h w
  unfolding step_among with_part with_hart
  event_ended true w = ended_with w _ refl
  event_ended false w = among_ended w (if is_running (dom_of w d).status then first_due i h w i.all.domains else None)

pub end_stays : (g : Guards) (i : Image) (h k : ℕ) (w v : World) → ended_of h w ≡ ended_of h v
    → end_by g i h k w ≡ end_by g i h k v
end_stays g i h k w v same = ap (λ (n : ℕ). if g.pad then end_on i h k else n) same

module _ (off : Option Guard) (i : Image) (r : Runnable i) where
  abbrev g : Guards
  g = guards_of off i

  abbrev all : Separated i
  all = separated i r

  abbrev many : ℕ
  many = harts_in i.all.schedule

  pub record Held (s : Harts) : Type 0 where
    pub facts : AllBoth i all s.world
    pub soon : (h : ℕ) → h < many → IsInSlot h s → clock_of h s.world < end_by g i h (slots_of h s) s.world
    pub over : (h : ℕ) → h < many → IsOutside h s
        → ended_by g (image_on i h) h (slots_of h s) s.world ≤ clock_of h s.world
    pub counted : (e : ℕ) → e < length i.all.schedule
        → count_of e s.world.used ≤ switches_of (entry_in i.all.schedule e).hart s
    pub all_on : off ≡ None → Running i r s

  -- what is left of other harts
  abbrev pub LeavesOthers : ℕ → Harts → Harts → Type 0
  LeavesOthers h s later = (d : ℕ) → IsDomain i d → h ≢ hart_of_domain i d → LeftAlone i d later s

  -- the next event of a hart that is in a slot, and of one that isn't
  pub next_inside : (h : ℕ) (s : Harts) → IsInSlot h s
      → next_by off i h s ≡ settles h s (runs off i h (slots_of h s) s.world) (slots_of h s) (end_by g i h (slots_of h s) s.world)
  unfolding next_by goes_on
  next_inside h s inside = ap (λ (b : Bool). if b then goes_on off i h s else begins off i h s) inside

  -- as its next slot begins
  unfoldable pub begun_by : ℕ → Harts → World
  begun_by h s =
      let own = image_on i h in
      let k = slots_of h s in
      with_end_by (guards_of off own) i h k
      (noted (place_on i.all.schedule h (switch_entry own.all.schedule k))
      (cycles_on (guards_of off own) own h k s.world) (switch_on (guards_of off own) own h k s.world))

  pub next_outside : (h : ℕ) (s : Harts) → IsOutside h s
      → next_by off i h s ≡ settles h s (begun_by h s) (slots_of h s) (end_by g i h (slots_of h s) (begun_by h s))
  unfolding next_by begins begun_by
  next_outside h s outside =
      ap (λ (b : Bool). if b then goes_on off i h s else begins off i h s) outside
      ∙ ap (λ (q : Guards). settles h s (begun_by h s) (slots_of h s) (end_by q i h (slots_of h s) (begun_by h s)))
      (same_guards off i h)

-- ---- with all guards on

held_on : (i : Image) (r : Runnable i) (s : Harts) → Running i r s → Held None i r s
unfolding guarded
held_on i r s was = record {
  facts = was.facts;
  soon = λ h l inside. (subst (λ (b : Bool). IsHart i b h (slots_of h s) s.world) inside (was.hart h l)).soon;
  over = λ h l outside. (subst (λ (b : Bool). IsHart i b h (slots_of h s) s.world) outside (was.hart h l)).over;
  counted = was.counted;
  all_on = λ all. was;
}

-- ---- an image of one hart

module _ (off : Option Guard) (i : Image) (r : Runnable i) (one : IsOnOneHart i) where
  abbrev g1 : Guards
  g1 = guards_of off i

  abbrev all1 : Separated i
  all1 = separated i r

  abbrev many1 : ℕ
  many1 = harts_in i.all.schedule

  first_is : (h : ℕ) → h < many1 → 0 ≡ h
  first_is h l = omega (arith, l, one)

  pub home_is : (e : ℕ) → e < length i.all.schedule → 0 ≡ (entry_in i.all.schedule e).hart
  home_is e there =
      first_is _ (subst (λ (n : ℕ). n < many1) (domain_hart_law i.all.schedule e r.harts there)
      (hart_there_law i.all.schedule (entry_in i.all.schedule e).domain r.schedule.some))

  -- what holds of it without its progress
  record Lasts (k : ℕ) (w : World) : Type 0 where
    facts : AllBoth i all1 w
    counted : (e : ℕ) → e < length i.all.schedule → count_of e w.used ≤ k + 1

  module _ (s : Harts) (w : World) (k : ℕ) (was : Lasts k w) where
    proceeds_so : (n : ℕ) (b : Bool) → (b ≡ true → clock_of 0 w < end_by g1 i 0 n w)
        → (b ≡ false → ended_by g1 (image_on i 0) 0 n w ≤ clock_of 0 w) → k + 1 ≤ (if b then n + 1 else n)
        → (off ≡ None → Running i r (proceeds 0 s w n b)) → Held off i r (proceeds 0 s w n b)
    unfolding proceeds
    proceeds_so n b soon over more run =
        let q = progress-same 0 s w n b in
        record {
          facts = was.facts;
          soon = λ h l inside.
              subst (λ (x : ℕ). clock_of x w < end_by g1 i x (slots_of x (proceeds 0 s w n b)) w) (first_is h l)
              (subst (λ (p : Progress). clock_of 0 w < end_by g1 i 0 p.slots w) (sym q)
              (soon (sym (ap (λ (p : Progress). p.inside) q)
              ∙ ap (λ (x : ℕ). (progress_of x (proceeds 0 s w n b)).inside) (first_is h l) ∙ inside)));
          over = λ h l outside.
              subst (λ (x : ℕ). ended_by g1 (image_on i x) x (slots_of x (proceeds 0 s w n b)) w ≤ clock_of x w) (first_is h l)
              (subst (λ (p : Progress). ended_by g1 (image_on i 0) 0 p.slots w ≤ clock_of 0 w) (sym q)
              (over (sym (ap (λ (p : Progress). p.inside) q)
              ∙ ap (λ (x : ℕ). (progress_of x (proceeds 0 s w n b)).inside) (first_is h l) ∙ outside)));
          counted = λ e there.
              subst (λ (x : ℕ). count_of e w.used ≤ switches_of x (proceeds 0 s w n b)) (home_is e there)
              (subst (λ (p : Progress). count_of e w.used ≤ (if p.inside then p.slots + 1 else p.slots)) (sym q)
              (let few = was.counted e there in omega (arith, few, more)));
          all_on = run;
        }

    settles_if : (b : Bool) → ltb (clock_of 0 w) (end_by g1 i 0 k w) ≡ b → let later =
        (if b then proceeds 0 s w k true else proceeds 0 s w (suc k) false) in
        (off ≡ None → Running i r later) → Held off i r later
    settles_if true test run =
        proceeds_so k true (λ q. ltb-true _ _ test) (λ q. absurd (cc q)) (omega arith) run
    settles_if false test run =
        proceeds_so (suc k) false (λ q. absurd (cc q)) (λ q. ltb-false _ _ test) (omega arith) run

    settles_so : (end : ℕ) → end ≡ end_by g1 i 0 k w → (off ≡ None → Running i r (settles 0 s w k end))
        → Held off i r (settles 0 s w k end)
    unfolding settles
    settles_so end is run =
        subst (λ (e : ℕ). (off ≡ None → Running i r (settles 0 s w k e)) → Held off i r (settles 0 s w k e)) (sym is)
        (settles_if (ltb (clock_of 0 w) (end_by g1 i 0 k w)) refl) run

  event_facts : (b : Bool) (d end : ℕ) (w : World) → IsDomain i d → AllBoth i all1 w → AllBoth i all1 (event_if b g1 i 0 d end w)
  event_facts true d end w is before = step_keeps_all i all1 g1 0 d end w is before
  event_facts false d end w is before = among_keeps i all1 g1 d end w is before

  first_below : 0 < many1
  first_below = omega (arith, one)

  counted_here : (s : Harts) → Held off i r s → (e : ℕ) → e < length i.all.schedule → count_of e s.world.used ≤ switches_of 0 s
  counted_here s was e there = subst (λ (x : ℕ). count_of e s.world.used ≤ switches_of x s) (sym (home_is e there)) (was.counted e there)

  goes_so : (s : Harts) → Held off i r s → IsInSlot 0 s → (off ≡ None → Running i r (next_by off i 0 s)) → Held off i r (next_by off i 0 s)
  unfolding runs
  goes_so s was inside run =
      let k = slots_of 0 s in
      let d = domain_in i 0 k in
      let end = end_by g1 i 0 k s.world in
      let now = runs off i 0 k s.world in
      let q = next_inside off i r 0 s inside in
      subst (Held off i r) (sym q)
      (settles_so s now k
      (record {
        facts = event_facts g1.irq d end s.world ((separated_on i r 0 first_below).named k) was.facts;
        counted = λ e there.
            let few : count_of e s.world.used ≤ k + 1 =
            subst (λ (b : Bool). count_of e s.world.used ≤ (if b then k + 1 else k)) inside (counted_here s was e there) in
            subst (λ (us : List (ℕ × ℕ)). count_of e us ≤ k + 1) (sym (event_used g1 i 0 d end g1.irq s.world)) few;
      })
      end (end_stays g1 i 0 k s.world now (sym (event_ended g1 i 0 d end g1.irq s.world)))
      (λ none. subst (Running i r) q (run none)))

  noted_if : (b : Bool) (w : World) (end k : ℕ) → Lasts k w → Lasts k (if b then w else with_end 0 w end)
  unfolding with_end
  noted_if true w end k was = was
  noted_if false w end k was = record { facts = was.facts; counted = was.counted }

  counts_if : (e place cycles : ℕ) (us : List (ℕ × ℕ)) → (place ≡ e) ⊎ (place ≢ e)
      → count_of e (us ++ (place, cycles) ∷ []) ≤ count_of e us + 1
  counts_if e place cycles us (inl same) =
      let more = count_of-push_same e cycles us in
      subst (λ (n : ℕ). count_of e (us ++ (n, cycles) ∷ []) ≤ count_of e us + 1) (sym same) (omega (arith, more))
  counts_if e place cycles us (inr other) =
      let none = count_of-push_other e place cycles us other in omega (arith, none)

  begins_so : (s : Harts) → Held off i r s → IsOutside 0 s → (off ≡ None → Running i r (next_by off i 0 s)) → Held off i r (next_by off i 0 s)
  unfolding begun_by switch_on with_hart
  begins_so s was outside run =
      let k = slots_of 0 s in
      let own = image_on i 0 in
      let q0 = guards_of off own in
      let place = place_on i.all.schedule 0 (switch_entry own.all.schedule k) in
      let w = noted place (cycles_on q0 own 0 k s.world) (switch_on q0 own 0 k s.world) in
      let q = next_outside off i r 0 s outside in
      subst (Held off i r) (sym q)
      (settles_so s (begun_by off i r 0 s) k
      (noted_if q0.pad w (ends_by q0 own k (clock_of 0 w)) k
      (record {
        facts = λ d id. let its = was.facts d id in record { facts = its.facts; rights = its.rights };
        counted = λ e there.
            let few : count_of e s.world.used ≤ k =
            subst (λ (b : Bool). count_of e s.world.used ≤ (if b then k + 1 else k)) outside (counted_here s was e there) in
            let more = counts_if e place (cycles_on q0 own 0 k s.world) s.world.used (cases_eq place e) in
            omega (arith, few, more);
      }))
      (end_by g1 i 0 k (begun_by off i r 0 s)) refl (λ none. subst (Running i r) q (run none)))

  next_if : (b : Bool) (s : Harts) → Held off i r s → (progress_of 0 s).inside ≡ b
      → (off ≡ None → Running i r (next_by off i 0 s)) → Held off i r (next_by off i 0 s)
  next_if true s was is run = goes_so s was is run
  next_if false s was is run = begins_so s was is run

-- ---- after each event, and every order of them

module _ (off : Option Guard) (i : Image) (r : Runnable i) where
  run_next : (h : ℕ) → h < harts_in i.all.schedule → (s : Harts) → Held off i r s → off ≡ None → Next i r h s (next_by off i h s)
  run_next h below s was none =
      subst (λ (o : Option Guard). Next i r h s (next_by o i h s)) (sym none) (next_so i r h below s (was.all_on none))

  pub next_held : IsServed off i → (h : ℕ) → h < harts_in i.all.schedule → (s : Harts) → Held off i r s → Held off i r (next_by off i h s)
  next_held (inl none) h below s was =
      subst (λ (o : Option Guard). Held o i r (next_by o i h s)) (sym none)
      (held_on i r (next_by None i h s) (next_so i r h below s (was.all_on none)).running)
  next_held (inr one) h below s was =
      subst (λ (x : ℕ). Held off i r (next_by off i x s)) (first_is off i r one h below)
      (next_if off i r one (progress_of 0 s).inside s was refl
      (λ none. (run_next 0 (first_below off i r one) s was none).running))

  pub next_leaves : IsServed off i → (h : ℕ) → h < harts_in i.all.schedule → (s : Harts) → Held off i r s
      → LeavesOthers off i r h s (next_by off i h s)
  next_leaves (inl none) h below s was d id other = (run_next h below s was none).left d id other
  next_leaves (inr one) h below s was d id other =
      let home = (one_hart i one).home d in absurd (other (sym (first_is off i r one h below) ∙ sym home))

  after_held : IsServed off i → (order : List ℕ) (s : Harts) → All (λ h. h < harts_in i.all.schedule) order → Held off i r s
      → Held off i r (after_by off i order s)
  unfolding after_by
  after_held served [] s below was = was
  after_held served (h ∷ hs) s below was =
      after_held served hs (next_by off i h s) (All-tail (λ (x : ℕ). x < harts_in i.all.schedule) h hs below)
      (next_held served h (All-head (λ (x : ℕ). x < harts_in i.all.schedule) h hs below) s was)

  -- before the first event
  ended_if : (n h : ℕ) → (h ≡ n) ⊎ (h ≢ n) → ((g : ℕ) → ended_of g (all_cold i n) ≡ 0) → ended_of h (with_cold i n (all_cold i n)) ≡ 0
  unfolding with_hart
  ended_if n h (inl same) before =
      subst (λ (x : ℕ). ended_of x (with_cold i n (all_cold i n)) ≡ 0) (sym same)
      (ap (λ (x : Hart). x.ended) (at-put_same no_hart (all_cold i n).harts n _) ∙ before n)
  ended_if n h (inr other) before =
      ap (λ (x : Hart). x.ended) (at-put_other no_hart (all_cold i n).harts n h _ other) ∙ before h

  pub ended_cold : (n h : ℕ) → ended_of h (all_cold i n) ≡ 0
  unfolding all_cold
  ended_cold zero h = ap (λ (x : Hart). x.ended) (at-empty no_hart h)
  ended_cold (suc n) h = ended_if n h (cases_eq h n) (ended_cold n)

  pub progress_first : (h : ℕ) → progress_of h (harts_by off i []) ≡ record { slots = 0; inside = false }
  unfolding harts_by after_by
  progress_first h = at-empty (record { slots = 0; inside = false }) h

  no_later : (b : Bool) (n m : ℕ) → n ≡ 0 → (if b then 0 else n) ≤ m
  no_later true n m none = omega arith
  no_later false n m none = omega (arith, none)

  first_over : (h : ℕ) → let s = harts_by off i [] in
      ended_by (guards_of off i) (image_on i h) h (slots_of h s) s.world ≤ clock_of h s.world
  unfolding harts_by after_by
  first_over h =
      let s = harts_by off i [] in
      subst (λ (p : Progress). ended_by (guards_of off i) (image_on i h) h p.slots s.world ≤ clock_of h s.world)
      (sym (progress_first h))
      (no_later (guards_of off i).pad _ _ (ended_cold (harts_in i.all.schedule) h))

  first_held : Held off i r (harts_by off i [])
  unfolding harts_by after_by
  first_held =
      let s = harts_by off i [] in
      let run = running i r [] (λ k d l. absurd (omega (arith, l))) in
      let was = held_on i r s run in
      record {
        facts = was.facts;
        soon = λ h l inside. absurd (true≢false (sym inside ∙ ap (λ (p : Progress). p.inside) (progress_first h)));
        over = λ h l outside. first_over h;
        counted = was.counted;
        all_on = λ none. run;
      }

  pub held : IsServed off i → (order : List ℕ) → AreHartsOf i order → Held off i r (harts_by off i order)
  unfolding harts_by after_by
  held served order below = after_held served order (harts_by off i []) below first_held
