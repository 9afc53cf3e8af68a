-- What holds of an image's harts after every order of events.
use Rattle.std.proofs.Common.{Option, None, ◌≡◌, ◌≢◌, ℕ, Bool, true, false, true≢false, zero, suc, ◌+◌, ◌<◌, ◌≤◌, length, ◌++◌, ltb, ltb-true, ap, sym, ◌∙◌, refl, subst, arith, inl, inr, ◌⊎◌, List, [], ◌∷◌}
use Rattle.std.specs.Prelude.{if◌then◌else◌}
use Rattle.std.specs.List.{All}
use Rattle.std.proofs.lemmas.Bool.{cases_eq, ltb-false}
use Rattle.std.proofs.lemmas.List.Elements.{All-head, All-tail, All-push}
use Rattle.tp_base.specs.Table.{at-put_same, at-put_other, at-empty}
use Rattle.mem_system.specs.Cost.{Core, Caches, cold}
use Rattle.hardware_check.specs.Hardware.{Hardware}
use Rattle.image_check.specs.Image.{Image, own_of}
use Rattle.image_check.specs.Laws.{Runnable}
use Rattle.sched_table.specs.declared.schedule.Entry.{Entry}
use Rattle.mail_slots.specs.Boxes.{Boxes}
use Rattle.mail_slots.specs.Sides.{Arrival, arrival}
use Rattle.mail_slots.specs.Laws.{pairs_of}
use Rattle.mail_slots.proofs.Moves.{pairs_law}
use Rattle.world_view.specs.Mail.{left_boxes, switched_boxes, came_to}
use Rattle.world_view.proofs.runs.Arrivals.{one_more, none_more}
use Rattle.world_view.proofs.runs.Quiet.{AreNone, left_pairs, nothing_arrives}
use Rattle.sched_table.specs.Schedule.{outgoing, entry_in, switch_entry, pad_of, place_on, harts_in}
use Rattle.sched_table.proofs.Harts.{hart_there_law}
use Rattle.world_view.specs.Cost.{hierarchy}
use Rattle.world_view.specs.Machine.{Hart, World, no_hart, hart_of, caches_of, clock_of, dom_of, part_of, with_part, with_hart, guarded, switch_on, cycles_on, no_harts, with_cold, opening, arrivals}
use Rattle.world_view.specs.Used.{count_of}
use Rattle.world_view.proofs.steps.CodeLaws.{count_of-push_same, count_of-push_other}
use Rattle.world_view.specs.Relations.{IsDomain, HasNoMail, Resident, KernelIsClean, HasFacts, InTime, Within, Apiece, AllWithinPads}
use Rattle.world_view.specs.Harts.{Harts, Progress, image_on, domain_in, end_on, hart_of_domain, progress_of, slots_of, switches_of, proceeds, begins, runs, goes_on, next, after, all_cold, harts, next_by, after_by, harts_by, settles}
use Rattle.world_view.specs.HartLaws.{LeftAlone}
use Rattle.world_view.specs.Laws.{opening_memory}
use Rattle.world_view.specs.Event.{Storage}
use Rattle.world_view.proofs.opening.Separate.{Separated, separated}
use Rattle.world_view.proofs.facts.FactsLaws.{AllBoth, step_keeps_all}
use Rattle.world_view.proofs.facts.ResidencyLaws.{boot_resident, switched_resident}
use Rattle.world_view.proofs.time.TimeLaws.{used_in_pad, within_append}
use Rattle.world_view.proofs.runs.SwitchParts.{caches-with, clock-with}
use Rattle.world_view.proofs.harts.OnHart.{separated_on, padded_on, placed_switch, not_here}
use Rattle.world_view.proofs.harts.Events.{IsHart, IsInside, still, begun_world, begins_is, switched, switch_inside, switch_leaves, ran-caches, ran_clean, ran_resident, still_inside, now_over, step_leaves, step_pairs}
use Rattle.world_view.proofs.harts.Meets.{Meets, still_meets, switch_meets, on_meets, over_meets}

-- ---- before the first event

module _ (i : Image) where
  pub doms_cold : (n : ℕ) → (all_cold i n).doms ≡ (no_harts i).doms
  unfolding all_cold with_hart
  doms_cold zero = refl
  doms_cold (suc n) = doms_cold n

  pub storage_cold : (n : ℕ) → (all_cold i n).storage ≡ (no_harts i).storage
  unfolding all_cold with_hart
  storage_cold zero = refl
  storage_cold (suc n) = storage_cold n

  -- memory is as it opens
  pub opening_memory_is : opening_memory i ≡ (opening i).storage.mem
  unfolding harts_by after_by opening with_hart
  opening_memory_is = ap (λ (t : Storage). t.mem) (storage_cold (harts_in i.all.schedule))

  pub used_cold : (n : ℕ) → (all_cold i n).used ≡ []
  unfolding all_cold with_hart
  used_cold zero = refl
  used_cold (suc n) = used_cold n

  pub came_cold : (n : ℕ) → (all_cold i n).came ≡ []
  unfolding all_cold with_hart
  came_cold zero = refl
  came_cold (suc n) = came_cold n

  -- each hart's caches hold nothing, and its clock stands at 0
  pub record IsCold (h : ℕ) (w : World) : Type 0 where
    pub caches : caches_of h w ≡ cold (hierarchy i.all.hardware)
    pub clock : clock_of h w ≡ 0

  cold_if : (n h : ℕ) → (h ≡ n) ⊎ (h ≢ n) → (h ≢ n → IsCold h (all_cold i n))
      → IsCold h (with_cold i n (all_cold i n))
  unfolding with_hart
  cold_if n h (inl same) before =
      subst (λ (x : ℕ). IsCold x (with_cold i n (all_cold i n))) (sym same)
      (record { caches = caches-with n (all_cold i n) _ 0; clock = clock-with n (all_cold i n) (cold (hierarchy i.all.hardware)) 0 })
  cold_if n h (inr other) before =
      let was = before other in
      let kept = at-put_other no_hart (all_cold i n).harts n h _ other in
      record {
        caches = ap (λ (c : Core). record { core = c; l2 = (cold (hierarchy i.all.hardware)).l2 })
            (ap (λ (x : Hart). x.core) kept ∙ ap (λ (c : Caches). c.core) was.caches);
        clock = ap (λ (x : Hart). x.clock) kept ∙ was.clock;
      }

  pub all_cold_are : (n h : ℕ) → h < n → IsCold h (all_cold i n)
  unfolding all_cold
  all_cold_are zero h l = absurd (omega (arith, l))
  all_cold_are (suc n) h l = cold_if n h (cases_eq h n) (λ other. all_cold_are n h (omega (arith, l, other)))

-- ---- after each event

pub progress-same : (h : ℕ) (s : Harts) (w : World) (k : ℕ) (b : Bool)
    → progress_of h (proceeds h s w k b) ≡ record { slots = k; inside = b }
unfolding proceeds
progress-same h s w k b = at-put_same _ s.progress h _

pub progress-other : (g h : ℕ) (s : Harts) (w : World) (k : ℕ) (b : Bool) → g ≢ h
    → progress_of g (proceeds h s w k b) ≡ progress_of g s
unfolding proceeds
progress-other g h s w k b other = at-put_other _ s.progress h g _ other

module _ (i : Image) (r : Runnable i) where
  abbrev p : Hardware
  p = i.all.hardware

  abbrev all : Separated i
  all = separated i r

  -- one more than the greatest hart
  abbrev many : ℕ
  many = harts_in i.all.schedule

  -- the hart of a domain is there
  pub home : (d : ℕ) → hart_of_domain i d < many
  home d = hart_there_law i.all.schedule d r.schedule.some

  pub record Running (s : Harts) : Type 0 where
    pub facts : AllBoth i all s.world
    pub hart : (h : ℕ) → h < many → IsHart i (progress_of h s).inside h (slots_of h s) s.world
    pub meets : (d : ℕ) → IsDomain i d → let h = hart_of_domain i d in
        Meets i h d (arrivals d s.world) (progress_of h s).inside (slots_of h s) (part_of h d s.world)
    pub pairs : pairs_of s.world.storage.boxes ≡ i.all.mail
    pub quiet : (d : ℕ) → HasNoMail i d → All AreNone (arrivals d s.world)
    pub shared : (s ≡ harts i []) ⊎ Resident p (caches_of 0 s.world)
    pub used : AllWithinPads i.all.schedule s.world.used
    pub counted : (e : ℕ) → e < length i.all.schedule
        → count_of e s.world.used ≤ switches_of (entry_in i.all.schedule e).hart s

  -- a domain on its hart
  pub here : (s : Harts) → Running s → (h d : ℕ) → IsDomain i d → hart_of_domain i d ≡ h
      → Meets i h d (arrivals d s.world) (progress_of h s).inside (slots_of h s) (part_of h d s.world)
  here s was h d id home =
      subst (λ (x : ℕ). Meets i x d (arrivals d s.world) (progress_of x s).inside (slots_of x s) (part_of x d s.world)) home
      (was.meets d id)

  -- what an event of hart h comes to
  record Happened (h : ℕ) (s : Harts) (w : World) (k : ℕ) (b : Bool) : Type 0 where
    facts : AllBoth i all w
    own : IsHart i b h k w
    clean : KernelIsClean p (caches_of h w)
    others : (g : ℕ) → g ≢ h → hart_of g w ≡ hart_of g s.world
    meets : (d : ℕ) → IsDomain i d → hart_of_domain i d ≡ h → Meets i h d (arrivals d w) b k (part_of h d w)
    came : (d : ℕ) → IsDomain i d → hart_of_domain i d ≢ h → arrivals d w ≡ arrivals d s.world
    pairs : pairs_of w.storage.boxes ≡ i.all.mail
    quiet : (d : ℕ) → HasNoMail i d → All AreNone (arrivals d w)
    left : (d : ℕ) → IsDomain i d → h ≢ hart_of_domain i d
        → Apiece p (own_of i d) (part_of h d w) (part_of h d s.world)
    shared : Resident p (caches_of 0 w)
    used : AllWithinPads i.all.schedule w.used
    counted : (e : ℕ) → e < length i.all.schedule → (entry_in i.all.schedule e).hart ≡ h
        → count_of e w.used ≤ (if b then k + 1 else k)
    others_counted : (e : ℕ) → (entry_in i.all.schedule e).hart ≢ h
        → count_of e w.used ≡ count_of e s.world.used

  -- what holds after it
  pub record Next (h : ℕ) (s later : Harts) : Type 0 where
    pub running : Running later
    pub left : (d : ℕ) → IsDomain i d → h ≢ hart_of_domain i d → LeftAlone i d later s

  module _ (h : ℕ) (s : Harts) (w : World) (k : ℕ) (b : Bool) (did : Happened h s w k b) (was : Running s) where
    abbrev s' : Harts
    s' = proceeds h s w k b

    -- a hart of which it isn't
    hart_if : (g : ℕ) → g < many → (g ≡ h) ⊎ (g ≢ h) → IsHart i (progress_of g s').inside g (slots_of g s') w
    hart_if g l (inl same) =
        subst (λ (x : ℕ). IsHart i (progress_of x s').inside x (slots_of x s') w) (sym same)
        (subst (λ (x : Progress). IsHart i x.inside h x.slots w) (sym (progress-same h s w k b)) did.own)
    hart_if g l (inr other) =
        subst (λ (x : Progress). IsHart i x.inside g x.slots w) (sym (progress-other g h s w k b other))
        (still i g h w s.world (did.others g other) did.clean (progress_of g s).inside (slots_of g s) (was.hart g l))

    -- the part of a domain of another hart
    part_still : (d g : ℕ) → IsDomain i d → hart_of_domain i d ≡ g → g ≢ h
        → Within p (own_of i d) (part_of g d w) (part_of g d s.world)
    part_still d g id home other =
        let left = did.left d id (λ q. other (sym home ∙ sym q)) in
        record {
          dom = left.dom;
          part = record { frames = left.part.frames; side = left.part.side; sets = left.part.sets };
          core = ap (λ (x : Hart). x.core) (did.others g other);
          clock = ap (λ (x : Hart). x.clock) (did.others g other);
        }

    meets_if : (d g : ℕ) → IsDomain i d → hart_of_domain i d ≡ g → (g ≡ h) ⊎ (g ≢ h)
        → Meets i g d (arrivals d s.world) (progress_of g s).inside (slots_of g s) (part_of g d s.world)
        → Meets i g d (arrivals d w) (progress_of g s').inside (slots_of g s') (part_of g d w)
    meets_if d g id home (inl same) m =
        subst (λ (x : ℕ). Meets i x d (arrivals d w) (progress_of x s').inside (slots_of x s') (part_of x d w)) (sym same)
        (subst (λ (x : Progress). Meets i h d (arrivals d w) x.inside x.slots (part_of h d w))
        (sym (progress-same h s w k b)) (did.meets d id (home ∙ same)))
    meets_if d g id home (inr other) m =
        subst (λ (x : Progress). Meets i g d (arrivals d w) x.inside x.slots (part_of g d w)) (sym (progress-other g h s w k b other))
        (subst (λ (came : List Arrival). Meets i g d came (progress_of g s).inside (slots_of g s) (part_of g d w))
        (sym (did.came d id (λ q. other (sym home ∙ q))))
        (still_meets i g d (arrivals d s.world) (progress_of g s).inside (slots_of g s) (part_of g d s.world) (part_of g d w)
        (part_still d g id home other) m))

    counted_if : (e g : ℕ) → e < length i.all.schedule → (entry_in i.all.schedule e).hart ≡ g
        → (g ≡ h) ⊎ (g ≢ h)
        → count_of e w.used ≤ switches_of g s'
    counted_if e g l home (inl same) =
        subst (λ (x : ℕ). count_of e w.used ≤ switches_of x s') (sym same)
        (subst (λ (x : Progress). count_of e w.used ≤ (if x.inside then x.slots + 1 else x.slots))
        (sym (progress-same h s w k b)) (did.counted e l (home ∙ same)))
    counted_if e g l home (inr other) =
        let before : count_of e s.world.used ≤ switches_of g s =
        subst (λ (x : ℕ). count_of e s.world.used ≤ switches_of x s) home (was.counted e l) in
        subst (λ (x : Progress). count_of e w.used ≤ (if x.inside then x.slots + 1 else x.slots)) (sym (progress-other g h s w k b other))
        (subst (λ (n : ℕ). n ≤ switches_of g s) (sym (did.others_counted e (λ q. other (sym home ∙ q)))) before)

    goes_running : Running s'
    unfolding proceeds
    goes_running = record {
      facts = did.facts;
      hart = λ g l. hart_if g l (cases_eq g h);
      meets = λ d id. meets_if d (hart_of_domain i d) id refl (cases_eq (hart_of_domain i d) h) (was.meets d id);
      pairs = did.pairs;
      quiet = did.quiet;
      shared = inr did.shared;
      used = did.used;
      counted = λ e l. counted_if e _ l refl (cases_eq (entry_in i.all.schedule e).hart h);
    }

    leaves_alone : (d : ℕ) → IsDomain i d → h ≢ hart_of_domain i d → LeftAlone i d s' s
    unfolding proceeds
    leaves_alone d id other =
        let home = hart_of_domain i d in
        let apart : home ≢ h = λ q. other (sym q) in
        let still = part_still d home id refl apart in
        record { dom = still.dom; part = still.part; hart = did.others home apart; progress = progress-other home h s w k b apart }

    proceeded : Next h s s'
    proceeded = record { running = goes_running; left = leaves_alone }

  -- ---- a switch

  module _ (h : ℕ) (is : h < many) (s : Harts) (was : Running s) (outside : (progress_of h s).inside ≡ false)
      (time : InTime (image_on i h) h (slots_of h s) s.world)
      (met : (d : ℕ) → IsDomain i d → hart_of_domain i d ≡ h → Meets i h d (arrivals d s.world) false (slots_of h s) (part_of h d s.world)) where
    abbrev on : Image
    on = image_on i h

    abbrev r_on : Separated on
    r_on = separated_on i r h is

    abbrev k : ℕ
    k = slots_of h s

    abbrev place : ℕ
    place = place_on i.all.schedule h (switch_entry on.all.schedule k)

    abbrev begun : World
    begun = begun_world i h s

    -- it is within the pad of the entry to which it belongs
    in_pad : cycles_on (guarded on) on h k s.world ≤ (entry_in i.all.schedule place).pad
    unfolding guarded
    in_pad =
        let used = used_in_pad on r_on h k s.world (padded_on i r h is k) time in
        let pad : pad_of on.all.schedule k ≡ (entry_in i.all.schedule place).pad =
        ap (λ (e : Entry). e.pad) (placed_switch i r h is k).same in
        omega (arith, used, pad)

    -- after the first of all the shared lines are there, and later ones leave them
    begun_resident : (s ≡ harts i []) ⊎ Resident p (caches_of 0 s.world)
        → Resident p (caches_of h (switched i r h is k s.world))
    unfolding harts_by after_by
    begun_resident (inl first) =
        let start : Harts = harts i [] in
        let none : slots_of h start ≡ 0 = ap (λ (x : Progress). x.slots) (at-empty (record { slots = 0; inside = false }) h) in
        subst (λ (t : Harts). Resident p (caches_of h (switched i r h is (slots_of h t) t.world))) (sym first)
        (subst (λ (x : ℕ). Resident p (caches_of h (switched i r h is x start.world))) (sym none)
        (boot_resident on r_on h start.world (all_cold_are i many h is).caches))
    begun_resident (inr there) = switched_resident on r_on h k s.world there

    -- one more of its entry, and of no other
    counts_if : (e : ℕ) → (place ≡ e) ⊎ (place ≢ e) → count_of e begun.used ≤ count_of e s.world.used + 1
    unfolding switch_on with_hart
    counts_if e (inl same) =
        let one = count_of-push_same e (cycles_on (guarded on) on h k s.world) s.world.used in
        subst (λ (n : ℕ). count_of e (s.world.used ++ (n, cycles_on (guarded on) on h k s.world) ∷ [])
        ≤ count_of e s.world.used + 1) (sym same)
        (omega (arith, one))
    counts_if e (inr other) =
        let none = count_of-push_other e place (cycles_on (guarded on) on h k s.world) s.world.used other in omega (arith, none)

    begun_counted : (e : ℕ) → e < length i.all.schedule → (entry_in i.all.schedule e).hart ≡ h
        → count_of e begun.used ≤ k + 1
    begun_counted e l home =
        let more = counts_if e (cases_eq place e) in
        let before : count_of e s.world.used ≤ k =
        subst (λ (b : Bool). count_of e s.world.used ≤ (if b then k + 1 else k)) outside
        (subst (λ (x : ℕ). count_of e s.world.used ≤ switches_of x s) home (was.counted e l)) in
        omega (arith, more, before)

    begun_others : (e : ℕ) → (entry_in i.all.schedule e).hart ≢ h
        → count_of e begun.used ≡ count_of e s.world.used
    unfolding switch_on with_hart
    begun_others e other =
        count_of-push_other e place (cycles_on (guarded on) on h k s.world) s.world.used
        (λ q. other (ap (λ (n : ℕ). (entry_in i.all.schedule n).hart) (sym q) ∙ (placed_switch i r h is k).hart))

    abbrev boxes : Boxes
    boxes = s.world.storage.boxes

    abbrev out : Option ℕ
    out = outgoing on.all.schedule k

    abbrev into : ℕ
    into = domain_in i h k

    -- each box leads from whom and to whom it led
    switched_pairs : pairs_of (switched_boxes out into boxes) ≡ i.all.mail
    switched_pairs = (pairs_law into (left_boxes out boxes)).begun ∙ left_pairs out boxes ∙ was.pairs

    -- to a domain to which none leads nothing comes
    quiet_if : (d : ℕ) → (into ≡ d) ⊎ (into ≢ d) → HasNoMail i d → All AreNone (arrivals d begun)
    unfolding switch_on with_hart
    quiet_if d (inl same) none =
        subst (λ (came : List Arrival). All AreNone came)
        (sym (one_more d s.world.came (came_to out into boxes) same))
        (All-push AreNone (arrivals d s.world) (arrival into (left_boxes out boxes)) (was.quiet d none)
        (nothing_arrives into (left_boxes out boxes)
        (subst (λ (mail : List (ℕ × ℕ)). All (λ box. box.1 ≢ into) mail) (sym (left_pairs out boxes ∙ was.pairs))
        (subst (HasNoMail i) (sym same) none))))
    quiet_if d (inr other) none =
        subst (λ (came : List Arrival). All AreNone came) (sym (none_more d s.world.came (came_to out into boxes) other)) (was.quiet d none)

    begun_quiet : (d : ℕ) → HasNoMail i d → All AreNone (arrivals d begun)
    begun_quiet d none = quiet_if d (cases_eq into d) none

    begins_so : Happened h s begun k true
    unfolding switch_on with_hart
    begins_so =
        let inside = switch_inside i r h is k s.world time in
        record {
          facts = λ d id. let its = was.facts d id in record { facts = its.facts; rights = its.rights };
          own = record { begun = inside.begun; soon = inside.soon; ways = inside.ways; dirty = inside.dirty; clean = inside.clean };
          clean = inside.clean;
          others = λ g other. at-put_other no_hart s.world.harts h g _ other;
          meets = λ d id home. switch_meets i h d r is id k s.world time (met d id home);
          came = λ d id other. none_more d s.world.came (came_to out into boxes) (λ q. not_here i r h is k d (λ p. other (sym p)) (sym q));
          pairs = switched_pairs;
          quiet = begun_quiet;
          left = λ d id other. switch_leaves i r h is k d s.world id other time;
          shared = begun_resident was.shared;
          used = within_append i.all.schedule s.world.used _ was.used (in_pad, tt);
          counted = begun_counted;
          others_counted = begun_others;
        }

    pub begins_next : Next h s (begins None i h s)
    begins_next = subst (Next h s) (sym (begins_is i r h is s time)) (proceeded h s begun k true begins_so was)

  -- ---- one event in a slot

  module _ (h : ℕ) (is : h < many) (s : Harts) (was : Running s) (within : (progress_of h s).inside ≡ true)
      (inside : IsInside i h (slots_of h s) s.world)
      (met : (d : ℕ) → IsDomain i d → hart_of_domain i d ≡ h → Meets i h d (arrivals d s.world) true (slots_of h s) (part_of h d s.world))
      (there : Resident p (caches_of 0 s.world)) where
    abbrev slot : ℕ
    slot = slots_of h s

    abbrev d0 : ℕ
    d0 = domain_in i h slot

    abbrev ran : World
    ran = runs None i h slot s.world

    facts0 : HasFacts p (own_of i d0) (dom_of s.world d0) s.world.storage
    facts0 = (was.facts d0 ((separated_on i r h is).named slot)).facts

    ran_facts : AllBoth i all ran
    unfolding runs guarded
    ran_facts = step_keeps_all i all (guarded i) h d0 (end_on i h slot) s.world ((separated_on i r h is).named slot) was.facts

    -- an event moves no box, and nothing comes
    ran_came : (d : ℕ) → arrivals d ran ≡ arrivals d s.world
    unfolding runs with_part with_hart guarded
    ran_came d = refl

    ran_pairs : pairs_of ran.storage.boxes ≡ i.all.mail
    unfolding runs with_part with_hart guarded
    ran_pairs = step_pairs i r h is slot s.world inside facts0 ∙ was.pairs

    ran_quiet : (d : ℕ) → HasNoMail i d → All AreNone (arrivals d ran)
    ran_quiet d none = subst (λ (came : List Arrival). All AreNone came) (sym (ran_came d)) (was.quiet d none)

    ran_others : (g : ℕ) → g ≢ h → hart_of g ran ≡ hart_of g s.world
    unfolding runs with_part with_hart guarded
    ran_others g other = at-put_other no_hart s.world.harts h g _ other

    ran_left : (d : ℕ) → IsDomain i d → h ≢ hart_of_domain i d
        → Apiece p (own_of i d) (part_of h d ran) (part_of h d s.world)
    ran_left d id other =
        let left = step_leaves i r h is slot s.world inside facts0 d id (not_here i r h is slot d other) in
        record { dom = left.0; part = left.1 }

    ran_used : AllWithinPads i.all.schedule ran.used
    unfolding runs with_part with_hart guarded
    ran_used = was.used

    ran_counted : (e : ℕ) → e < length i.all.schedule → (entry_in i.all.schedule e).hart ≡ h
        → count_of e ran.used ≤ slot + 1
    unfolding runs with_part with_hart guarded
    ran_counted e l home =
        subst (λ (b : Bool). count_of e s.world.used ≤ (if b then slot + 1 else slot)) within
        (subst (λ (x : ℕ). count_of e s.world.used ≤ switches_of x s) home (was.counted e l))

    ran_others_counted : (e : ℕ) → (entry_in i.all.schedule e).hart ≢ h
        → count_of e ran.used ≡ count_of e s.world.used
    unfolding runs with_part with_hart guarded
    ran_others_counted e other = refl

    ran_clean_here : KernelIsClean p (caches_of h ran)
    ran_clean_here =
        subst (KernelIsClean p) (sym (ran-caches i r h is slot s.world inside facts0))
        (ran_clean i r h is slot s.world inside facts0)

    ran_shared : Resident p (caches_of 0 ran)
    ran_shared =
        subst (Resident p) (sym (ran-caches i r h is slot s.world inside facts0))
        (ran_resident i r h is slot s.world inside facts0 there)

    goes_if : (b : Bool) → ltb (clock_of h ran) (end_on i h slot) ≡ b
        → Next h s (if b then proceeds h s ran slot true else proceeds h s ran (suc slot) false)
    goes_if true t = proceeded h s ran slot true (record {
      facts = ran_facts;
      own = still_inside i r h is slot s.world inside facts0 (ltb-true _ _ t);
      clean = ran_clean_here;
      others = ran_others;
      meets = λ d id home. on_meets i h d r is id slot s.world inside facts0 there (met d id home);
      came = λ d id other. ran_came d;
      pairs = ran_pairs;
      quiet = ran_quiet;
      left = ran_left;
      shared = ran_shared;
      used = ran_used;
      counted = ran_counted;
      others_counted = ran_others_counted;
    }) was
    goes_if false t = proceeded h s ran (suc slot) false (record {
      facts = ran_facts;
      own = now_over i r h is slot s.world inside facts0 (ltb-false _ _ t);
      clean = ran_clean_here;
      others = ran_others;
      meets = λ d id home. over_meets i h d r is id slot s.world inside facts0 there (ltb-false _ _ t) (met d id home);
      came = λ d id other. ran_came d;
      pairs = ran_pairs;
      quiet = ran_quiet;
      left = ran_left;
      shared = ran_shared;
      used = ran_used;
      counted = λ e l home. let most = ran_counted e l home in omega (arith, most);
      others_counted = ran_others_counted;
    }) was

    pub goes_next : Next h s (goes_on None i h s)
    unfolding goes_on settles guarded
    goes_next = goes_if (ltb (clock_of h ran) (end_on i h slot)) refl

  -- ---- every event

  -- a hart in a slot is past its boot
  pub there_if : (h : ℕ) (s : Harts) → (progress_of h s).inside ≡ true
      → (s ≡ harts i []) ⊎ Resident p (caches_of 0 s.world) → Resident p (caches_of 0 s.world)
  unfolding harts_by after_by
  there_if h s inside (inl first) =
      let none : (progress_of h s).inside ≡ false =
      ap (λ (t : Harts). (progress_of h t).inside) first
      ∙ ap (λ (x : Progress). x.inside) (at-empty (record { slots = 0; inside = false }) h) in
      absurd (true≢false (sym inside ∙ none))
  there_if h s inside (inr there) = there

  next_if : (h : ℕ) → h < many → (s : Harts) → Running s → (b : Bool) → (progress_of h s).inside ≡ b
      → Next h s (if b then goes_on None i h s else begins None i h s)
  next_if h l s was true t =
      goes_next h l s was t (subst (λ (b : Bool). IsHart i b h (slots_of h s) s.world) t (was.hart h l))
      (λ d id home. subst (λ (b : Bool). Meets i h d (arrivals d s.world) b (slots_of h s) (part_of h d s.world)) t (here s was h d id home))
      (there_if h s t was.shared)
  next_if h l s was false t =
      begins_next h l s was t (subst (λ (b : Bool). IsHart i b h (slots_of h s) s.world) t (was.hart h l))
      (λ d id home. subst (λ (b : Bool). Meets i h d (arrivals d s.world) b (slots_of h s) (part_of h d s.world)) t (here s was h d id home))

  pub next_so : (h : ℕ) → h < many → (s : Harts) → Running s → Next h s (next i h s)
  unfolding next_by
  next_so h l s was = next_if h l s was (progress_of h s).inside refl

  pub after_running : (order : List ℕ) (s : Harts) → All (λ h. h < many) order → Running s
      → Running (after i order s)
  unfolding after_by
  after_running [] s below was = was
  after_running (h ∷ hs) s below was =
      after_running hs (next i h s) (All-tail (λ (x : ℕ). x < many) h hs below)
      (next_so h (All-head (λ (x : ℕ). x < many) h hs below) s was).running
