-- Before the first event, and so after every order of events, each domain is as it is alone.
use Rattle.std.proofs.Common.{◌≡◌, ◌≢◌, ℕ, Bool, true, false, ◌<◌, ◌≤◌, ap, ap₂, sym, ◌∙◌, refl, subst, arith, inl, List, [], ◌∷◌, ◌++◌}
use Rattle.tp_base.specs.Table.{Table, at, at-empty}
use Rattle.set_cache.specs.Cache.{set_at}
use Rattle.set_cache.proofs.Dirty.{EachDirty-empty}
use Rattle.phys_mem.specs.Mem.{frame_at}
use Rattle.mem_system.specs.Cost.{Caches, cold, fresh_core}
use Rattle.mem_system.specs.Sharing as sharing
use Rattle.mem_system.specs.Sharing.{IsOwnLine}
use Rattle.mem_system.specs.Worst.{HasWays}
use Rattle.mem_system.proofs.Clean.{cold_clean_law}
use Rattle.hardware_check.specs.Hardware.{Hardware}
use Rattle.call_table.specs.Domain.{Dom}
use Rattle.image_check.specs.Public.{Public}
use Rattle.image_check.specs.Own.{Own}
use Rattle.image_check.specs.Image.{Image, own_of}
use Rattle.image_check.specs.Laws.{Runnable}
use Rattle.std.specs.List.{All}
use Rattle.std.proofs.lemmas.List.Elements.{All-nil}
use Rattle.mail_slots.specs.Sides.{Arrival, own_side}
use Rattle.mail_slots.specs.Laws.{pairs_of}
use Rattle.mail_slots.proofs.Moves.{opening_pairs_law}
use Rattle.world_view.specs.Mail.{arrivals_in, turns}
use Rattle.sched_table.specs.Schedule.{entry_in, harts_in, hart_for}
use Rattle.world_view.specs.Cost.{hierarchy}
use Rattle.world_view.specs.Kernel.{no_dom}
use Rattle.world_view.specs.Event.{Storage}
use Rattle.world_view.specs.Machine.{World, with_hart, clock_of, dom_of, part_of, Local, guarded, opening, whole_by, arrivals, alone_mail, alone_opening}
use Rattle.world_view.specs.View.{view, view_mailed, view_alone}
use Rattle.world_view.specs.Used.{count_of}
use Rattle.world_view.specs.Relations.{IsDomain, KernelIsClean, InTime, HasNoMail, AllWithinPads, ended_own}
use Rattle.world_view.specs.Harts.{Harts, Progress, public_on, image_on, start_on, hart_of_domain, progress_of, slots_of, switches_of, next, after, all_cold, harts, view_on, view_mailed_on, view_alone_on, after_by, harts_by}
use Rattle.world_view.specs.Laws.{TwoRunLaw}
use Rattle.world_view.specs.HartLaws.{AreHartsOf, IsBetween, HartMailLaw, ArrivalsLaw, HartIsolationLaw, TwoOrdersLaw, HartPadLaw, HartLargestLaw, HartCountLaw, OtherHartsLaw, NextLaw}
use Rattle.world_view.proofs.opening.Separate.{Separated, separated, ended_listed}
use Rattle.world_view.proofs.opening.OpeningLaws.{opening_dom_is, opening_frames}
use Rattle.world_view.proofs.facts.RightsLaws.{both_with}
use Rattle.world_view.proofs.facts.FactsLaws.{AllBoth, at_slot}
use Rattle.world_view.proofs.time.ActCosts.{instruction_within}
use Rattle.world_view.proofs.time.TimeLaws.{cold_ways, largest_within}
use Rattle.world_view.proofs.runs.Joined.{Joined, seen}
use Rattle.world_view.proofs.runs.Quiet.{AreNone, alone_quiet}
use Rattle.world_view.proofs.runs.WholeLaws.{same_view}
use Rattle.world_view.proofs.harts.OnHart.{separated_on}
use Rattle.world_view.proofs.harts.Events.{IsHart}
use Rattle.world_view.proofs.harts.Meets.{Meets}
use Rattle.world_view.proofs.harts.Runs.{doms_cold, storage_cold, came_cold, used_cold, all_cold_are, Running, home, next_so, after_running}

module _ (i : Image) (r : Runnable i) where
  abbrev p : Hardware
  p = i.all.hardware

  abbrev all : Separated i
  all = separated i r

  abbrev many : ℕ
  many = harts_in i.all.schedule

  abbrev first : World
  first = all_cold i many

  first_facts : AllBoth i all first
  unfolding whole_by opening with_hart
  first_facts d id =
      let was = at_slot i all (guarded i) 0 d id in
      both_with p (own_of i d) (dom_of (opening i) d) (dom_of first d) (opening i).storage first.storage
      (ap (λ (t : Table Dom). at no_dom t d) (doms_cold i many))
      (λ f own. ap (λ (t : Storage). frame_at t.mem f) (storage_cold i many)) was

  first_time : (h : ℕ) → h < many → InTime (image_on i h) h 0 first
  unfolding cold fresh_core
  first_time h is =
      let cold_here = all_cold_are i many h is in
      let clock = cold_here.clock in
      let within = instruction_within p (ended_own (image_on i h) 0) (ended_listed (image_on i h) (separated_on i r h is) 0) 0 (dom_of first 0) first.storage in
      let base = all.timed.base in
      record {
        over = omega arith;
        soon = omega (arith, clock, base, within);
        ways = subst (HasWays (hierarchy p)) (sym cold_here.caches) (cold_ways p);
        dirty = subst (λ (c : Caches). sharing.OwnDirty (hierarchy p) (λ _. false) c.core) (sym cold_here.caches)
            (EachDirty-empty (IsOwnLine (hierarchy p) (λ _. false)) (hierarchy p).l1d);
        clean = subst (KernelIsClean p) (sym cold_here.caches) (cold_clean_law (hierarchy p));
      }

  first_joined : (d : ℕ) → IsDomain i d → (h : ℕ) → h < many → Joined (image_on i h) d [] 0 (part_of h d first)
  unfolding alone_mail alone_opening opening with_hart
  first_joined d id h is = record {
    dom = ap (λ (t : Table Dom). at no_dom t d) (doms_cold i many) ∙ opening_dom_is i all d id;
    part = record {
      frames = λ f own. ap (λ (t : Storage). frame_at t.mem f) (storage_cold i many) ∙ opening_frames i all d id f own;
      side = ap (λ (t : Storage). own_side (own_of i d).number t.boxes) (storage_cold i many);
      sets = λ x own. ap (λ (c : Caches). set_at (hierarchy p).l2.ways c.l2 x) (all_cold_are i many h is).caches;
    };
  }

  -- nothing has come
  first_came : (d : ℕ) → arrivals d first ≡ []
  unfolding arrivals_in
  first_came d = ap (arrivals_in d) (came_cold i many)

  first_meets : (d : ℕ) → IsDomain i d → (h : ℕ) → h < many → Meets i h d (arrivals d first) false 0 (part_of h d first)
  unfolding turns
  first_meets d id h is =
      subst (λ (came : List Arrival). Meets i h d came false 0 (part_of h d first)) (sym (first_came d))
      (record { at = first_joined d id h is; count = refl })

  first_pairs : pairs_of first.storage.boxes ≡ i.all.mail
  first_pairs = ap (λ (t : Storage). pairs_of t.boxes) (storage_cold i many) ∙ opening_pairs_law i.all.mail

  -- each hart is as at first
  pub at_first : (h : ℕ) → progress_of h (harts i []) ≡ record { slots = 0; inside = false }
  unfolding harts_by after_by
  at_first h = at-empty (record { slots = 0; inside = false }) h

  none_counted : (e n : ℕ) → count_of e [] ≤ n
  unfolding count_of
  none_counted e n = omega arith

  first_running : Running i r (harts i [])
  unfolding harts_by after_by
  first_running = record {
    facts = first_facts;
    hart = λ h l. subst (λ (x : Progress). IsHart i x.inside h x.slots first) (sym (at_first h)) (first_time h l);
    meets = λ d id. let h = hart_of_domain i d in
        subst (λ (x : Progress). Meets i h d (arrivals d first) x.inside x.slots (part_of h d first)) (sym (at_first h))
        (first_meets d id h (home i r d));
    pairs = first_pairs;
    quiet = λ d none. subst (λ (came : List Arrival). All AreNone came) (sym (first_came d)) (All-nil AreNone);
    shared = inl refl;
    used = subst (AllWithinPads i.all.schedule) (sym (used_cold i many)) tt;
    counted =
        λ e l. subst (λ (us : List (ℕ × ℕ)).
        count_of e us ≤ switches_of (entry_in i.all.schedule e).hart (harts i [])) (sym (used_cold i many))
        (none_counted e (switches_of (entry_in i.all.schedule e).hart (harts i [])));
  }

  -- after every order
  pub running : (order : List ℕ) → AreHartsOf i order → Running i r (harts i order)
  unfolding harts_by after_by
  running order below = after_running i r order _ below first_running

  between_if : (b : Bool) (h k : ℕ) (w : World) → clock_of h w < start_on i h k → IsHart i b h k w → b ≡ false
  between_if true h k w early is = let begun = is.begun in absurd (omega (arith, begun, early))
  between_if false h k w early is = refl

  -- between two slots of its hart each domain is as it is alone
  pub joined : (d : ℕ) (s : Harts) → Running i r s → IsDomain i d → IsBetween i (hart_of_domain i d) s
      → let h = hart_of_domain i d in Meets i h d (arrivals d s.world) false (slots_of h s) (part_of h d s.world)
  joined d s was id early =
      let h = hart_of_domain i d in
      let k = slots_of h s in
      let outside = between_if (progress_of h s).inside h k s.world early (was.hart h (home i r d)) in
      subst (λ (b : Bool). Meets i h d (arrivals d s.world) b k (part_of h d s.world)) outside (was.meets d id)

  pub mailed : (d : ℕ) (s : Harts) → Running i r s → IsDomain i d → IsBetween i (hart_of_domain i d) s
      → view_on i d s ≡ view_mailed_on i d (arrivals d s.world) (slots_of (hart_of_domain i d) s)
  unfolding view_on view_mailed_on view_mailed
  mailed d s was id early =
      let h = hart_of_domain i d in
      let k = slots_of h s in
      let j = joined d s was id early in
      let same = seen (image_on i h) (separated_on i r h (home i r d)) d id (arrivals d s.world) k (part_of h d s.world) j.at in
      same_view p (own_of i d) _ _ _ _ same.0 same.1

  -- where nothing comes
  pub quietly : (d : ℕ) (s : Harts) → Running i r s → HasNoMail i d → (k : ℕ)
      → view_mailed_on i d (arrivals d s.world) k ≡ view_alone_on i d k
  unfolding view_mailed_on view_mailed
  quietly d s was none k =
      ap (λ (a : Local). view p (own_of i d) a.dom a.storage)
      (alone_quiet (public_on i.all (hart_of_domain i d)) (own_of i d) d (arrivals d s.world) k (was.quiet d none))

pub hart_mail : HartMailLaw
hart_mail i d order r id below early = mailed i r d (harts i order) (running i r order below) id early

pub hart_arrivals : ArrivalsLaw
hart_arrivals i d order r id below early =
    (joined i r d (harts i order) (running i r order below) id early).count

pub hart_isolation : HartIsolationLaw
hart_isolation i d order r id none below early =
    let was = running i r order below in
    let s = harts i order in
    mailed i r d s was id early ∙ quietly i r d s was none (slots_of (hart_of_domain i d) s)

pub two_orders : TwoOrdersLaw
two_orders i d one two r id none below_one below_two same early late =
    hart_isolation i d one r id none below_one early ∙ ap (view_alone_on i d) same
    ∙ sym (hart_isolation i d two r id none below_two late)

-- of two images that agree for it
pub two_runs : TwoRunLaw
unfolding view_mailed_on
two_runs i j d one two r q id none a below_one below_two same early late =
    let is' : IsDomain j d = omega (arith, r.counted, q.counted, ap (λ (p : Public). p.domains) a.all) in
    let home : hart_of_domain i d ≡ hart_of_domain j d = ap (λ (p : Public). hart_for p.schedule d) a.all in
    let here = hart_isolation i d one r id none below_one early in
    let none' : HasNoMail j d = subst (λ (p : Public). All (λ box. box.1 ≢ d) p.mail) a.all none in
    let there =
    hart_isolation j d two q is' none' below_two (subst (λ (h : ℕ). IsBetween j h (harts j two)) home late) in
    let slots : slots_of (hart_of_domain i d) (harts i one) ≡ slots_of (hart_of_domain j d) (harts j two) =
    same ∙ ap (λ (h : ℕ). slots_of h (harts j two)) home in
    here
    ∙ ap₂ (λ (p : Public) (o : Own). view_alone (public_on p (hart_for p.schedule d)) o d (slots_of (hart_of_domain i d) (harts i one))) a.all a.own
    ∙ ap (λ (n : ℕ). view_alone_on j d n) slots ∙ sym there

pub hart_pads : HartPadLaw
hart_pads i order r below = (running i r order below).used

pub hart_largest : HartLargestLaw
hart_largest i order e r below = largest_within i.all.schedule e (harts i order).world.used (hart_pads i order r below)

after_append : (i : Image) (order : List ℕ) (h : ℕ) (s : Harts)
    → after i (order ++ h ∷ []) s ≡ next i h (after i order s)
unfolding after_by
after_append i [] h s = refl
after_append i (g ∷ gs) h s = after_append i gs h (next i g s)

pub next_law : NextLaw
unfolding harts_by
next_law i order h = after_append i order h _

pub hart_counts : HartCountLaw
hart_counts i order e r below l = (running i r order below).counted e l

pub other_harts : OtherHartsLaw
other_harts i d h order r id below l other = (next_so i r h l (harts i order) (running i r order below)).left d id other
