-- What holds after every order of the harts' events, by induction on the order; and what each event does.
use Rattle.std.proofs.Common.{None, ◌≡◌, ◌≢◌, ◌∙◌, ℕ, zero, suc, ◌+◌, ◌<◌, Bool, true, false, nat_lt, List, [], ◌∷◌, ◌⊎◌, inl, inr, ap, ap₂, sym, subst, refl, arith}
use Rattle.std.specs.Prelude.{if◌then◌else◌}
use Rattle.std.specs.List.{All}
use Rattle.std.proofs.lemmas.Bool.{cases_eq}
use Rattle.std.proofs.lemmas.List.Elements.{All-head, All-tail}
use Rattle.tp_base.specs.Table.{Table, at, at-put_same}
use Rattle.tp_base.specs.Table.{empty as empty_l2}
use Rattle.set_cache.specs.Cache.{Sets}
use Rattle.mem_system.specs.Sharing.{kept_at}
use Rattle.mem_system.proofs.KernelSets.{empty_law}
use Rattle.world_view.specs.Laws.{EmptyLaw}
use Rattle.hardware_check.specs.Hardware.{Hardware}
use Rattle.image_check.specs.Own.{Own}
use Rattle.image_check.specs.Image.{Image, own_of}
use Rattle.image_check.specs.Laws.{Runnable}
use Rattle.sched_table.specs.Schedule.{harts_in}
use Rattle.mem_system.specs.Cost.{Caches, cold}
use Rattle.call_table.specs.Domain.{Dom}
use Rattle.world_view.specs.Cost.{hierarchy}
use Rattle.world_view.specs.Kernel.{opening_dom, no_dom}
use Rattle.world_view.specs.Event.{event}
use Rattle.world_view.specs.Machine.{guarded, Local, World, caches_of, clock_of, dom_of, part_of, with_part, with_hart, setting, step, switch_on, opening}
use Rattle.world_view.specs.EventLaws.{EndsBy}
use Rattle.world_view.specs.Relations.{IsDomain, HasFacts, Resident, KernelIsClean, Untouched, InTime}
use Rattle.world_view.specs.Harts.{Harts, Progress, IsInSlot, IsOutside, image_on, end_on, domain_on, owner_on, local_on, slot_end_on, progress_of, slots_of, switches_of, proceeds, begins, runs, goes_on, next, after, all_cold, harts, next_by, after_by, harts_by, settles}
use Rattle.world_view.specs.HartLaws.{AreHartsOf}
use Rattle.world_view.proofs.opening.Separate.{separated}
use Rattle.world_view.proofs.opening.OpeningLaws.{opening_dom_is}
use Rattle.world_view.proofs.time.TimeLaws.{step_costs}
use Rattle.world_view.proofs.facts.KernelSets.{KernelsSets, cold_sets, step_sets, switched_sets}
use Rattle.world_view.proofs.runs.SwitchParts.{caches-with, clock-with}
use Rattle.world_view.proofs.harts.OnHart.{separated_on}
use Rattle.world_view.proofs.harts.Events.{IsHart, IsInside, step_leaves}
use Rattle.world_view.proofs.harts.Runs.{Running, doms_cold, all_cold_are, home, next_so}
use Rattle.world_view.proofs.harts.Events.{begun_world}
use Rattle.world_view.proofs.harts.Isolation.{at_first, running}

-- what each event keeps, every order keeps
module _ (i : Image) (r : Runnable i) (P : Harts → Type 0)
    (goes : (h : ℕ) → h < harts_in i.all.schedule → (s : Harts) → Running i r s → P s → P (next i h s)) where
  from : (order : List ℕ) (s : Harts) → All (λ h. h < harts_in i.all.schedule) order → Running i r s → P s
      → P (after i order s)
  unfolding after_by
  from [] s below was holds = holds
  from (h ∷ hs) s below was holds =
      let one = All-head (λ (x : ℕ). x < harts_in i.all.schedule) h hs below in
      from hs (next i h s) (All-tail (λ (x : ℕ). x < harts_in i.all.schedule) h hs below) (next_so i r h one s was).running (goes h one s was holds)

  pub always : P (harts i []) → (order : List ℕ) → AreHartsOf i order → P (harts i order)
  unfolding harts_by after_by
  always first order below = from order (harts i []) below (running i r [] (λ k d l. absurd (omega (arith, l)))) first

-- ---- what an event is

-- a domain and its hart, after what was done to them
pub part-with : (h d : ℕ) (w : World) (s : Local) → part_of h d (with_part h d w s) ≡ s
unfolding with_part with_hart
part-with h d w s =
    let later = with_part h d w s in
    ap (λ (x : Dom). record (part_of h d later) { dom = x }) (at-put_same no_dom w.doms d s.dom)
    ∙ ap₂ (λ (c : Caches) (t : ℕ). record s { caches = c; clock = t })
    (caches-with h (record w { doms = later.doms; storage = s.storage }) s.caches s.clock)
    (clock-with h (record w { doms = later.doms; storage = s.storage }) s.caches s.clock)

module _ (i : Image) (h : ℕ) (s : Harts) where
  goes_world : (b : Bool) (k : ℕ) (w : World)
      → (if b then proceeds h s w k true else proceeds h s w (suc k) false).world ≡ w
  unfolding proceeds
  goes_world true k w = refl
  goes_world false k w = refl

  -- in a slot one of its events
  pub next_in : IsInSlot h s → (next i h s).world ≡ runs None i h (slots_of h s) s.world
  unfolding next_by goes_on settles guarded
  next_in within =
      let k = slots_of h s in
      let w = runs None i h k s.world in
      subst (λ (b : Bool). (if b then goes_on None i h s else begins None i h s).world ≡ w) (sym within)
      (goes_world (nat_lt (clock_of h w) (end_on i h k)) k w)

  -- else the switch into the next one
  pub next_out : IsOutside h s → (next i h s).world ≡ begun_world i h s
  unfolding next_by begins proceeds settles guarded
  next_out outside =
      let k = slots_of h s in
      let w = begun_world i h s in
      subst (λ (b : Bool). (if b then goes_on None i h s else begins None i h s).world ≡ w) (sym outside)
      (goes_world (nat_lt (clock_of h w) (end_on i h k)) k w)

  -- the next step of the domain whose slot it is
  pub slot_step : IsInSlot h s
      → part_of h (domain_on i h s) (next i h s).world
      ≡ step (setting i.all.hardware (owner_on i h s) false) (slot_end_on i h s) (local_on i h s)
  unfolding runs guarded
  slot_step within =
      ap (part_of h (domain_on i h s)) (next_in within) ∙ part-with h (domain_on i h s) s.world _

  -- a switch leaves domains
  pub switch_same : IsOutside h s → (d : ℕ) → dom_of (next i h s).world d ≡ dom_of s.world d
  unfolding switch_on with_hart
  switch_same outside d = ap (λ (w : World). dom_of w d) (next_out outside)

module _ (i : Image) (r : Runnable i) (h : ℕ) (is : h < harts_in i.all.schedule) (s : Harts) (was : Running i r s) where
  abbrev p : Hardware
  p = i.all.hardware

  abbrev k : ℕ
  k = slots_of h s

  abbrev its : ℕ
  its = domain_on i h s

  pub named : IsDomain i its
  named = (separated_on i r h is).named k

  -- ---- the hart

  pub inside : IsInSlot h s → IsInside i h k s.world
  inside t = subst (λ (b : Bool). IsHart i b h k s.world) t (was.hart h is)

  pub time : IsOutside h s → InTime (image_on i h) h k s.world
  time t = subst (λ (b : Bool). IsHart i b h k s.world) t (was.hart h is)

  pub its_facts : HasFacts p (own_of i its) (dom_of s.world its) s.world.storage
  its_facts = (was.facts its named).facts

  clean_if : (b : Bool) → IsHart i b h k s.world → KernelIsClean p (caches_of h s.world)
  clean_if true on = on.clean
  clean_if false on = on.clean

  pub clean : KernelIsClean p (caches_of h s.world)
  clean = clean_if (progress_of h s).inside (was.hart h is)

  none_yet : s ≡ harts i [] → switches_of h s ≡ 0
  none_yet first =
      ap (λ (x : Progress). if x.inside then x.slots + 1 else x.slots)
      (ap (λ (t : Harts). progress_of h t) first ∙ at_first i r h)

  resident_if : 0 < switches_of h s → (s ≡ harts i []) ⊎ Resident p (caches_of 0 s.world)
      → Resident p (caches_of h s.world)
  resident_if some (inl first) = let none = none_yet first in absurd (omega (arith, some, none))
  resident_if some (inr there) = there

  pub resident : 0 < switches_of h s → Resident p (caches_of h s.world)
  resident some = resident_if some was.shared

  -- ---- its events

  pub slot_costs : IsInSlot h s → let a = local_on i h s in let end = slot_end_on i h s in
      EndsBy p (owner_on i h s) a.clock end (event (owner_on i h s) a.clock end a.dom) (clock_of h (next i h s).world)
  slot_costs within =
      let a = local_on i h s in
      let end = slot_end_on i h s in
      subst (λ (x : Local). EndsBy p (owner_on i h s) a.clock end (event (owner_on i h s) a.clock end a.dom) x.clock)
      (sym (slot_step i h s within))
      (step_costs p (owner_on i h s) (r.sound its).listed false end a (inside within).ways)

  -- another domain is left as it is
  pub others_event : (d : ℕ) → IsDomain i d → IsInSlot h s → d ≢ its
      → Untouched p (own_of i d) d (next i h s).world s.world
  others_event d id within other =
      let left = step_leaves i r h is k s.world (inside within) its_facts d id other in
      subst (λ (w : World). Untouched p (own_of i d) d w s.world) (sym (next_in i h s within))
      (record { dom = left.0; part = record { frames = left.1.frames; side = left.1.side; sets = left.1.sets } })

  same_if : (b : Bool) → (progress_of h s).inside ≡ b → (d : ℕ) → IsDomain i d → d ≢ its
      → dom_of (next i h s).world d ≡ dom_of s.world d
  same_if true t d id other = (others_event d id t other).dom
  same_if false t d id other = switch_same i h s t d

  -- in another's slot, and in a switch, a domain stays
  pub others_same : (d : ℕ) → IsDomain i d → (d ≢ its) ⊎ IsOutside h s
      → dom_of (next i h s).world d ≡ dom_of s.world d
  others_same d id (inl other) = same_if (progress_of h s).inside refl d id other
  others_same d id (inr outside) = switch_same i h s outside d

  -- the sets of colour 0
  sets_if : (b : Bool) → (progress_of h s).inside ≡ b → KernelsSets p (caches_of h s.world)
      → KernelsSets p (caches_of h (next i h s).world)
  sets_if true t sets =
      subst (λ (x : Local). KernelsSets p x.caches) (sym (slot_step i h s t))
      (step_sets i (separated i r) its (slot_end_on i h s) (local_on i h s) named its_facts sets)
  sets_if false t sets =
      subst (λ (w : World). KernelsSets p (caches_of h w)) (sym (next_out i h s t))
      (switched_sets (image_on i h) (separated_on i r h is) h k s.world sets)

  -- a domain in whose slot it is, and all others
  module _ (Q : Own → Dom → Type 0)
      (moves : (o : Own) (end : ℕ) (a : Local) → Q o a.dom → Q o (step (setting p o false) end a).dom)
      (holds : (d : ℕ) → IsDomain i d → Q (own_of i d) (dom_of s.world d)) where
    its_if : (b : Bool) → (progress_of h s).inside ≡ b → Q (own_of i its) (dom_of (next i h s).world its)
    its_if true t =
        subst (λ (x : Local). Q (own_of i its) x.dom) (sym (slot_step i h s t))
        (moves (own_of i its) (slot_end_on i h s) (local_on i h s) (holds its named))
    its_if false t = subst (Q (own_of i its)) (sym (switch_same i h s t its)) (holds its named)

    pub each_goes : (d : ℕ) → IsDomain i d → Q (own_of i d) (dom_of (next i h s).world d)
    each_goes d id = elim (cases_eq d its) [
      | inl same ↦
          subst (λ (x : ℕ). Q (own_of i x) (dom_of (next i h s).world x)) (sym same)
          (its_if (progress_of h s).inside refl)
      | inr other ↦ subst (Q (own_of i d)) (sym (others_same d id (inl other))) (holds d id)
    ]

-- ---- before the first event

cold_l2 : (i : Image) (n : ℕ) → (all_cold i n).l2 ≡ empty_l2
unfolding all_cold with_hart cold
cold_l2 i zero = refl
cold_l2 i (suc n) = refl

-- no set of the second level keeps a line
pub empty : EmptyLaw
unfolding harts_by after_by empty_l2 cold
empty i s way =
    ap (λ (l2 : Sets). kept_at (hierarchy i.all.hardware) l2 s way) (cold_l2 i (harts_in i.all.schedule))
    ∙ empty_law (hierarchy i.all.hardware) s way

-- ---- after every order

module _ (i : Image) (r : Runnable i) where
  -- what holds of each domain as it opens, and of what each step of its own leaves
  pub each_domain : (Q : Own → Dom → Type 0) → ((o : Own) → Q o (opening_dom i.all.hardware o))
      → ((o : Own) (end : ℕ) (a : Local) → Q o a.dom → Q o (step (setting i.all.hardware o false) end a).dom)
      → (order : List ℕ) → AreHartsOf i order → (d : ℕ) → IsDomain i d
      → Q (own_of i d) (dom_of (harts i order).world d)
  unfolding harts_by after_by opening with_hart
  each_domain Q opens moves order below =
      always i r (λ (s : Harts). (d : ℕ) → IsDomain i d → Q (own_of i d) (dom_of s.world d))
      (λ h is s was holds. each_goes i r h is s was Q moves holds)
      (λ d id. subst (Q (own_of i d))
      (sym (ap (λ (t : Table Dom). at no_dom t d) (doms_cold i (harts_in i.all.schedule)) ∙ opening_dom_is i (separated i r) d id))
      (opens (own_of i d)))
      order below

  first_sets : KernelsSets i.all.hardware (caches_of 0 (harts i []).world)
  unfolding harts_by after_by
  first_sets =
      let some = home i r 0 in
      cold_sets i.all.hardware (caches_of 0 (harts i []).world)
      (all_cold_are i (harts_in i.all.schedule) 0 (omega (arith, some))).caches

  -- the sets of colour 0 keep shared lines alone: they are of all harts
  pub sets_always : (order : List ℕ) → AreHartsOf i order → (h : ℕ) → h < harts_in i.all.schedule
      → KernelsSets i.all.hardware (caches_of h (harts i order).world)
  sets_always order below h is =
      let p = i.all.hardware in
      let held = always i r (λ (s : Harts). (g : ℕ) → g < harts_in i.all.schedule → KernelsSets p (caches_of g s.world))
      (λ g il s was holds f il'. record {
        alone = (sets_if i r g il s was (progress_of g s).inside refl (holds g il)).alone;
        clean = clean i r f il' (next i g s) (next_so i r g il s was).running;
      })
      (λ g il. record { alone = first_sets.alone; clean = clean i r g il (harts i []) (running i r [] (λ k d l. absurd (omega (arith, l)))) })
      order below in
      held h is
