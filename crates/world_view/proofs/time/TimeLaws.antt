-- When slots end and begin.
use Rattle.std.proofs.Common.{◌≡◌, ℕ, Bool, true, false, cond, eqb, eqb-true, max, subst, sym, ap, ◌∙◌, ◌+◌, ◌-◌, ◌<◌, ◌≤◌, List, [], ◌∷◌, ◌++◌, length, refl, arith}
use Rattle.std.proofs.lemmas.List.{length-replicate}
use Rattle.std.specs.Prelude.{Some, None, ◌≢◌}
use Rattle.rv_decode.specs.declared.Instr.TheVariants.{Ecall}
use Rattle.pad_bound.specs.Bound.{worst_instruction}
use Rattle.pad_bound.specs.Worst.{AreWithin}
use Rattle.tp_base.specs.Table.{at-empty}
use Rattle.set_cache.specs.Cache.{CacheSet, fresh_set}
use Rattle.mem_system.specs.Cost.{Touched, cold, fresh_core}
use Rattle.mem_system.specs.Worst.{HasWays}
use Rattle.mem_system.specs.Operations.{shared_region}
use Rattle.mem_system.proofs.KernelSets.{any_colour}
use Rattle.mem_system.proofs.Worst.{worst_law, on_time_law}
use Rattle.hardware_check.specs.Hardware.{Hardware}
use Rattle.sched_table.specs.declared.schedule.Entry.{Entry}
use Rattle.sched_table.specs.Schedule.{entry_in}
use Rattle.image_check.specs.Own.{Own}
use Rattle.image_check.specs.Image.{Image, own_of}
use Rattle.sched_table.proofs.Starts.{pad_law}
use Rattle.sched_table.specs.Schedule.{entry_of_slot, pad_of, start, last_end, outgoing}
use Rattle.world_view.specs.Kernel.{estate, layout}
use Rattle.world_view.specs.Cost.{hierarchy, region}
use Rattle.world_view.specs.Event.{Event, event, instruction, delivery_touches}
use Rattle.world_view.specs.Event.Event.{Jump, Deliver, Run}
use Rattle.world_view.specs.Machine.{caches_of, clock_of, setting, Local, World, paid, delivered, happened, step, steps, stretch, clone_of, switch_work, guarded, switch_on}
use Rattle.world_view.specs.Used.{largest_of}
use Rattle.world_view.specs.Relations.{own_shape, largest_step, bound, ended_own, InTime, AllWithinPads}
use Rattle.world_view.proofs.opening.Separate.{Separated}
use Rattle.world_view.specs.EventLaws.{EndsBy, next_instruction, StepCostLaw, PlainCostLaw}
use Rattle.world_view.proofs.steps.Fuel.{IsTimed, StaysWithin, event_within, steps_by}
use Rattle.world_view.proofs.time.ActCosts.{instruction_within, delivery_within, plain_within}
use Rattle.world_view.proofs.runs.SwitchParts.{all_touches, switch_is, caches-with, clock-with}
use Rattle.world_view.proofs.facts.KernelSets.{leave_any, who_leaves, any_sharing}

-- ---- a step, from any caches

-- what an event costs at most
costs_if : (p : Hardware) (o : Own) → AreWithin o.makes o.calls → (pinned : Bool) (end : ℕ) (s : Local) (e : Event)
    → HasWays (hierarchy p) s.caches → StaysWithin end e
    → EndsBy p o s.clock end e (happened (setting p o pinned) s e).clock
unfolding happened paid delivered
costs_if p o listed pinned end s (Jump t) ways stays = stays
costs_if p o listed pinned end s (Deliver line) ways stays =
    let within = delivery_within p o in
    let cost = (worst_law (hierarchy p) pinned (delivery_touches p (layout p o)) s.caches ways).cost in
    omega (arith, within, cost)
costs_if p o listed pinned end s Run ways stays =
    let ts = (instruction p (estate p o) (layout p o) s.clock s.dom s.storage).notes in
    let within = instruction_within p o listed s.clock s.dom s.storage in
    let cost = (worst_law (hierarchy p) pinned ts s.caches ways).cost in
    omega (arith, within, cost)

pub step_costs : StepCostLaw
unfolding step
step_costs p o listed pinned end s ways = costs_if p o listed pinned end s (event o s.clock end s.dom) ways (event_within o s.clock end s.dom)

-- an instruction that makes no call is within the bound's
plain_if : (p : Hardware) (o : Own) (pinned : Bool) (s : Local) (e : Event) → HasWays (hierarchy p) s.caches
    → e ≡ Run
    → next_instruction p o s.dom s.storage.mem ≢ Some Ecall
    → (happened (setting p o pinned) s e).clock ≤ s.clock + worst_instruction (own_shape p o)
unfolding happened paid
plain_if p o pinned s (Jump t) ways is plain = absurd (cc is)
plain_if p o pinned s (Deliver line) ways is plain = absurd (cc is)
plain_if p o pinned s Run ways is plain =
    let ts = (instruction p (estate p o) (layout p o) s.clock s.dom s.storage).notes in
    let within = plain_within p o s.clock s.dom s.storage plain in
    let cost = (worst_law (hierarchy p) pinned ts s.caches ways).cost in
    omega (arith, within, cost)

pub plain_costs : PlainCostLaw
unfolding step
plain_costs p o pinned end s ways is plain = plain_if p o pinned s (event o s.clock end s.dom) ways is plain

-- ---- a slot

module _ (p : Hardware) (timed : IsTimed p) (o : Own) (pinned : Bool) (end : ℕ) where
  -- the clock is past the end by less than the largest step, and the caches have their ways
  pub record IsSoon (s : Local) : Type 0 where
    pub clock : s.clock < end + largest_step p o
    pub ways : HasWays (hierarchy p) s.caches

  soon_if : AreWithin o.makes o.calls → (s : Local) (e : Event) → s.clock < end → HasWays (hierarchy p) s.caches → StaysWithin end e
      → IsSoon (happened (setting p o pinned) s e)
  unfolding happened paid delivered
  soon_if listed s (Jump t) below ways stays =
      let within = instruction_within p o listed s.clock s.dom s.storage in
      let base = timed.base in
      record { clock = omega (arith, base, within, stays); ways = ways }
  soon_if listed s (Deliver line) below ways stays =
      let costs = costs_if p o listed pinned end s (Deliver line) ways stays in
      record {
        clock = omega (arith, below, costs);
        ways = (worst_law (hierarchy p) pinned (delivery_touches p (layout p o)) s.caches ways).ways;
      }
  soon_if listed s Run below ways stays =
      let ts = (instruction p (estate p o) (layout p o) s.clock s.dom s.storage).notes in
      let costs = costs_if p o listed pinned end s Run ways stays in
      record { clock = omega (arith, below, costs); ways = (worst_law (hierarchy p) pinned ts s.caches ways).ways }

  -- a step that begins in time ends past the end by less than the largest step
  pub step_soon : AreWithin o.makes o.calls → (s : Local) → s.clock < end → IsSoon s → IsSoon (step (setting p o pinned) end s)
  unfolding step
  step_soon listed s below soon = soon_if listed s (event o s.clock end s.dom) below soon.ways (event_within o s.clock end s.dom)

  -- so do any number of steps
  pub steps_soon : AreWithin o.makes o.calls → (n : ℕ) (s : Local) → IsSoon s → IsSoon (steps (setting p o pinned) end n s)
  steps_soon listed n s soon = steps_by (setting p o pinned) end IsSoon (step_soon listed) n s soon

  pub stretch_soon : AreWithin o.makes o.calls → (s : Local) → IsSoon s → IsSoon (stretch (setting p o pinned) end s)
  stretch_soon listed s soon = steps_soon listed (end - s.clock) s soon

-- ---- a switch

pub cold_ways : (p : Hardware) → HasWays (hierarchy p) (cold (hierarchy p))
unfolding cold fresh_core
cold_ways p s below =
    let ways = (hierarchy p).l1d.ways in
    ap (λ (x : CacheSet). length x.places) (at-empty (fresh_set ways) s) ∙ length-replicate ways None

pub switch_ways : (i : Image) (h k : ℕ) (w : World) → HasWays (hierarchy i.all.hardware) (caches_of h w)
    → HasWays (hierarchy i.all.hardware) (caches_of h (switch_on (guarded i) i h k w))
unfolding switch_on guarded
switch_ways i h k w ways =
    let p = i.all.hardware in
    let out = outgoing i.all.schedule k in
    let d = (entry_of_slot i.all.schedule k).domain in
    let touches = worst_law (hierarchy p) false (all_touches i out d) (caches_of h w) ways in
    subst (HasWays (hierarchy p)) (sym (caches-with h _ _ _))
    (subst (λ (r : Touched). HasWays (hierarchy p) r.caches) (sym (switch_is i out d (caches_of h w))) touches.ways)

pub used_in_bound : (i : Image) (r : Separated i) (h k : ℕ) (w : World) → InTime i h k w
    → (clock_of h w + (switch_work i (outgoing i.all.schedule k) (entry_of_slot i.all.schedule k).domain (caches_of h w)).cost) - last_end i.all.schedule k ≤ bound i.all.hardware (ended_own i k)
unfolding hierarchy layout region shared_region
used_in_bound i r h k w time =
    let p = i.all.hardware in
    let out = outgoing i.all.schedule k in
    let d = (entry_of_slot i.all.schedule k).domain in
    subst (λ (r : Touched). (clock_of h w + r.cost) - last_end i.all.schedule k ≤ bound p (ended_own i k))
    (sym (switch_is i out d (caches_of h w)))
    (on_time_law (hierarchy p) any_colour false p.shared (ended_own i k).calls (last_end i.all.schedule k)
    (clock_of h w) (clone_of i out) (layout p (own_of i d))
    (caches_of h w) time.ways time.clean (any_sharing i r) (leave_any i r out (who_leaves i r k))
    (record { line = refl; shared = refl }) time.over time.soon)

pub used_in_pad : (i : Image) (r : Separated i) (h k : ℕ) (w : World)
    → bound i.all.hardware (ended_own i k) ≤ pad_of i.all.schedule k → InTime i h k w
    → (clock_of h w + (switch_work i (outgoing i.all.schedule k) (entry_of_slot i.all.schedule k).domain (caches_of h w)).cost) - last_end i.all.schedule k ≤ pad_of i.all.schedule k
used_in_pad i r h k w padded time = let used = used_in_bound i r h k w time in omega (arith, padded, used)

-- the next slot begins at its start
pub switch_on_start : (i : Image) (r : Separated i) (h k : ℕ) (w : World)
    → bound i.all.hardware (ended_own i k) ≤ pad_of i.all.schedule k → InTime i h k w
    → clock_of h (switch_on (guarded i) i h k w) ≡ start i.all.schedule k
unfolding switch_on guarded
switch_on_start i r h k w padded time =
    let used = used_in_pad i r h k w padded time in
    let pad = pad_law i.all.schedule k in
    clock-with h _ _ _ ∙ omega (arith, used, pad)

-- ---- what entries' switches take

pub within_append : (es : List Entry) (us vs : List (ℕ × ℕ)) → AllWithinPads es us → AllWithinPads es vs
    → AllWithinPads es (us ++ vs)
within_append es [] vs h k = k
within_append es (u ∷ us) vs h k = (h.0, within_append es us vs h.1 k)

largest_if : (e largest pad : ℕ) (u : ℕ × ℕ) (b : Bool) → eqb u.0 e ≡ b → largest ≤ pad
    → (u.0 ≡ e → u.1 ≤ pad) → cond b (max u.1 largest) largest ≤ pad
largest_if e largest pad u true t h k = let here = k (eqb-true u.0 e t) in omega arith
largest_if e largest pad u false t h k = h

-- the largest of an entry's switches is within its pad
pub largest_within : (es : List Entry) (e : ℕ) (us : List (ℕ × ℕ)) → AllWithinPads es us
    → largest_of e us ≤ (entry_in es e).pad
unfolding largest_of
largest_within es e [] h = omega arith
largest_within es e (u ∷ us) h =
    largest_if e (largest_of e us) (entry_in es e).pad u (eqb u.0 e) refl (largest_within es e us h.1)
    (λ q. subst (λ (x : ℕ). u.1 ≤ (entry_in es x).pad) q h.0)
