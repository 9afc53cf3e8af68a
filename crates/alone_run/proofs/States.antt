-- A domain alone by the definitions: it keeps its facts, and each of its slots is over before the next one begins.
use Rattle.std.proofs.Common.{[], ◌≡◌, ℕ, zero, suc, ◌%◌, ◌≤◌, Bool, true, false, length, refl, ap, arith, mod-lt, eqb-true, eq-eqb, ne_eqb, ◌≢◌}
use Rattle.std.specs.Prelude.{◌==◌}
use Rattle.tp_base.specs.Table.{empty}
use Rattle.sched_table.specs.Schedule.{entry_of_slot, pad_of, start, slot_end}
use Rattle.pad_bound.specs.Bound.{bound_of}
use Rattle.mail_slots.specs.Sides.{Arrival}
use Rattle.image_check.specs.Public.{Public}
use Rattle.image_check.specs.Own.{Own}
use Rattle.mem_system.specs.Cost.{fresh_core, cold, on_core, flushed, pass_on, touched}
use Rattle.mem_system.specs.Operations.{enter}
use Rattle.mem_system.specs.Worst.{HasWays}
use Rattle.mem_system.proofs.Worst.{worst_law}
use Rattle.world_view.specs.Kernel.{layout}
use Rattle.world_view.specs.Cost.{hierarchy}
use Rattle.world_view.specs.Machine.{Local, enter_part, alone_opening, alone_enter, alone_in, alone_out, alone_if, alone_mail, alone}
use Rattle.world_view.specs.Relations.{IsKernel, HasFacts, bound}
use Rattle.world_view.proofs.time.ActCosts.{instruction_within}
use Rattle.world_view.proofs.steps.Fuel.{IsTimed}
use Rattle.world_view.proofs.opening.OpeningFacts.{kernel_is, placed_facts}
use Rattle.world_view.proofs.steps.StepLaws.{keeps_itself, steps_keep}
use Rattle.world_view.proofs.time.TimeLaws.{IsSoon, cold_ways, stretch_soon}
use Rattle.alone_run.specs.Runs.{RunsAlone}

module _ (p : Public) (o : Own) {number : ℕ} (runs : RunsAlone p o number) where
  pub kernel : IsKernel p.hardware o
  kernel = kernel_is p.hardware o runs.pool.enough runs.pool.sound runs.hardware (runs.colours.no_zero 0)

  timed : IsTimed p.hardware
  timed =
      let base = runs.hardware.costs.base in
      let trap = runs.hardware.costs.trap in record { base = omega (arith, base); trap = omega (arith, trap) }

  -- ---- facts

  facts_if : (k : ℕ) (words : Arrival) (s : Local) (b : Bool) → HasFacts p.hardware o s.dom s.storage
      → HasFacts p.hardware o (alone_if p o k words s b).dom (alone_if p o k words s b).storage
  unfolding alone_if alone_out alone_in alone_enter
  facts_if k words s true h =
      let begun = alone_enter p o k words s in
      (steps_keep p.hardware o kernel true (slot_end p.schedule k) _ begun.storage begun (keeps_itself p.hardware o begun h)).facts
  facts_if k words s false h = h

  pub alone_facts : (d k : ℕ) → HasFacts p.hardware o (alone p o d k).dom (alone p o d k).storage
  unfolding alone_mail alone_opening
  alone_facts d zero = placed_facts p.hardware o runs.pool.enough runs.pool.sound empty
  alone_facts d (suc k) = facts_if k _ (alone p o d k) _ (alone_facts d k)

  -- ---- time

  entered_ways : (k : ℕ) (words : Arrival) (s : Local) → HasWays (hierarchy p.hardware) (alone_enter p o k words s).caches
  unfolding alone_enter enter_part cold
  entered_ways k words s =
      (worst_law (hierarchy p.hardware) true (enter (layout p.hardware o)) (record s.caches { core = fresh_core (hierarchy p.hardware) }) (cold_ways p.hardware)).ways

  slot_soon : (k : ℕ) (words : Arrival) (s : Local)
      → IsSoon p.hardware timed o true (slot_end p.schedule k) (alone_in p o k words s)
  unfolding alone_in alone_enter
  slot_soon k words s =
      let within = instruction_within p.hardware o runs.pool.sound.listed 0 s.dom s.storage in
      let base = timed.base in
      stretch_soon p.hardware timed o true (slot_end p.schedule k) runs.pool.sound.listed (alone_enter p o k words s)
      (record { clock = omega (arith, within, base); ways = entered_ways k words s })

  pad_enough : (k : ℕ) → (entry_of_slot p.schedule k).domain ≡ number
      → bound p.hardware o ≤ pad_of p.schedule (suc k)
  pad_enough k own = runs.padded (k % length p.schedule) (mod-lt k runs.schedule.some) own

  early_if : (k : ℕ) (words : Arrival) (s : Local) (b : Bool) → (entry_of_slot p.schedule k).domain == number ≡ b
      → s.clock ≤ start p.schedule k → (alone_if p o k words s b).clock ≤ start p.schedule (suc k)
  unfolding alone_if alone_out start bound_of
  early_if k words s true own h =
      let soon = (slot_soon k words s).clock in
      let pad = pad_enough k (eqb-true (entry_of_slot p.schedule k).domain number own) in
      omega (arith, soon, pad)
  early_if k words s false own h = omega (arith, h)

  -- its last slot was over before the next one of the schedule begins
  pub alone_early : (k : ℕ) → (alone p o number k).clock ≤ start p.schedule k
  unfolding alone_mail alone_opening
  alone_early zero = omega arith
  alone_early (suc k) = early_if k _ (alone p o number k) _ refl (alone_early k)

-- ---- its core is fresh between its slots

fresh_if : (p : Public) (o : Own) (k : ℕ) (words : Arrival) (s : Local) (b : Bool)
    → s.caches.core ≡ fresh_core (hierarchy p.hardware)
    → (alone_if p o k words s b).caches.core ≡ fresh_core (hierarchy p.hardware)
unfolding alone_if alone_out touched on_core flushed pass_on
fresh_if p o k words s true fresh = refl
fresh_if p o k words s false fresh = fresh

pub alone_fresh : (p : Public) (o : Own) (d k : ℕ)
    → (alone p o d k).caches.core ≡ fresh_core (hierarchy p.hardware)
unfolding alone_mail alone_opening cold
alone_fresh p o d zero = refl
alone_fresh p o d (suc k) = fresh_if p o k _ (alone p o d k) ((entry_of_slot p.schedule k).domain == d) (alone_fresh p o d k)

-- ---- a slot by whose it is

pub others_slot : (p : Public) (o : Own) (d k : ℕ) → (entry_of_slot p.schedule k).domain ≢ d
    → alone p o d (suc k) ≡ alone p o d k
unfolding alone_mail alone_if
others_slot p o d k other = ap (alone_if p o k [] (alone p o d k)) (ne_eqb (entry_of_slot p.schedule k).domain d other)

pub own_slot : (p : Public) (o : Own) (d k : ℕ) → (entry_of_slot p.schedule k).domain ≡ d
    → alone p o d (suc k) ≡ alone_out p.hardware o (alone_in p o k [] (alone p o d k))
unfolding alone_mail alone_if
own_slot p o d k own = ap (alone_if p o k [] (alone p o d k)) (eq-eqb (entry_of_slot p.schedule k).domain d own)
