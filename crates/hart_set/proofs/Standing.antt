-- What the code's harts tell of the definition's.
use Rattle.std.proofs.Common.{◌≡◌, ◌∙◌, ℕ, ◌<◌, List, Some, inl, inr, arith}
use Rattle.std.specs.Prelude.{slice_get}
use Rattle.std.proofs.lemmas.Option.{slice_get_cases}
use Rattle.image_record.specs.Record.{Raw}
use Rattle.sched_table.specs.Schedule.{harts_in}
use Rattle.world_view.specs.Machine.{clock_of}
use Rattle.world_view.specs.Harts.{slots_of}
use Rattle.hart_orders.specs.declared.hart.Hart.{Hart}
use Rattle.hart_set.specs.declared.set.State.{State}
use Rattle.hart_set.specs.Standing.{AtHart}
use Rattle.hart_set.specs.Models.{image_of, harts_after, StandsAfter}

module _ (v : Raw × State) (order : List ℕ) (stands : StandsAfter v order) (h : ℕ) (there : h < harts_in (image_of v).all.schedule) where
  found : (x : Hart) × (slice_get v.1.harts.items h ≡ Some x)
  found = elim (slice_get_cases v.1.harts.items h).1 [
    | inl some ↦ (some.0, some.2)
    | inr none ↦ let past = none.0 in absurd (omega (arith, past, there, stands.all_harts))
  ]

  pub its_slots : (k : ℕ) → AtHart v.1 h (λ x. k ≡ x.slots) → k ≡ slots_of h (harts_after v order)
  its_slots k is = let x = found in is x.0 x.1 ∙ (stands.each_hart h x.0 x.1).slots

  pub its_clock : (k : ℕ) → AtHart v.1 h (λ x. k ≡ x.clock) → k ≡ clock_of h (harts_after v order).world
  its_clock k is = let x = found in is x.0 x.1 ∙ (stands.each_hart h x.0 x.1).machine.time
