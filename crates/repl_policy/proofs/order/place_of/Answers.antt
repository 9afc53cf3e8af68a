use Rattle.std.proofs.Common.{◌≢◌, ◌∙◌, ◌+◌, ◌<◌, ℕ, ap, sym, arith, inl, inr}
use Rattle.std.proofs.lemmas.Bool.{cases_eq, cases_lt}
use Rattle.repl_policy.specs.Packed.{way_at}
use Rattle.repl_policy.proofs.Shifts.{way_stands}
use Rattle.repl_policy.proofs.order.place_of.Goals as goal

pub loop-place-preserved : goal.loop-place-preserved
loop-place-preserved c =
    let place : ℕ = c.loop-place.place in
    let there = way_stands c.args.ways c.args.state c.args.way c.requires.valid.0 c.requires.valid.1 c.requires.few c.requires.below in
    let other : way_at c.args.state place ≢ c.args.way = λ same. c.loop-place-test.true (same ∙ sym c.from.ensures) in
    let newer : (k : ℕ) → k < place + 1 → way_at c.args.state k ≢ c.args.way = λ k below same.
    elim (cases_eq k place) [
      | inl here ↦ other (ap (way_at c.args.state) (sym here) ∙ same)
      | inr apart ↦ c.loop-place.invariant.newer k (omega arith) same
    ] in
    let within : place + 1 < c.args.ways = elim (cases_lt (place + 1) c.args.ways) [
      | inl lt ↦ lt
      | inr ge ↦ absurd (newer there.place (omega (arith, there.below, ge)) there.here)
    ] in
    record { within = within; newer = newer }
