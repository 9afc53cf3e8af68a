use Rattle.std.proofs.Common.{arith, rules, ◌≡◌, ◌∙◌, ap, refl, ℕ, ◌<◌, List, [], ◌∷◌, length, take}
use Rattle.std.specs.Prelude.{slice_set}
use Rattle.kernel_clone.specs.Footprints.{WorkDone}
use Rattle.kernel_call.proofs.outcome.tell_entry.Goals as goal

-- the first of a list that was set
first_set : (xs : List ℕ) (x : ℕ) → 0 < length xs → take 1 (slice_set xs 0 x) ≡ x ∷ []
first_set [] x some = absurd (omega (arith, some))
first_set (y ∷ ys) x some = refl

pub returns : goal.returns
returns c = record {
  written = λ op fresh.
      let old = c.args.work.now in
      let long : length old.entries ≡ 64 = search rules in
      ap (λ (entries : List ℕ). record { op = old.op; zeroed = old.zeroed; entries = entries })
      (first_set old.entries c.args.entry (omega (arith, long)))
      ∙ ap (λ (w : WorkDone). record w { entries = c.args.entry ∷ [] }) fresh;
}
