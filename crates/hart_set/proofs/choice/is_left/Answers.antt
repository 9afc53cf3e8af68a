use Rattle.std.proofs.Common.{◌≡◌, ℕ, zero, suc, Bool, refl, ap, ◌∙◌}
use Rattle.std.specs.Prelude.{nat_lt}
use Rattle.event_orders.specs.Orders.{is_owed_or}
use Rattle.hart_set.proofs.Standing.{its_slots}
use Rattle.hart_set.proofs.choice.is_left.Goals as goal

none_owed : (b : Bool) (k : ℕ) → k ≡ 0 → b ≡ is_owed_or b k
none_owed b zero none = refl
none_owed b (suc k) none = cc none

pub returns-then-owed-eq0 : goal.returns-then-owed-eq0
returns-then-owed-eq0 c = record {
  left = λ order stands.
      let here = its_slots c.args.harts.now order stands c.args.h c.requires.hart c.slots.result c.slots.ensures.value in
      ap (λ (k : ℕ). nat_lt k c.args.slots) here ∙ none_owed _ c.args.owed c.if-owed-eq0.true;
}
