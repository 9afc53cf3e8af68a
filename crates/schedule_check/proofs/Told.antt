-- A refusal as the code makes it, whose numbers are signed, is that of the rule.
use Rattle.std.proofs.Common.{◌≡◌, ℕ, ◌<◌, ◌^◌, Some, to_z, w64, sym, ap, ap₂, ◌∙◌}
use Rattle.std.specs.Prelude.{ℤ, pos}
use Rattle.std.proofs.lemmas.Int.{to_z_pos}
use Rattle.image_record.specs.declared.refusal.Refusal.{Refusal}
use Rattle.image_record.specs.Cases.{refusal}

pub told : (rule at : ℕ) (found given wanted : ℤ) (r : Refusal) → at < 2 ^ 63 → given ≡ found
    → r ≡ refusal rule (to_z w64 at) given wanted
    → Some (refusal rule (pos at) found wanted) ≡ Some r
told rule at found given wanted r l same is = ap Some (ap₂ (λ n x. refusal rule n x wanted) (sym (to_z_pos w64 at l)) (sym same) ∙ sym is)
