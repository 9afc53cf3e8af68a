-- For the tests: the slots are empty at first.
use Rattle.std.proofs.Common.{ap, sym, subst, ◌∙◌, Some, None, arith}
use Rattle.cap_table.specs.declared.Cap.TheVariants as cap
use Rattle.cap_table.specs.Slots.{Slots, cap_at}
use Rattle.cap_table.specs.Owning.{IsUnnamed}
use Rattle.cap_table.proofs.OwnerLemmas.{set_other}
use Rattle.cap_table.proofs.SoundLemmas.{empty_at, empty_unnamed}
use Rattle.kernel_tests.proofs.calls.slots.Goals as goal

pub put-requires-clause-empty : goal.put-requires-clause-empty
put-requires-clause-empty c = ap (λ (slots : Slots). cap_at slots 1) c.in_ok-caps.ensures.empty ∙ empty_at 1

pub put-requires-clause-new : goal.put-requires-clause-new
put-requires-clause-new c =
    subst (λ (slots : Slots). IsUnnamed slots c.args.table) (sym c.in_ok-caps.ensures.empty) (empty_unnamed c.args.table)

pub put-requires-2-clause-empty : goal.put-requires-2-clause-empty
put-requires-2-clause-empty c =
    ap (λ (slots : Slots). cap_at slots 0) c.put.ensures.becomes
    ∙ (set_other c.in_ok-caps.caps 1 (Some (cap.Table c.args.table None)) None 0 (λ e. absurd (omega (arith, e)))
    ∙ (ap (λ (slots : Slots). cap_at slots 0) c.in_ok-caps.ensures.empty ∙ empty_at 0))

pub put-requires-3-clause-empty : goal.put-requires-3-clause-empty
put-requires-3-clause-empty c =
    ap (λ (slots : Slots). cap_at slots 2) c.put-2.ensures.becomes
    ∙ (set_other c.put.new.self 0 (Some (cap.Irq 3)) None 2 (λ e. absurd (omega (arith, e)))
    ∙ (ap (λ (slots : Slots). cap_at slots 2) c.put.ensures.becomes
    ∙ (set_other c.in_ok-caps.caps 1 (Some (cap.Table c.args.table None)) None 2 (λ e. absurd (omega (arith, e)))
    ∙ (ap (λ (slots : Slots). cap_at slots 2) c.in_ok-caps.ensures.empty ∙ empty_at 2))))
