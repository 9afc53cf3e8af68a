-- For the tests: the slots are empty, and no slot names the second frame.
use Rattle.std.proofs.Common.{rules, ◌≡◌, ◌≢◌, ◌<◌, length, true, false, Option, Some, None, ap, sym, subst, ◌∙◌, arith}
use Rattle.std.proofs.lemmas.List.{length-replicate}
use Rattle.frame_colours.specs.FreeList.{is_free}
use Rattle.cap_table.specs.declared.Cap.{Cap}
use Rattle.cap_table.specs.declared.Cap.TheVariants as cap
use Rattle.cap_table.specs.Slots.{Slots, cap_at, empty_slots}
use Rattle.cap_table.specs.Owning.{IsUnnamed}
use Rattle.cap_table.proofs.OwnerLemmas.{set_other}
use Rattle.cap_table.proofs.SoundLemmas.{empty_unnamed, still_unnamed}
use Rattle.kernel_tests.proofs.capabilities.filled.Goals as goal

pub put-requires-clause-empty : goal.put-requires-clause-empty
unfolding empty_slots
put-requires-clause-empty c = ap (λ (slots : Slots). cap_at slots 0) c.in_ok-caps.ensures.empty

pub put-requires-clause-new : goal.put-requires-clause-new
put-requires-clause-new c =
    subst (λ (slots : Slots). IsUnnamed slots c.hold.result) (sym c.in_ok-caps.ensures.empty)
    (empty_unnamed c.hold.result)

pub put-requires-2-clause-empty : goal.put-requires-2-clause-empty
unfolding empty_slots
put-requires-2-clause-empty c =
    ap (λ (slots : Slots). cap_at slots 1) c.put.ensures.becomes
    ∙ (set_other c.in_ok-caps.caps 0 (Some (cap.Frame c.hold.result c.new-2.result None)) None 1
    (λ e. absurd (omega (arith, e)))
    ∙ ap (λ (slots : Slots). cap_at slots 1) c.in_ok-caps.ensures.empty)

pub put-requires-2-clause-new : goal.put-requires-2-clause-new
unfolding empty_slots
put-requires-2-clause-new c =
    let taken : is_free c.take.new.self c.in_ok-page.page ≡ false = search rules in
    let free : is_free c.take.new.self c.in_ok-table.table ≡ true = search rules in
    let apart : c.hold.result ≢ c.table.result = λ e.
    let p : false ≡ true =
    sym taken
    ∙ (ap (is_free c.take.new.self) (sym c.hold.ensures.frame ∙ (e ∙ c.table.ensures.frame)) ∙ free) in
    absurd (cc p) in
    let below : 0 < length c.in_ok-caps.caps =
    omega (arith, ap length c.in_ok-caps.ensures.empty, length-replicate {A = Option Cap} 64 None) in
    subst (λ (slots : Slots). IsUnnamed slots c.table.result) (sym c.put.ensures.becomes)
    (still_unnamed c.in_ok-caps.caps 0 c.table.result (Some (cap.Frame c.hold.result c.new-2.result None)) below
    (subst (λ (slots : Slots). IsUnnamed slots c.table.result) (sym c.in_ok-caps.ensures.empty) (empty_unnamed c.table.result))
    (λ x. apart (cc x)) (λ x. absurd (cc x)))

pub put-requires-3-clause-empty : goal.put-requires-3-clause-empty
unfolding empty_slots
put-requires-3-clause-empty c =
    ap (λ (slots : Slots). cap_at slots 2) c.put-2.ensures.becomes
    ∙ (set_other c.put.new.self 1 (Some (cap.Table c.table.result None)) None 2
    (λ e. absurd (omega (arith, e)))
    ∙ (ap (λ (slots : Slots). cap_at slots 2) c.put.ensures.becomes
    ∙ (set_other c.in_ok-caps.caps 0 (Some (cap.Frame c.hold.result c.new-2.result None)) None 2
    (λ e. absurd (omega (arith, e)))
    ∙ ap (λ (slots : Slots). cap_at slots 2) c.in_ok-caps.ensures.empty)))
