use Rattle.std.proofs.Common.{Bool, Some, None, to_z, of_z, w64, length, map, sym, ap, ap₂, ◌∙◌}
use Rattle.std.specs.Prelude.{if◌then◌else◌}
use Rattle.std.proofs.lemmas.Int.{to_z-of_z}
use Rattle.std.proofs.lemmas.List.{length-map}
use Rattle.image_record.specs.Parts.{domain_model}
use Rattle.image_record.specs.Cases.{or_else}
use Rattle.image_record.specs.Numbers.{names}
use Rattle.schedule_check.specs.Interrupts.{named_before}
use Rattle.schedule_check.proofs.interrupts.named_before.Goals as goal

pub returns-in-Some-clause-value : goal.returns-in-Some-clause-value
returns-in-Some-clause-value c =
    let z = to_z w64 (of_z w64 c.args.line) in
    let ds = map domain_model c.args.domains.now in
    let earlier = c.args.earlier.now in
    ap (λ o. or_else o (if names earlier z then Some (length ds) else None)) (sym c.in-Some.is ∙ c.lined_so.ensures.value)
    ∙ ap (named_before ds earlier) (to_z-of_z w64 c.args.line c.ranges.line)

pub returns-then-names-clause-value : goal.returns-then-names-clause-value
returns-then-names-clause-value c =
    let ds = map domain_model c.args.domains.now in
    let earlier = c.args.earlier.now in
    ap Some (sym (length-map c.args.domains.now domain_model))
    ∙ ap₂ (λ o (b : Bool). or_else o (if b then Some (length ds) else None))
    (sym c.in_default.is ∙ c.lined_so.ensures.value) (sym c.if-names.true ∙ c.names.ensures.value)
    ∙ ap (named_before ds earlier) (to_z-of_z w64 c.args.line c.ranges.line)

pub returns-clause-value : goal.returns-clause-value
returns-clause-value c =
    let ds = map domain_model c.args.domains.now in
    let earlier = c.args.earlier.now in
    ap₂ (λ o (b : Bool). or_else o (if b then Some (length ds) else None))
    (sym c.in_default.is ∙ c.lined_so.ensures.value) (sym c.if-names.false ∙ c.names.ensures.value)
    ∙ ap (named_before ds earlier) (to_z-of_z w64 c.args.line c.ranges.line)
