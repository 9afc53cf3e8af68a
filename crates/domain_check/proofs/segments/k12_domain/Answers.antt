use Rattle.std.proofs.Common.{length, map, sym, ap, ap₂, ◌∙◌}
use Rattle.std.proofs.lemmas.List.{length-map}
use Rattle.image_record.specs.Parts.{domain_model, segment_model}
use Rattle.image_record.specs.Cases.{or_else, first_in}
use Rattle.domain_check.specs.Segments.{segment_case, entry_case, k12_domain, segment_of}
use Rattle.image_record.proofs.Loops.{handed_on, broken, no_value}
use Rattle.domain_check.proofs.segments.k12_domain.Goals as goal

pub returns-in_err-segments-clause-verdict : goal.returns-in_err-segments-clause-verdict
unfolding k12_domain
returns-in_err-segments-clause-verdict c =
    let earlier = c.args.earlier.now in
    let o = domain_model c.args.domain.now in
    let many = length-map earlier domain_model in
    let own = ap₂ (λ n ss. first_in (segment_case n) (map segment_model ss)) many (sym c.as_slice.ensures.value) in
    handed_on c.from_residual.result c.in_err-segments.field-0.0 _ _ c.from_residual.ensures.1 c.in_err-segments.ensures.verdict
    (λ r is. ap (λ x. or_else x (entry_case (length (map domain_model earlier)) o)) (own ∙ is))

pub returns-in_err-segments-clause-value : goal.returns-in_err-segments-clause-value
returns-in_err-segments-clause-value c = no_value c.from_residual.result _ c.from_residual.ensures.0

pub returns-in_err-entry_case-clause-verdict : goal.returns-in_err-entry_case-clause-verdict
unfolding k12_domain
returns-in_err-entry_case-clause-verdict c =
    let earlier = c.args.earlier.now in
    let o = domain_model c.args.domain.now in
    let many = length-map earlier domain_model in
    let own =
    ap₂ (λ n ss. first_in (segment_case n) (map segment_model ss)) many (sym c.as_slice.ensures.value)
    ∙ c.in_ok-segments.ensures.verdict in
    let entry = ap (λ n. entry_case n o) many ∙ c.in_err-entry_case.ensures.verdict in
    broken c.from_residual-in_err-entry_case.result _ _ c.from_residual-in_err-entry_case.ensures.1 (ap₂ or_else own entry)

pub returns-in_err-entry_case-clause-value : goal.returns-in_err-entry_case-clause-value
returns-in_err-entry_case-clause-value c = no_value c.from_residual-in_err-entry_case.result _ c.from_residual-in_err-entry_case.ensures.0

pub returns-clause-verdict : goal.returns-clause-verdict
unfolding k12_domain
returns-clause-verdict c =
    let earlier = c.args.earlier.now in
    let o = domain_model c.args.domain.now in
    let many = length-map earlier domain_model in
    let own =
    ap₂ (λ n ss. first_in (segment_case n) (map segment_model ss)) many (sym c.as_slice.ensures.value)
    ∙ c.in_ok-segments.ensures.verdict in
    ap₂ or_else own (ap (λ n. entry_case n o) many ∙ c.in_ok-entry_case.ensures.verdict)

pub returns-clause-value : goal.returns-clause-value
returns-clause-value c = c.in_ok-segments.ensures.value ∙ ap (λ ss. map segment_of (map segment_model ss)) c.as_slice.ensures.value
