use Rattle.std.proofs.Common.{◌≡◌, rules, true, false, pos, to_z, w64, map, sym, ap, subst, ◌∙◌}
use Rattle.std.specs.Prelude.{string_bytes, Option}
use Rattle.std.specs.List.{list_any}
use Rattle.std.proofs.lemmas.List.{length-map}
use Rattle.image_record.specs.declared.refusal.Refusal.{Refusal}
use Rattle.image_record.specs.Parts.{domain_model, segment_model}
use Rattle.image_record.specs.Numbers.{names}
use Rattle.image_record.specs.Outcomes.{IsVerdict}
use Rattle.domain_check.specs.Capabilities.{k13_refusal, lies_in}
use Rattle.domain_check.proofs.Slots.{of_page, of_line}
use Rattle.domain_check.proofs.capabilities.named_case.Goals as goal

pub returns-then-not-lies_in_any : goal.returns-then-not-lies_in_any
returns-then-not-lies_in_any c =
    let earlier = map (λ s. string_bytes s) c.args.earlier.now in
    let lies =
    ap (λ ss. list_any (lies_in c.in-Page.page) (map segment_model ss)) (sym c.as_slice.ensures.value)
    ∙ sym c.if-not-lies_in_any.ensures.value in
    record {
      verdict =
          of_page (domain_model c.args.domain.now) c.args.d earlier c.args.text.now c.args.named c.in-Page.page false c.in-Page.is lies
          ∙ ap (λ n. k13_refusal c.args.d n 3) (length-map c.args.earlier.now (λ s. string_bytes s)) ∙ sym c.k13_refusal.ensures.value;
    }

pub returns-else-not-lies_in_any : goal.returns-else-not-lies_in_any
returns-else-not-lies_in_any c =
    let earlier = map (λ s. string_bytes s) c.args.earlier.now in
    let lies =
    ap (λ ss. list_any (lies_in c.in-Page.page) (map segment_model ss)) (sym c.as_slice.ensures.value)
    ∙ sym c.if-not-lies_in_any.ensures.value in
    let case =
    of_page (domain_model c.args.domain.now) c.args.d earlier c.args.text.now c.args.named
    c.in-Page.page true c.in-Page.is lies in
    record { verdict = subst (λ (o : Option Refusal). IsVerdict c.again_case.result o) (sym case) c.again_case.ensures.verdict }

pub returns-then-not-names : goal.returns-then-not-names
returns-then-not-names c =
    let earlier = map (λ s. string_bytes s) c.args.earlier.now in
    let line : to_z w64 c.in-Irq.line ≡ pos c.in-Irq.line = search rules in
    let named =
    ap (λ ns. names ns (pos c.in-Irq.line)) (sym c.as_slice-in-Irq.ensures.value)
    ∙ ap (names c.as_slice-in-Irq.result.now) (sym line) ∙ sym c.if-not-names.ensures.value in
    record {
      verdict =
          of_line (domain_model c.args.domain.now) c.args.d earlier c.args.text.now c.args.named c.in-Irq.line false c.in-Irq.is named
          ∙ ap (λ n. k13_refusal c.args.d n 4) (length-map c.args.earlier.now (λ s. string_bytes s))
          ∙ sym c.k13_refusal-then-not-names.ensures.value;
    }

pub returns-else-not-names : goal.returns-else-not-names
returns-else-not-names c =
    let earlier = map (λ s. string_bytes s) c.args.earlier.now in
    let line : to_z w64 c.in-Irq.line ≡ pos c.in-Irq.line = search rules in
    let named =
    ap (λ ns. names ns (pos c.in-Irq.line)) (sym c.as_slice-in-Irq.ensures.value)
    ∙ ap (names c.as_slice-in-Irq.result.now) (sym line) ∙ sym c.if-not-names.ensures.value in
    let case =
    of_line (domain_model c.args.domain.now) c.args.d earlier c.args.text.now c.args.named
    c.in-Irq.line true c.in-Irq.is named in
    record {
      verdict =
          subst (λ (o : Option Refusal). IsVerdict c.again_case-in-Irq.result o) (sym case)
          c.again_case-in-Irq.ensures.verdict;
    }
