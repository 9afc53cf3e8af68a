use Rattle.std.proofs.Common.{◌≡◌, rules, true, false, to_z, of_z, w64, map, sym, ap, ◌∙◌}
use Rattle.std.specs.Prelude.{pos}
use Rattle.image_record.specs.Parts.{moment_model}
use Rattle.image_record.specs.Cases.{outside}
use Rattle.image_record.specs.Numbers.{names}
use Rattle.image_record.proofs.Loops.{refused}
use Rattle.schedule_check.proofs.OwnInterrupts.{named_small, named_natural, cycle_natural}
use Rattle.schedule_check.proofs.MomentCases.{told_so, far_case, foreign_case, ordered_case}
use Rattle.schedule_check.proofs.interrupts.k15_moment.Goals as goal

pub returns-then-outside-clause-verdict : goal.returns-then-outside-clause-verdict
returns-then-outside-clause-verdict c =
    let x = moment_model c.args.moment.now in
    let at : to_z w64 (of_z w64 x.at) ≡ x.at = search rules in
    let far : outside (pos 0) (pos 1000000000000) x.at ≡ true =
    ap (outside (pos 0) (pos 1000000000000)) (sym at) ∙ sym c.outside.ensures.value ∙ c.if-outside.true in
    far_case c.args.lines.now c.args.d c.args.earlier.now x far
    ∙ told_so c.args.d _ 2 c.refusal.result c.requires.domain c.requires.place c.refusal.ensures.value

pub returns-then-not-names-clause-verdict : goal.returns-then-not-names-clause-verdict
returns-then-not-names-clause-verdict c =
    let x = moment_model c.args.moment.now in
    let at : to_z w64 (of_z w64 x.at) ≡ x.at = search rules in
    let line : to_z w64 (of_z w64 x.line) ≡ x.line = search rules in
    let near : outside (pos 0) (pos 1000000000000) x.at ≡ false =
    ap (outside (pos 0) (pos 1000000000000)) (sym at) ∙ sym c.outside.ensures.value
    ∙ c.if-outside.false in
    let foreign : names c.args.lines.now x.line ≡ false = ap (names c.args.lines.now) (sym line) ∙ sym c.if-not-names.ensures.value in
    foreign_case c.args.lines.now c.args.d c.args.earlier.now x near foreign
    ∙ told_so c.args.d _ 3 c.refusal-then-not-names.result c.requires.domain c.requires.place c.refusal-then-not-names.ensures.value

pub returns-in_err-order_case-clause-verdict : goal.returns-in_err-order_case-clause-verdict
returns-in_err-order_case-clause-verdict c =
    let x = moment_model c.args.moment.now in
    let at : to_z w64 (of_z w64 x.at) ≡ x.at = search rules in
    let line : to_z w64 (of_z w64 x.line) ≡ x.line = search rules in
    let near : outside (pos 0) (pos 1000000000000) x.at ≡ false =
    ap (outside (pos 0) (pos 1000000000000)) (sym at) ∙ sym c.outside.ensures.value
    ∙ c.if-outside.false in
    let own : names c.args.lines.now x.line ≡ true = ap (names c.args.lines.now) (sym line) ∙ sym c.if-not-names.ensures.value in
    refused c.from_residual.result _ _ c.from_residual.ensures.1
    (ordered_case c.args.lines.now c.args.d (map moment_model c.args.earlier.now) x near own ∙ c.in_err-order_case.ensures.verdict)

pub moment_of-requires-clause-at : goal.moment_of-requires-clause-at
moment_of-requires-clause-at c =
    let x = c.args.moment.now in
    let at : to_z w64 (of_z w64 x.at) ≡ x.at = search rules in
    cycle_natural x.at (ap (outside (pos 0) (pos 1000000000000)) (sym at) ∙ sym c.outside.ensures.value ∙ c.if-outside.false)

pub moment_of-requires-clause-line : goal.moment_of-requires-clause-line
moment_of-requires-clause-line c =
    let x = c.args.moment.now in
    let line : to_z w64 (of_z w64 x.line) ≡ x.line = search rules in
    named_natural c.args.lines.now x.line c.requires.lines (ap (names c.args.lines.now) (sym line) ∙ sym c.if-not-names.ensures.value)

pub moment_of-requires-clause-small : goal.moment_of-requires-clause-small
moment_of-requires-clause-small c =
    let x = c.args.moment.now in
    let line : to_z w64 (of_z w64 x.line) ≡ x.line = search rules in
    named_small c.args.lines.now x.line c.requires.lines (ap (names c.args.lines.now) (sym line) ∙ sym c.if-not-names.ensures.value)

pub returns-clause-verdict : goal.returns-clause-verdict
returns-clause-verdict c =
    let x = moment_model c.args.moment.now in
    let at : to_z w64 (of_z w64 x.at) ≡ x.at = search rules in
    let line : to_z w64 (of_z w64 x.line) ≡ x.line = search rules in
    let near : outside (pos 0) (pos 1000000000000) x.at ≡ false =
    ap (outside (pos 0) (pos 1000000000000)) (sym at) ∙ sym c.outside.ensures.value
    ∙ c.if-outside.false in
    let own : names c.args.lines.now x.line ≡ true = ap (names c.args.lines.now) (sym line) ∙ sym c.if-not-names.ensures.value in
    ordered_case c.args.lines.now c.args.d (map moment_model c.args.earlier.now) x near own ∙ c.in_ok-order_case.ensures.verdict

pub returns-clause-value : goal.returns-clause-value
returns-clause-value c = c.moment_of.ensures.value
