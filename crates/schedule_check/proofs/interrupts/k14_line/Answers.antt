use Rattle.std.proofs.Common.{◌<◌, ◌^◌, length, None, Some, w64, to_z, of_z, IfSome, sym, ap, subst, ◌∙◌, arith}
use Rattle.std.proofs.lemmas.Int.{to_z-of_z}
use Rattle.image_record.specs.Numbers.{natural_of}
use Rattle.schedule_check.proofs.LineCases.{other_case, line_case, again_case}
use Rattle.schedule_check.proofs.OwnInterrupts.{line_most, line_natural}
use Rattle.schedule_check.proofs.interrupts.k14_line.Goals as goal

pub returns-then-outside-clause-verdict : goal.returns-then-outside-clause-verdict
returns-then-outside-clause-verdict c =
    other_case c.args.domains.now c.args.earlier.now c.args.line _ c.refusal.result c.requires.domain
    (to_z-of_z w64 c.args.line c.ranges.line)
    (sym c.outside.ensures.value ∙ c.if-outside.true) c.refusal.ensures.value

pub natural_of-requires : goal.natural_of-requires
natural_of-requires c = record { natural = line_natural _ (sym c.outside.ensures.value ∙ c.if-outside.false) }

pub overflow_cast-result : goal.overflow_cast-result
overflow_cast-result c =
    let most = line_most (to_z w64 (of_z w64 c.args.line)) (sym c.outside.ensures.value ∙ c.if-outside.false) in
    record { fits = omega (arith, most, c.natural_of.ensures.value) }

pub returns-in-Some-clause-verdict : goal.returns-in-Some-clause-verdict
returns-in-Some-clause-verdict c =
    let d = length c.args.domains.now in
    let e = c.in-Some.e in
    let x = c.args.line in
    let same = to_z-of_z w64 x c.ranges.line in
    let small : e < 2 ^ 63 = subst (λ o. IfSome o (λ e. e < 2 ^ 63)) c.in-Some.is c.named_before.ensures.small in
    line_case c.args.domains.now c.args.earlier.now x _ (Some e) same
    (sym c.outside.ensures.value ∙ c.if-outside.false) (sym c.in-Some.is ∙ c.named_before.ensures.value)
    ∙ again_case d e x _ c.refusal-in-Some.result c.requires.domain small same c.refusal-in-Some.ensures.value

pub returns-in-None-clause-verdict : goal.returns-in-None-clause-verdict
returns-in-None-clause-verdict c =
    line_case c.args.domains.now c.args.earlier.now c.args.line _ None
    (to_z-of_z w64 c.args.line c.ranges.line) (sym c.outside.ensures.value ∙ c.if-outside.false)
    (sym c.in-None.is ∙ c.named_before.ensures.value)

pub returns-in-None-clause-value : goal.returns-in-None-clause-value
returns-in-None-clause-value c = c.natural_of.ensures.value ∙ ap natural_of (to_z-of_z w64 c.args.line c.ranges.line)
