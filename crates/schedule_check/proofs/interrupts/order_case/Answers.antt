use Rattle.std.proofs.Common.{◌≡◌, length, true, false, None, Some, slice_get, option_copied, sym, ap, ◌∙◌}
use Rattle.image_record.specs.Parts.{moment_model}
use Rattle.schedule_check.proofs.MomentCases.{told_so, last_is, above_case}
use Rattle.schedule_check.proofs.interrupts.order_case.Goals as goal

pub returns-then-not-is_above : goal.returns-then-not-is_above
returns-then-not-is_above c =
    let d = c.args.d in
    let earlier = c.args.earlier.now in
    let x = moment_model c.args.moment.now in
    let y = c.in-Some.before.now in
    let last : Some y ≡ slice_get earlier _ = ap option_copied (sym c.in-Some.is) ∙ c.last.ensures.value in
    record {
      verdict =
          last_is earlier d x (Some y) last ∙ above_case d (length earlier) x (moment_model y) false c.if-not-is_above.ensures.value
          ∙ told_so d (length earlier) 4 c.refusal.result c.requires.domain c.requires.place c.refusal.ensures.value;
    }

pub returns-else-not-is_above : goal.returns-else-not-is_above
returns-else-not-is_above c =
    let d = c.args.d in
    let earlier = c.args.earlier.now in
    let x = moment_model c.args.moment.now in
    let y = c.in-Some.before.now in
    let last : Some y ≡ slice_get earlier _ = ap option_copied (sym c.in-Some.is) ∙ c.last.ensures.value in
    record {
      verdict =
          last_is earlier d x (Some y) last
          ∙ above_case d (length earlier) x (moment_model y) true c.if-not-is_above.ensures.value;
    }

pub returns-in_default : goal.returns-in_default
returns-in_default c =
    let earlier = c.args.earlier.now in
    let last : None ≡ slice_get earlier _ = ap option_copied (sym c.in_default.is) ∙ c.last.ensures.value in
    record { verdict = last_is earlier c.args.d (moment_model c.args.moment.now) None last }
