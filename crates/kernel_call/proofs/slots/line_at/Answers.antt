use Rattle.std.proofs.Common.{◌≡◌, ◌∙◌, Some, ap}
use Rattle.std.proofs.lemmas.Result.{err_from_is_err_and}
use Rattle.cap_table.specs.declared.Cap.{Cap}
use Rattle.cap_table.specs.declared.Cap.TheVariants as cap
use Rattle.cap_table.specs.Slots.{cap_at, line_of}
use Rattle.kernel_call.specs.Models.{dom_model}
use Rattle.kernel_call.proofs.TiesThreads.{not_line, line_unfilled, line_other, line_found}
use Rattle.kernel_call.proofs.slots.line_at.Goals as goal

pub returns-in_err-line-clause-finds : goal.returns-in_err-line-clause-finds
returns-in_err-line-clause-finds c readings replies m =
    let p = err_from_is_err_and c.from_residual.result c.from_residual.ensures.1 in
    line_unfilled (dom_model c.args.domain.now readings replies) c.args.slot m c.filled.result p.0
    c.in_err-line.field-0.0 c.from_residual.result
    (c.filled.ensures.finds readings replies m) c.in_err-line.was p.2 p.1

pub returns-in_default : goal.returns-in_default
returns-in_default c = record {
  finds = λ readings replies m.
      line_other (dom_model c.args.domain.now readings replies) c.args.slot m c.in_ok-line.field-0
      c.in_ok-line.ensures.below c.in_ok-line.ensures.there
      (not_line c.in_ok-line.field-0 c.in_default.not-Irq);
  below = tt;
}

pub returns-clause-finds : goal.returns-clause-finds
returns-clause-finds c readings replies m =
    let there : cap_at c.args.domain.now.caps c.args.slot ≡ Some (cap.Irq c.in-Irq.line) =
    c.in_ok-line.ensures.there ∙ ap Some c.in-Irq.is in
    line_found (dom_model c.args.domain.now readings replies) c.args.slot m c.in-Irq.line c.in_ok-line.ensures.below there

pub returns-clause-below : goal.returns-clause-below
returns-clause-below c = c.in_ok-line.ensures.line c.in-Irq.line (ap (λ (x : Cap). line_of (Some x)) c.in-Irq.is)
