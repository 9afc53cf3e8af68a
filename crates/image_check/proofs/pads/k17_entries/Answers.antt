use Rattle.std.proofs.Common.{refl, sym, ◌∙◌, arith}
use Rattle.image_record.specs.Parts.{entry_model}
use Rattle.pad_bound.specs.Models.{shape_model}
use Rattle.image_check.specs.Pads.{k17_by}
use Rattle.image_record.proofs.Loops.{refused, passed_of, found_of, ended_of, count_of}
use Rattle.image_check.proofs.Padded.{k17_by_case}
use Rattle.image_check.proofs.pads.k17_entries.Goals as goal

pub returns-in_err-k17_case : goal.returns-in_err-k17_case
returns-in_err-k17_case c =
    let es = c.args.entries.now in
    let k = c.loop-place.place in
    let by = k17_by (shape_model c.args.shape.now) c.args.calls.now in
    let case =
    k17_by_case (shape_model c.args.shape.now) c.args.calls.now _ _ _ _ k c.leaving_calls.ensures.value
    c.bound_from-bound.ensures.total (count_of entry_model es k c.loop-place-test.true) in
    let is =
    sym c.loop-place.invariant
    ∙ found_of by entry_model es k _ _ _ c.loop-place-test.true refl
    (case ∙ c.in_err-k17_case.ensures.verdict) in
    record { verdict = refused c.from_residual.result _ _ c.from_residual.ensures.1 is }

pub loop-place-preserved : goal.loop-place-preserved
loop-place-preserved c =
    let es = c.args.entries.now in
    let k = c.loop-place.place in
    let by = k17_by (shape_model c.args.shape.now) c.args.calls.now in
    let case =
    k17_by_case (shape_model c.args.shape.now) c.args.calls.now _ _ _ _ k c.leaving_calls.ensures.value
    c.bound_from-bound.ensures.total (count_of entry_model es k c.loop-place-test.true) in
    passed_of by entry_model es k _ _ c.loop-place-test.true refl (case ∙ c.in_ok-k17_case.ensures.verdict) ∙ c.loop-place.invariant

pub returns : goal.returns
returns c =
    let by = k17_by (shape_model c.args.shape.now) c.args.calls.now in
    record {
      verdict =
          sym c.loop-place.invariant
          ∙ ended_of by entry_model _ c.args.entries.now c.loop-place.place
          (omega (arith, c.loop-place-test.false));
    }
