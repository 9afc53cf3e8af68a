use Rattle.std.proofs.Common.{refl, sym, ◌∙◌}
use Rattle.image_record.specs.Parts.{entry_model}
use Rattle.image_record.proofs.Loops.{refused, passed_of, found_of, ended_of}
use Rattle.schedule_check.specs.Harts.{k19_entry}
use Rattle.schedule_check.proofs.EntryCases.{hart_case_at}
use Rattle.schedule_check.proofs.harts.hart_cases.Goals as goal

pub returns-in_err-hart_case : goal.returns-in_err-hart_case
returns-in_err-hart_case c =
    let texts = c.args.texts.now in
    let k = c.loop-place.place in
    let here = hart_case_at texts k _ _ c.loop-place-test.true c.in_err-hart_case.ensures.verdict in
    record {
      verdict =
          refused c.from_residual.result _ _ c.from_residual.ensures.1
          (sym c.loop-place.invariant ∙ found_of k19_entry entry_model texts k _ _ _ c.loop-place-test.true refl here);
    }

pub loop-place-preserved : goal.loop-place-preserved
loop-place-preserved c =
    let texts = c.args.texts.now in
    let k = c.loop-place.place in
    let here = hart_case_at texts k _ _ c.loop-place-test.true c.in_ok-hart_case.ensures.verdict in
    passed_of k19_entry entry_model texts k _ _ c.loop-place-test.true refl here ∙ c.loop-place.invariant

pub returns : goal.returns
returns c = record {
  verdict =
      sym c.loop-place.invariant
      ∙ ended_of k19_entry entry_model _ c.args.texts.now c.loop-place.place c.loop-place-test.false;
}
