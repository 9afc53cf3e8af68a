use Rattle.std.proofs.Common.{refl, sym, ◌∙◌}
use Rattle.image_record.specs.Parts.{entry_model}
use Rattle.image_record.proofs.Loops.{refused, passed_of, found_of, ended_of}
use Rattle.schedule_check.specs.Schedule.{k16_entry}
use Rattle.schedule_check.proofs.EntryCases.{entry_case_at}
use Rattle.schedule_check.proofs.schedule.entry_cases.Goals as goal

pub returns-in_err-entry_case : goal.returns-in_err-entry_case
returns-in_err-entry_case c =
    let texts = c.args.texts.now in
    let k = c.loop-place.place in
    let here = entry_case_at c.args.domains texts k _ _ c.loop-place-test.true c.in_err-entry_case.ensures.verdict in
    record {
      verdict =
          refused c.from_residual.result _ _ c.from_residual.ensures.1
          (sym c.loop-place.invariant ∙ found_of (k16_entry c.args.domains) entry_model texts k _ _ _ c.loop-place-test.true refl here);
    }

pub loop-place-preserved : goal.loop-place-preserved
loop-place-preserved c =
    let texts = c.args.texts.now in
    let k = c.loop-place.place in
    let here = entry_case_at c.args.domains texts k _ _ c.loop-place-test.true c.in_ok-entry_case.ensures.verdict in
    passed_of (k16_entry c.args.domains) entry_model texts k _ _ c.loop-place-test.true refl here ∙ c.loop-place.invariant

pub returns : goal.returns
returns c =
    record {
      verdict =
          sym c.loop-place.invariant
          ∙ ended_of (k16_entry c.args.domains) entry_model _ c.args.texts.now c.loop-place.place
          c.loop-place-test.false;
    }
