use Rattle.std.proofs.Common.{map, refl, sym, ◌∙◌}
use Rattle.image_record.proofs.Loops.{refused, passed_of, found_of}
use Rattle.lend_check.specs.Models.{domain_model, entry_model}
use Rattle.lend_check.specs.Rule.{k21_entry}
use Rattle.lend_check.proofs.Counts.{entry_at}
use Rattle.lend_check.proofs.rule.k21_entries.Goals as goal

pub returns-in_err-k21_entry : goal.returns-in_err-k21_entry
returns-in_err-k21_entry c =
    let domains = map domain_model c.args.domains.now in
    let entries = c.args.entries.now in
    let k = c.loop-place.place in
    let here = entry_at domains entries k _ _ c.loop-place-test.true c.in_err-k21_entry.ensures.verdict in
    let first = found_of (k21_entry domains) entry_model entries k _ _ _ c.loop-place-test.true refl here in
    record { verdict = refused c.from_residual.result _ _ c.from_residual.ensures.1 (sym c.loop-place.invariant ∙ first) }

pub loop-place-preserved : goal.loop-place-preserved
loop-place-preserved c =
    let domains = map domain_model c.args.domains.now in
    let entries = c.args.entries.now in
    let k = c.loop-place.place in
    let here = entry_at domains entries k _ _ c.loop-place-test.true c.in_ok-k21_entry.ensures.verdict in
    passed_of (k21_entry domains) entry_model entries k _ _ c.loop-place-test.true refl here ∙ c.loop-place.invariant
