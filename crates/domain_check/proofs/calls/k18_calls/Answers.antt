use Rattle.std.proofs.Common.{◌≡◌, rules, pos, get_or, to_z, of_z, w64, sym, ◌∙◌, arith}
use Rattle.image_record.specs.Cases.{first_in}
use Rattle.domain_check.specs.Calls.{k18_call}
use Rattle.image_record.proofs.Loops.{refused, passed, found, ended}
use Rattle.domain_check.proofs.calls.k18_calls.Goals as goal

pub returns-in_err-k18_call : goal.returns-in_err-k18_call
returns-in_err-k18_call c =
    let calls = c.args.calls.now in
    let k = c.loop-place.place in
    let same : to_z w64 (of_z w64 (get_or calls k (pos 0))) ≡ get_or calls k (pos 0) = search rules in
    let is =
    sym c.loop-place.invariant
    ∙ found (k18_call c.args.d) calls k _ (pos 0) _ c.loop-place-test.true same
    c.in_err-k18_call.ensures.verdict in
    record { verdict = refused c.from_residual.result (first_in (k18_call c.args.d) calls) _ c.from_residual.ensures.1 is }

pub loop-place-preserved : goal.loop-place-preserved
loop-place-preserved c =
    let calls = c.args.calls.now in
    let k = c.loop-place.place in
    let same : to_z w64 (of_z w64 (get_or calls k (pos 0))) ≡ get_or calls k (pos 0) = search rules in
    passed (k18_call c.args.d) calls k _ (pos 0) c.loop-place-test.true same c.in_ok-k18_call.ensures.verdict ∙ c.loop-place.invariant

pub returns : goal.returns
returns c =
    record { verdict = sym c.loop-place.invariant ∙ ended (k18_call c.args.d) _ c.args.calls.now c.loop-place.place (omega arith) }
