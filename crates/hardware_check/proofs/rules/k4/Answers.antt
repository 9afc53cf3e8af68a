use Rattle.std.proofs.Common.{◌≡◌, rules, pos, to_z, of_z, w64, sym, ap, ◌∙◌}
use Rattle.image_record.specs.Cases.{range_case}
use Rattle.image_record.proofs.Loops.{refused, no_value}
use Rattle.hardware_check.specs.Rules.{k4, most_frames}
use Rattle.hardware_check.proofs.rules.k4.Goals as goal

pub returns-in_err-range_case-clause-verdict : goal.returns-in_err-range_case-clause-verdict
unfolding k4
returns-in_err-range_case-clause-verdict c =
    let x = c.args.raw.now.frames in
    let same : x ≡ to_z w64 (of_z w64 x) = search rules in
    let read = ap (range_case 4 (pos 0) 64 (most_frames c.args.raw.now.version)) same in
    let most = ap (λ m. range_case 4 (pos 0) 64 m (to_z w64 (of_z w64 x))) (sym c.most_frames.ensures.value) in
    refused c.from_residual.result _ _ c.from_residual.ensures.1 (read ∙ most ∙ c.in_err-range_case.ensures.verdict)

pub returns-in_err-range_case-clause-value : goal.returns-in_err-range_case-clause-value
returns-in_err-range_case-clause-value c = no_value c.from_residual.result _ c.from_residual.ensures.0

pub frames_in-requires : goal.frames_in-requires
unfolding k4
frames_in-requires c =
    let x = c.args.raw.now.frames in
    let same : x ≡ to_z w64 (of_z w64 x) = search rules in
    let read = ap (range_case 4 (pos 0) 64 (most_frames c.args.raw.now.version)) same in
    let most = ap (λ m. range_case 4 (pos 0) 64 m (to_z w64 (of_z w64 x))) (sym c.most_frames.ensures.value) in
    record { frames = read ∙ most ∙ c.in_ok-range_case.ensures.verdict }

pub returns-clause-verdict : goal.returns-clause-verdict
unfolding k4
returns-clause-verdict c =
    let x = c.args.raw.now.frames in
    let same : x ≡ to_z w64 (of_z w64 x) = search rules in
    let read = ap (range_case 4 (pos 0) 64 (most_frames c.args.raw.now.version)) same in
    let most = ap (λ m. range_case 4 (pos 0) 64 m (to_z w64 (of_z w64 x))) (sym c.most_frames.ensures.value) in
    read ∙ most ∙ c.in_ok-range_case.ensures.verdict

pub returns-clause-value : goal.returns-clause-value
returns-clause-value c = c.frames_in.ensures.value
