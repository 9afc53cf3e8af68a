use Rattle.std.proofs.Common.{◌<◌, ◌^◌, rules}
use Rattle.tp_lib.proofs.Told.{demo_written}
use Rattle.tp_lib.proofs.tp_demo.Goals as goal

pub returns : goal.returns
returns c =
    let answers = c.answer.ensures.answers in
    let small : c.args.seed < 2 ^ 64 = search rules in
    record { answers = answers; demo = demo_written _ _ _ _ _ small answers }
