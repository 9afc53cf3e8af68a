use Rattle.std.proofs.Common.{◌<◌, ◌^◌, refl, rules}
use Rattle.tp_lib.proofs.Told.{gen_written}
use Rattle.tp_lib.proofs.tp_gen.Goals as goal

pub returns : goal.returns
returns c =
    let answers = c.answer.ensures.answers in
    let small : c.args.seed < 2 ^ 64 = search rules in
    record {
      answers = answers;
      generated = gen_written _ _ _ _ _ small answers (c.answer.ensures.reads_back c.args.seed refl);
    }
