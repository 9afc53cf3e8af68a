use Rattle.std.proofs.Common.{codes, ap, ◌∙◌}
use Rattle.clap.specs.Simple.{app_of_fields, on_top}
use Rattle.tp_words.specs.Words.{tp_app, check_app, bound_app, run_app, alone_app, seed_app, ablate_app, harts_app, redact_app, required}
use Rattle.tp_words.proofs.words.tp_command.Goals as goal

-- one link for each subcommand
pub returns : goal.returns
unfolding tp_app
returns c =
    let top = ap app_of_fields c.subcommand_required-top.ensures ∙ ap (on_top required) c.new.ensures.app in
    let one = c.with-one.ensures.app _ check_app top c.new-2.ensures.app c.new-2.ensures.local in
    let two = c.with-two.ensures.app _ bound_app one c.new-3.ensures.app c.new-3.ensures.local in
    let three = c.with-three.ensures.app _ run_app two c.number_command.ensures.app c.number_command.ensures.local in
    let four = c.with-four.ensures.app _ alone_app three c.alone_command.ensures.app c.alone_command.ensures.local in
    let five = c.with-five.ensures.app _ (seed_app (codes "gen")) four c.number_command-2.ensures.app c.number_command-2.ensures.local in
    let six = c.with-six.ensures.app _ (seed_app (codes "demo")) five c.number_command-3.ensures.app c.number_command-3.ensures.local in
    let seven = c.with-seven.ensures.app _ ablate_app six c.ablate_command.ensures.app c.ablate_command.ensures.local in
    let eight = c.with-eight.ensures.app _ harts_app seven c.harts_command.ensures.app c.harts_command.ensures.local in
    record {
      app = c.with.ensures.app _ redact_app eight c.number_command-4.ensures.app c.number_command-4.ensures.local;
    }
