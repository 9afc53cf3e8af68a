use Rattle.std.proofs.Common.{◌<◌, length, ap, ◌∙◌, rules}
use Rattle.std.proofs.lemmas.Result.{err_from_is_err_and}
use Rattle.sched_table.specs.declared.schedule.Entry.{Entry}
use Rattle.sched_table.proofs.Starts.{slot_in_round}
use Rattle.tp_report.specs.Switches.{switch_at, switches_text}
use Rattle.tp_report.proofs.Numbers.{number_added, cut_in_number, numbers_added}
use Rattle.tp_report.proofs.report.write_lines.Goals as goal

pub returns-in_err-write_switch : goal.returns-in_err-write_switch
unfolding switches_text switch_at
returns-in_err-write_switch g c =
    let p = err_from_is_err_and c.from_residual.result c.from_residual.ensures.1 in
    let within : c.loop-e.e < length c.args.entries.now = search rules in
    let pad = ap (λ (e : Entry). e.pad) (c.entry.ensures.value ∙ slot_in_round c.args.entries.now c.loop-e.e within) in
    rw p.1 (record {
      adds =
          cut_in_number (switch_at c.args.entries.now c.args.used.now) (length c.args.entries.now) c.loop-e.e
          _ _ _ within c.loop-e.invariant (rw pad at c.in_err-write_switch.ensures.adds);
    })

pub loop-e-preserved : goal.loop-e-preserved
unfolding switch_at
loop-e-preserved g c =
    let within : c.loop-e.e < length c.args.entries.now = search rules in
    let pad = ap (λ (e : Entry). e.pad) (c.entry.ensures.value ∙ slot_in_round c.args.entries.now c.loop-e.e within) in
    number_added (switch_at c.args.entries.now c.args.used.now) (length c.args.entries.now) c.loop-e.e _ _ _
    within c.loop-e.invariant (rw pad at c.in_ok-write_switch.ensures.adds)

pub returns : goal.returns
unfolding switches_text
returns g c = record {
  adds =
      numbers_added (switch_at c.args.entries.now c.args.used.now) (length c.args.entries.now) c.loop-e.e _ _
      (search rules) c.loop-e.invariant;
}
