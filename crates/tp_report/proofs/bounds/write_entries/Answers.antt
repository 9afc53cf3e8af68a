use Rattle.std.proofs.Common.{◌<◌, length, ap, ◌∙◌, rules}
use Rattle.std.proofs.lemmas.Result.{err_from_is_err_and}
use Rattle.sched_table.specs.declared.schedule.Entry.{Entry}
use Rattle.sched_table.proofs.Starts.{slot_in_round}
use Rattle.pad_bound.specs.Models.{shape_model}
use Rattle.tp_report.specs.Report.{entry_text, entries_text}
use Rattle.tp_report.proofs.Numbers.{number_added, cut_in_number, numbers_added}
use Rattle.tp_report.proofs.bounds.write_entries.Goals as goal

pub returns-in_err-write_entry : goal.returns-in_err-write_entry
unfolding entries_text entry_text
returns-in_err-write_entry g c =
    let p = err_from_is_err_and c.from_residual.result c.from_residual.ensures.1 in
    let within : c.loop-e.e < length c.args.entries.now = search rules in
    let domain =
    c.from.ensures
    ∙ ap (λ (e : Entry). e.domain)
    (c.entry-domain.ensures.value ∙ slot_in_round c.args.entries.now c.loop-e.e within) in
    rw p.1 (record {
      adds =
          cut_in_number (entry_text (shape_model c.args.shape.now) c.args.entries.now c.args.calls.now)
          (length c.args.entries.now) c.loop-e.e _ _ _ within c.loop-e.invariant
          (rw domain at c.in_err-write_entry.ensures.adds);
    })

pub loop-e-preserved : goal.loop-e-preserved
unfolding entry_text
loop-e-preserved g c =
    let within : c.loop-e.e < length c.args.entries.now = search rules in
    let domain =
    c.from.ensures
    ∙ ap (λ (e : Entry). e.domain)
    (c.entry-domain.ensures.value ∙ slot_in_round c.args.entries.now c.loop-e.e within) in
    number_added (entry_text (shape_model c.args.shape.now) c.args.entries.now c.args.calls.now)
    (length c.args.entries.now) c.loop-e.e _ _ _ within c.loop-e.invariant
    (rw domain at c.in_ok-write_entry.ensures.adds)

pub returns : goal.returns
unfolding entries_text
returns g c = record {
  adds =
      numbers_added (entry_text (shape_model c.args.shape.now) c.args.entries.now c.args.calls.now)
      (length c.args.entries.now) c.loop-e.e _ _ (search rules) c.loop-e.invariant;
}
