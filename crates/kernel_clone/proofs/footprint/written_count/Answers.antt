use Rattle.std.proofs.Common.{◌≡◌, ◌∙◌, ◌≤◌, length, ap, sym, refl, arith, rules, zero-add}
use Rattle.kernel_clone.specs.Laws.{zeroed_count}
use Rattle.kernel_clone.specs.Models.{layout_model, work_model}
use Rattle.kernel_clone.proofs.Items.{length-taken}
use Rattle.kernel_clone.proofs.footprint.written_count.Goals as goal

pub returns-in-Some-clause-value : goal.returns-in-Some-clause-value
returns-in-Some-clause-value c =
    let whole : length c.args.work.now.entries ≡ 64 = search rules in
    let few : c.args.work.now.count ≤ length c.args.work.now.entries = (let most = c.requires.work.few in omega (arith, most, whole)) in
    length-taken (layout_model c.args.layout.now) (work_model c.args.work.now) c.args.work.now.entries
    c.args.work.now.count c.lines_in_frame.result refl few
    (ap (zeroed_count (layout_model c.args.layout.now)) c.in-Some.is ∙ sym c.lines_in_frame.ensures.value)

pub returns-in-None-clause-value : goal.returns-in-None-clause-value
returns-in-None-clause-value c =
    let whole : length c.args.work.now.entries ≡ 64 = search rules in
    let few : c.args.work.now.count ≤ length c.args.work.now.entries = (let most = c.requires.work.few in omega (arith, most, whole)) in
    sym (zero-add c.args.work.now.count)
    ∙ length-taken (layout_model c.args.layout.now) (work_model c.args.work.now) c.args.work.now.entries
    c.args.work.now.count 0 refl few
    (ap (zeroed_count (layout_model c.args.layout.now)) c.in-None.is)
