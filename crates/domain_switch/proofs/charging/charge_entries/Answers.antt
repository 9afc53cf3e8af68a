-- One store more, and all of them.
use Rattle.std.proofs.Common.{◌≤◌, ◌∙◌, List, refl, arith, length}
use Rattle.std.proofs.lemmas.List.{length-take}
use Rattle.kernel_clone.specs.Footprints.{LineTouch, entry_touches, touch_of}
use Rattle.kernel_clone.specs.declared.Kind.TheVariants.{Store}
use Rattle.kernel_clone.specs.Models.{layout_model, work_model}
use Rattle.kernel_clone.proofs.Items.{length-entries}
use Rattle.domain_switch.proofs.Charges.{front_none, front_more, front_all}
use Rattle.mem_system.specs.Contents.{system}
use Rattle.domain_switch.proofs.charging.charge_entries.Goals as goal

pub loop-place-init : goal.loop-place-init
loop-place-init g c = record {
  made =
      front_none g.P.Policy.rule g.P.Policy.stands_for
      (entry_touches (layout_model c.args.layout.now) (work_model c.args.work.now).entries)
      (system c.args.core.now c.args.l2.now);
  buffer = refl;
  few = omega arith;
  within = omega arith;
  most = c.requires.work.few;
}

pub loop-place-preserved : goal.loop-place-preserved
loop-place-preserved g c =
    record {
      made =
          front_more g.P.Policy.rule g.P.Policy.stands_for
          (entry_touches (layout_model c.args.layout.now) (work_model c.args.work.now).entries)
          c.loop-place.place c.loop-place.cycles c.access-cycles.result (touch_of Store c.entry_line.result)
          (system c.args.core.now c.args.l2.now) (system c.loop-place.core c.loop-place.l2)
          (system c.access-cycles.new.self c.access-cycles.new.l2)
          c.entry_line.ensures.touch c.loop-place.invariant.made c.access-cycles.ensures.makes;
      buffer = c.access-cycles.ensures.buffer ∙ c.loop-place.invariant.buffer;
      few = omega (arith, c.loop-place.invariant.few, c.access-cycles.ensures.few);
      within = omega (arith, c.loop-place-test.true);
      most = c.loop-place.invariant.most;
    }

pub returns-clause-makes : goal.returns-clause-makes
returns-clause-makes g c =
    let ts : List LineTouch = entry_touches (layout_model c.args.layout.now) (work_model c.args.work.now).entries in
    let whole : length ts ≤ c.args.work.now.count =
    (let all = length-entries (layout_model c.args.layout.now) (work_model c.args.work.now).entries in
    let taken = length-take c.args.work.now.count c.args.work.now.entries in omega (arith, all, taken)) in
    front_all g.P.Policy.rule g.P.Policy.stands_for ts c.loop-place.place c.loop-place.cycles
    (system c.args.core.now c.args.l2.now) (system c.loop-place.core c.loop-place.l2)
    (omega (arith, c.loop-place-test.false, whole)) c.loop-place.invariant.made
