-- One touch more, and all of them.
use Rattle.std.proofs.Common.{◌≡◌, ◌∙◌, ◌+◌, ℕ, List, Some, refl, ap, arith, length}
use Rattle.std.specs.Prelude.{slice_get}
use Rattle.kernel_clone.specs.Footprints.{LineTouch, run_of, touch_of}
use Rattle.kernel_clone.specs.declared.Kind.TheVariants.{Load}
use Rattle.kernel_clone.proofs.Runs.{get_run, length-run}
use Rattle.domain_switch.proofs.Charges.{front_none, front_more, front_all}
use Rattle.mem_system.specs.Contents.{system}
use Rattle.domain_switch.proofs.charging.load_run.Goals as goal

pub loop-place-init : goal.loop-place-init
loop-place-init g c = record {
  made = front_none g.P.Policy.rule g.P.Policy.stands_for (run_of Load c.args.first c.args.count) (system c.args.core.now c.args.l2.now);
  buffer = refl;
  few = omega arith;
  within = omega arith;
  most = c.requires.few;
}

pub loop-place-preserved : goal.loop-place-preserved
loop-place-preserved g c =
    let ts : List LineTouch = run_of Load c.args.first c.args.count in
    let line : c.args.first + c.loop-place.place ≡ c.new.result = omega (arith, c.number.ensures.same, c.new.ensures.value) in
    let is : slice_get ts c.loop-place.place ≡ Some (touch_of Load c.new.result) =
    get_run Load c.args.first c.args.count c.loop-place.place c.loop-place-test.true ∙ ap (λ (n : ℕ). Some (touch_of Load n)) line in
    record {
      made = front_more g.P.Policy.rule g.P.Policy.stands_for ts c.loop-place.place c.loop-place.cycles c.access-cycles.result
          (touch_of Load c.new.result) (system c.args.core.now c.args.l2.now)
          (system c.loop-place.core c.loop-place.l2)
          (system c.access-cycles.new.self c.access-cycles.new.l2)
          is c.loop-place.invariant.made c.access-cycles.ensures.makes;
      buffer = c.access-cycles.ensures.buffer ∙ c.loop-place.invariant.buffer;
      few = omega (arith, c.loop-place.invariant.few, c.access-cycles.ensures.few);
      within = omega (arith, c.loop-place-test.true);
      most = c.loop-place.invariant.most;
    }

pub returns-clause-makes : goal.returns-clause-makes
returns-clause-makes g c =
    let ts : List LineTouch = run_of Load c.args.first c.args.count in
    let whole : length ts ≡ c.args.count = length-run Load c.args.first c.args.count in
    front_all g.P.Policy.rule g.P.Policy.stands_for ts c.loop-place.place c.loop-place.cycles
    (system c.args.core.now c.args.l2.now) (system c.loop-place.core c.loop-place.l2)
    (omega (arith, c.loop-place-test.false, whole)) c.loop-place.invariant.made
