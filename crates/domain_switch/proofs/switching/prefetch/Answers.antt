-- A frame's lines more, and all of them.
use Rattle.std.proofs.Common.{◌≡◌, ◌∙◌, ◌+◌, ◌%◌, ℕ, ap, arith}
use Rattle.std.proofs.Math.Nat.{zero-mod, add-mod_left}
use Rattle.kernel_clone.specs.Footprints.{Layout, lines_in_frame}
use Rattle.kernel_clone.specs.Models.{layout_model}
use Rattle.domain_switch.proofs.Charges.{loads_none, loads_more, loads_all}
use Rattle.mem_system.specs.Contents.{system}
use Rattle.domain_switch.proofs.switching.prefetch.Goals as goal

pub loop-place-init : goal.loop-place-init
loop-place-init g c = record {
  made = loads_none g.P.Policy.rule g.P.Policy.stands_for (layout_model c.args.layout.now) (system c.args.core.now c.args.l2.now);
  few = omega arith;
  within = omega arith;
  starts = λ lt. zero-mod (lines_in_frame (layout_model c.args.layout.now));
}

pub loop-place-preserved : goal.loop-place-preserved
loop-place-preserved g c =
    let l : Layout = layout_model c.args.layout.now in
    let place : ℕ = c.loop-place.place in
    let lines = c.lines_in_frame-lines.ensures.value in
    let count = c.min-count.ensures in
    let starts = c.loop-place.invariant.starts c.loop-place-test.true in
    record {
      made =
          loads_more g.P.Policy.rule g.P.Policy.stands_for l place c.min-count.result c.loop-place.cycles
          c.load_run-cycles.result c.shared_line.result
          (system c.args.core.now c.args.l2.now) (system c.loop-place.core c.loop-place.l2)
          (system c.load_run-cycles.new.core c.load_run-cycles.new.l2) c.shared_line.ensures.value starts
          (omega (arith, count, lines))
          c.loop-place.invariant.made c.load_run-cycles.ensures.makes;
      few = omega (arith, c.loop-place.invariant.few, c.load_run-cycles.ensures.few);
      within = omega (arith, count, c.loop-place-test.true);
      starts = λ lt.
          let whole : place + c.min-count.result ≡ lines_in_frame l + place = omega (arith, count, lines, lt) in
          ap (λ (m : ℕ). m % lines_in_frame l) whole ∙ (add-mod_left (lines_in_frame l) place ∙ starts);
    }

pub returns-clause-makes : goal.returns-clause-makes
returns-clause-makes g c =
    loads_all g.P.Policy.rule g.P.Policy.stands_for (layout_model c.args.layout.now) c.loop-place.place
    c.loop-place.cycles (system c.args.core.now c.args.l2.now) (system c.loop-place.core c.loop-place.l2)
    (omega (arith, c.loop-place-test.false, c.loop-place.invariant.within, c.shared_lines-shared.ensures.value)) c.loop-place.invariant.made
