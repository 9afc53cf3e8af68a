-- A frame's lines, or none.
use Rattle.std.proofs.Common.{◌≡◌, ◌∙◌, ℕ, subst, ap, map}
use Rattle.kernel_clone.specs.Footprints.{Layout, run_of, line_of}
use Rattle.kernel_clone.specs.Models.{layout_model}
use Rattle.kernel_clone.specs.declared.Kind.TheVariants.{Store}
use Rattle.mem_system.specs.Contents.{system, MakesTouches}
use Rattle.mem_system.specs.Operations.{touch_of_line}
use Rattle.domain_switch.proofs.Charges.{zeroed_none, zeroed_some}
use Rattle.domain_switch.proofs.charging.charge_zeroed.Goals as goal

pub returns-in_default-clause-makes : goal.returns-in_default-clause-makes
returns-in_default-clause-makes g c =
    zeroed_none g.P.Policy.rule g.P.Policy.stands_for (layout_model c.args.layout.now) c.args.zeroed
    (system c.args.core.now c.args.l2.now) c.in_default.is

pub returns-clause-makes : goal.returns-clause-makes
returns-clause-makes g c =
    let l : Layout = layout_model c.args.layout.now in
    let first : c.line_of-first.result ≡ line_of l c.in-Some.frame 0 =
    c.line_of-first.ensures.value ∙ ap (λ (f : ℕ). line_of l f 0) c.new.ensures.value in
    zeroed_some g.P.Policy.rule g.P.Policy.stands_for l c.args.zeroed c.in-Some.frame c.line_of-first.result c.store_run.result
    (system c.args.core.now c.args.l2.now) (system c.store_run.new.core c.store_run.new.l2) c.in-Some.is first
    (subst (λ (n : ℕ). MakesTouches g.P.Policy.rule g.P.Policy.stands_for
    (map touch_of_line (run_of Store c.line_of-first.result n)) c.store_run.result
    (system c.args.core.now c.args.l2.now) (system c.store_run.new.core c.store_run.new.l2))
    c.lines_in_frame.ensures.value c.store_run.ensures.makes)
