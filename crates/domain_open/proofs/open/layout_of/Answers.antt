use Rattle.std.proofs.Common.{◌∙◌, arith}
use Rattle.hardware_check.specs.Models.{hardware_model}
use Rattle.world_view.specs.Kernel.{layout}
use Rattle.domain_open.proofs.PoolReads.{clone_read}
use Rattle.domain_open.proofs.open.layout_of.Goals as goal

pub returns : goal.returns
unfolding layout
returns c = record {
  layout = λ o is.
      let p = hardware_model c.args.hardware.now in
      let four = c.requires.four in
      let first =
      c.number.ensures.number ∙ c.index-clone-0.is
      ∙ clone_read p o c.args.clone.now is 0 c.index-clone-0.result (omega arith)
      (omega (arith, four)) in
      let second =
      c.number-2.ensures.number ∙ c.index-clone-1.is
      ∙ clone_read p o c.args.clone.now is 1 c.index-clone-1.result (omega arith)
      (omega (arith, four)) in
      let third =
      c.number-3.ensures.number ∙ c.index-clone-2.is
      ∙ clone_read p o c.args.clone.now is 2 c.index-clone-2.result (omega arith)
      (omega (arith, four)) in
      let fourth =
      c.number-4.ensures.number ∙ c.index-clone-3.is
      ∙ clone_read p o c.args.clone.now is 3 c.index-clone-3.result (omega arith)
      (omega (arith, four)) in
      λ i. record {
        text = first i;
        more_text = second i;
        stack = third i;
        data_frame = fourth i;
        line = p.line;
        shared = p.shared;
        colours = c.colours.ensures.value i;
      };
}
