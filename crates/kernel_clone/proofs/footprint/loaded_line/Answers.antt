use Rattle.kernel_clone.specs.Models.{layout_model}
use Rattle.kernel_clone.proofs.Runs.{loaded_run}
use Rattle.kernel_clone.proofs.footprint.loaded_line.Goals as goal

pub returns : goal.returns
returns c = record {
  touches =
      rw (c.shared_line.ensures.value, c.from.ensures, c.shared_lines.ensures.value)
      (loaded_run (layout_model c.args.layout.now) c.args.op);
}
