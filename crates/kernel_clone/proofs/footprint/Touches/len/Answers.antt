use Rattle.std.proofs.Common.{◌≡◌, ◌∙◌, ap, arith}
use Rattle.kernel_clone.specs.Laws.{own_count}
use Rattle.kernel_clone.specs.Models.{layout_model, work_model}
use Rattle.kernel_clone.proofs.Items.{length-parts}
use Rattle.kernel_clone.proofs.footprint.Touches.len.Goals as goal

pub returns : goal.returns
returns c =
    let own : c.own_count.result ≡ own_count c.self.inside.work.now.op = c.own_count.ensures.value ∙ ap own_count c.self.invariant.same in
    let written = c.written_count.ensures.value in
    let all = length-parts (layout_model c.self.inside.layout.now) (work_model c.self.inside.work.now) in
    record {
      length = rw (← c.self.view_is) (omega (arith, own, written, all));
    }
