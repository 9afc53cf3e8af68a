use Rattle.std.proofs.Common.{refl, arith}
use Rattle.std.proofs.lemmas.List.{length-map}
use Rattle.phys_mem.specs.Contents.{frame_words}
use Rattle.domain_view.specs.Models.{view_model}
use Rattle.world_view.specs.View.{memory_sum}
use Rattle.tp_report.proofs.Sums.{memory_sum_more, memory_sum_all}
use Rattle.tp_report.proofs.report.memory_sum.Goals as goal

pub loop-i-init : goal.loop-i-init
unfolding memory_sum
loop-i-init c = refl

pub loop-i-preserved : goal.loop-i-preserved
loop-i-preserved c =
    let v = c.args.view.now in
    let long = length-map (view_model v).pool (frame_words v.memory.now) in
    memory_sum_more (view_model v).frames c.loop-i.i c.frame_sum-sum.result c.loop-i.sum (omega (arith, long))
    c.frame_sum-sum.ensures.value c.loop-i.invariant

pub returns : goal.returns
returns c =
    let v = c.args.view.now in
    let long = length-map (view_model v).pool (frame_words v.memory.now) in
    record { value = memory_sum_all (view_model v).frames c.loop-i.i c.loop-i.sum (omega (arith, long)) c.loop-i.invariant }
