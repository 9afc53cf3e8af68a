use Rattle.image_text.proofs.Loops.{one_read, all_read}
use Rattle.image_text.proofs.items.read_items.Goals as goal

pub loop-value-preserved : goal.loop-value-preserved
loop-value-preserved g c =
    one_read g.T.Item.model g.T.Item.part_in c.loop-value.found.items c.args.values.now c.loop-value.value-index _ c.loop-value.invariant
    c.push.new.self.items c.in_ok-read.field-0 c.value-item.result c.value-item.result c.loop-value-test.true c.value-item.is
    c.in_ok-push.ensures.items c.in_ok-read.ensures.read

pub returns : goal.returns
returns g c = record {
  read =
      all_read g.T.Item.model g.T.Item.part_in c.loop-value.found.items c.args.values.now
      c.loop-value.value-index _ c.loop-value.invariant c.loop-value-test.false;
}
