use Rattle.std.proofs.Common.{◌<◌, ◌-◌, arith}
use Rattle.kernel_clone.specs.Laws.{shared_count}
use Rattle.kernel_clone.specs.Models.{layout_model}
use Rattle.kernel_clone.specs.declared.Kind.TheVariants.{Fetch, Store}
use Rattle.kernel_clone.proofs.Items.{text_item, stack_item, data_item, shared_item}
use Rattle.kernel_clone.proofs.Runs.{run_item, loaded_item}
use Rattle.kernel_clone.proofs.footprint.own_touch.Goals as goal

pub returns-then-place-lt-TEXT_LINES : goal.returns-then-place-lt-TEXT_LINES
returns-then-place-lt-TEXT_LINES c = record {
  touch = rw (c.new.ensures.value, c.number.ensures.same)
      (text_item _ _ _ _ (run_item _ Fetch _ 4 _ c.text_start-first.ensures.touches c.if-place-lt-TEXT_LINES.true));
}

pub returns-then-place-lt-STACK_LINES : goal.returns-then-place-lt-STACK_LINES
returns-then-place-lt-STACK_LINES c = record {
  touch = rw (c.new-then-place-lt-STACK_LINES.ensures.value, c.number-then-place-lt-STACK_LINES.ensures.same)
      (stack_item _ _ _ _ c.if-place-lt-TEXT_LINES.false
      (run_item _ Store _ 2 _ c.stack_start-first.ensures.touches c.if-place-lt-STACK_LINES.true));
}

pub returns-then-place-data_count : goal.returns-then-place-data_count
returns-then-place-data_count c = record {
  touch = rw (c.new-then-place-data_count.ensures.value, c.number-then-place-data_count.ensures.same)
      (data_item _ _ _ _ c.if-place-lt-TEXT_LINES.false c.if-place-lt-STACK_LINES.false
      (run_item _ Store _ _ _ c.data_start-first.ensures.touches
      (let few = c.data_count.ensures.value in omega (arith, few, c.if-place-data_count.true))));
}

pub returns : goal.returns
returns c =
    let stored = c.data_count.ensures.value in
    let last : c.args.place - 4 - 2 - c.data_count.result < shared_count c.args.op =
    omega (arith, stored, c.if-place-lt-TEXT_LINES.false, c.if-place-lt-STACK_LINES.false, c.if-place-data_count.false, c.requires.below) in
    record {
      touch = shared_item _ _ _ _ _ stored c.if-place-lt-TEXT_LINES.false c.if-place-lt-STACK_LINES.false c.if-place-data_count.false
          (loaded_item (layout_model c.args.layout.now) c.args.op c.loaded_line.result _ c.loaded_line.ensures.touches last);
    }
