use Rattle.std.proofs.Common.{refl, ap, ◌∙◌, arith}
use Rattle.frame_colours.specs.Colours.{Whole, whole_of, share_of}
use Rattle.frame_colours.proofs.Splits.{made_more, all_made}
use Rattle.frame_colours.proofs.colours.parts_of.Goals as goal

pub loop-list-preserved : goal.loop-list-preserved
loop-list-preserved c =
    let whole : Whole = whole_of c.args.frames c.args.colours in
    let own = c.in_ok-own.ensures.items ∙ c.deref.ensures.value in
    let pushed = c.push_reserved.ensures in
    let x = c.list-item.result in (
      made_more (share_of whole) (λ list. list.items) c.loop-list.parts.items c.push_reserved.new.self.items c.args.lists.now
          c.loop-list.list-index x x _ c.loop-list-test.true c.list-item.is c.loop-list.invariant.0 pushed.items (ap (share_of whole) own),
      omega (arith, c.loop-list.invariant.1, pushed.len),
      omega (arith, c.loop-list-test.true),
      refl,
      omega (arith, c.loop-list.invariant.4, pushed.capacity),
    )

pub returns : goal.returns
returns c =
    let whole : Whole = whole_of c.args.frames c.args.colours in
    record {
      parts = all_made (share_of whole) (λ list. list.items) c.loop-list.parts.items c.args.lists.now c.loop-list.list-index
          c.loop-list-test.false c.loop-list.invariant.0;
    }
