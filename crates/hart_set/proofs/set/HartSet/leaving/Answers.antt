use Rattle.std.proofs.Common.{◌≡◌, Some, None, refl, arith}
use Rattle.sched_table.specs.Schedule.{entry_in, on_hart, switch_entry, outgoing}
use Rattle.image_check.specs.Image.{Image, image_from}
use Rattle.hart_orders.specs.declared.hart.Hart.{Hart}
use Rattle.hart_set.proofs.Called.{called, within, value_at, for_hart}
use Rattle.hart_set.proofs.Turning.{none_first, last_leaves}
use Rattle.hart_set.proofs.set.HartSet.leaving.Goals as goal

pub index-requires : goal.index-requires
index-requires c =
    let there =
    within c.self.inside.image.now c.self.inside.state c.args.self.now c.self.view_is c.args.h c.args.h
    refl c.requires.hart c.self.invariant in
    omega (arith, there)

pub returns-then-index-eq0 : goal.returns-then-index-eq0
returns-then-index-eq0 c =
    let t = c.self.inside.state in
    let x = c.index.result.now in
    let i = image_from c.self.inside.image.now in
    let k = called c.self.inside.image.now t c.args.self.now c.self.view_is c.args.h c.requires.hart c.self.invariant x c.index.ensures in
    record {
      domain =
          for_hart c.self.inside.image.now t c.args.self.now c.self.view_is c.args.h x
          (λ (j : Image) (y : Hart). None ≡ outgoing (on_hart j.all.schedule c.args.h) y.slots)
          k.got (none_first (on_hart i.all.schedule c.args.h) x.slots c.if-index-eq0.true);
      there = tt;
    }

pub returns : goal.returns
returns c =
    let t = c.self.inside.state in
    let x = c.index.result.now in
    let i = image_from c.self.inside.image.now in
    let k = called c.self.inside.image.now t c.args.self.now c.self.view_is c.args.h c.requires.hart c.self.invariant x c.index.ensures in
    let ended =
    value_at c.self.inside.image.now t c.args.self.now c.self.view_is c.args.h x
    (λ (j : Image) (y : Hart). c.args.ended
    ≡ entry_in (on_hart j.all.schedule c.args.h) (switch_entry (on_hart j.all.schedule c.args.h) y.slots))
    k.got c.requires.ended in
    record {
      domain =
          for_hart c.self.inside.image.now t c.args.self.now c.self.view_is c.args.h x
          (λ (j : Image) (y : Hart). Some c.args.ended.domain ≡ outgoing (on_hart j.all.schedule c.args.h) y.slots)
          k.got (last_leaves (on_hart i.all.schedule c.args.h) x.slots c.args.ended c.if-index-eq0.false ended);
      there = c.requires.domain;
    }
