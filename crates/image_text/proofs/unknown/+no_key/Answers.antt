use Rattle.std.proofs.Common.{refl, true, ap, ◌∙◌}
use Rattle.toml.specs.View.{view, items_view}
use Rattle.image_text.specs.Unknown.{no_key, no_key_in}
use Rattle.image_text.proofs.Loops.{holds, fails, ended}
use Rattle.image_text.proofs.unknown.+no_key.Goals as goal

pub all_hold_no_key-loop-value-preserved : goal.all_hold_no_key-loop-value-preserved
all_hold_no_key-loop-value-preserved t c =
    holds (λ vs. no_key_in (items_view vs)) (λ v. no_key (view v)) c.deref-value-items.result.now
    c.loop-value.value-index c.value-item.result c.value-item.result
    c.loop-value-test.true c.value-item.is (λ y ys. refl) c.if-not-holds_no_key.ensures.value c.loop-value.invariant

pub all_hold_no_key-returns-then-not-holds_no_key : goal.all_hold_no_key-returns-then-not-holds_no_key
all_hold_no_key-returns-then-not-holds_no_key t c = record {
  value =
      fails (λ vs. no_key_in (items_view vs)) (λ v. no_key (view v)) c.deref-value-items.result.now
      c.loop-value.value-index c.value-item.result c.value-item.result
      c.loop-value-test.true c.value-item.is (λ y ys. refl) c.if-not-holds_no_key.ensures.value c.loop-value.invariant
      ∙ ap (λ vs. no_key_in (items_view vs)) c.deref-value-items.ensures.value;
}

pub all_hold_no_key-returns : goal.all_hold_no_key-returns
all_hold_no_key-returns t c = record {
  value =
      ended (λ vs. no_key_in (items_view vs)) true c.deref-value-items.result.now c.loop-value.value-index
      c.loop-value-test.false refl c.loop-value.invariant
      ∙ ap (λ vs. no_key_in (items_view vs)) c.deref-value-items.ensures.value;
}
