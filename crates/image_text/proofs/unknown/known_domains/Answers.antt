use Rattle.std.proofs.Common.{refl, true, map}
use Rattle.toml.specs.View.{view, items_view}
use Rattle.image_text.specs.Models.{row_model}
use Rattle.image_text.specs.Rows.{all_items}
use Rattle.image_text.specs.Unknown as unknown
use Rattle.image_text.proofs.Loops.{holds, fails, ended}
use Rattle.image_text.proofs.unknown.known_domains.Goals as goal

pub loop-value-preserved : goal.loop-value-preserved
loop-value-preserved c =
    holds (λ vs.
    all_items (unknown.known_domain c.args.version (map row_model c.args.rows.now)) (items_view vs))
    (λ v. unknown.known_domain c.args.version (map row_model c.args.rows.now) (view v)) c.args.values.now
    c.loop-value.value-index c.value-item.result c.value-item.result c.loop-value-test.true
    c.value-item.is (λ y ys. refl) c.if-not-known_domain.ensures.value c.loop-value.invariant

pub returns-then-not-known_domain : goal.returns-then-not-known_domain
returns-then-not-known_domain c = record {
  value =
      fails (λ vs.
      all_items (unknown.known_domain c.args.version (map row_model c.args.rows.now)) (items_view vs))
      (λ v. unknown.known_domain c.args.version (map row_model c.args.rows.now) (view v)) c.args.values.now
      c.loop-value.value-index c.value-item.result c.value-item.result c.loop-value-test.true
      c.value-item.is (λ y ys. refl) c.if-not-known_domain.ensures.value c.loop-value.invariant;
}

pub returns : goal.returns
returns c = record {
  value =
      ended (λ vs.
      all_items (unknown.known_domain c.args.version (map row_model c.args.rows.now)) (items_view vs)) true
      c.args.values.now c.loop-value.value-index c.loop-value-test.false refl c.loop-value.invariant;
}
