use Rattle.std.proofs.Common.{◌≡◌, ◌∙◌, ◌<◌, ◌+◌, ℕ, arith, ap, sym, refl, inl, inr, false}
use Rattle.std.specs.Prelude.{slice_index_or, slice_set}
use Rattle.std.proofs.lemmas.Bool.{cases_eq}
use Rattle.std.proofs.lemmas.List.{length-set, get_or-set_other}
use Rattle.std.proofs.lemmas.Grind.{get_or-set_at}
use Rattle.frame_colours.specs.Colours.{has}
use Rattle.frame_colours.proofs.share.named.Goals as goal

pub loop-colour-init : goal.loop-colour-init
loop-colour-init c = record { whole = refl; so_far = λ colour before. absurd (omega (arith, before)) }

pub loop-colour-preserved : goal.loop-colour-preserved
loop-colour-preserved c =
    let so_far : (colour : ℕ) → colour < c.loop-colour.colour-counter + 1
    → slice_index_or (slice_set c.loop-colour.named c.from.result c.contains.result) colour false ≡ has c.args.own.now colour =
    λ colour before.
    elim (cases_eq colour c.from.result) [
      | inl same ↦
          get_or-set_at c.loop-colour.named c.from.result colour c.contains.result false same
          (omega (arith, c.loop-colour.invariant.whole, c.from.ensures, c.loop-colour-test.true))
          ∙ c.contains.ensures.value
          ∙ ap (has c.args.own.now) (sym (same ∙ c.from.ensures))
      | inr other ↦
          get_or-set_other c.loop-colour.named c.from.result colour c.contains.result false other
          ∙ c.loop-colour.invariant.so_far colour (omega (arith, before, other, c.from.ensures))
    ] in
    record { whole = length-set c.loop-colour.named c.from.result c.contains.result ∙ c.loop-colour.invariant.whole; so_far = so_far }

pub returns : goal.returns
returns c = record { named = λ colour before. c.loop-colour.invariant.so_far colour (omega (arith, before, c.loop-colour-test.false)) }
