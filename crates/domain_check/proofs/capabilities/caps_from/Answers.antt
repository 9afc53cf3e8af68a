use Rattle.std.proofs.Common.{refl, sym, ◌∙◌}
use Rattle.domain_check.specs.Models.{named_model}
use Rattle.image_record.proofs.Loops.{unmade, made, all_made}
use Rattle.domain_check.proofs.capabilities.caps_from.Goals as goal

pub returns-in_err-push : goal.returns-in_err-push
returns-in_err-push c = record { value = unmade _ c.from_residual.result _ c.from_residual.ensures.1 }

pub loop-named-preserved : goal.loop-named-preserved
loop-named-preserved c =
    made named_model c.loop-named.caps.items c.push.new.self.items c.args.slots.now c.loop-named.named-index _
    _ c.cap_from.result c.loop-named-test.true refl
    c.in_ok-push.ensures.items c.cap_from.ensures.value
    ∙ c.loop-named.invariant

pub returns : goal.returns
returns c =
    record {
      value =
          sym (all_made named_model c.loop-named.caps.items c.args.slots.now c.loop-named.named-index
          c.loop-named-test.false) ∙ c.loop-named.invariant;
    }
