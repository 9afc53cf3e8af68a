use Rattle.std.proofs.Common.{refl, sym, ◌∙◌}
use Rattle.image_record.specs.Parts.{entry_model}
use Rattle.image_record.proofs.Loops.{unmade, made_from, all_made_of}
use Rattle.schedule_check.specs.Schedule.{entry_of}
use Rattle.schedule_check.proofs.harts.entries_in.Goals as goal

pub entry_from-requires : goal.entry_from-requires
entry_from-requires c = record { small = c.requires.small c.loop-text.text-index _ c.loop-text-test.true }

pub returns-in_err-push : goal.returns-in_err-push
returns-in_err-push c = record { value = unmade (λ v. v.items) c.from_residual.result _ c.from_residual.ensures.1 }

pub loop-text-preserved : goal.loop-text-preserved
loop-text-preserved c =
    made_from entry_of entry_model c.loop-text.entries.items c.push.new.self.items c.args.texts.now
    c.loop-text.text-index _ _ c.entry_from.result c.loop-text-test.true
    refl c.in_ok-push.ensures.items c.entry_from.ensures.value ∙ c.loop-text.invariant

pub returns : goal.returns
returns c =
    record {
      value =
          sym (all_made_of entry_of entry_model c.loop-text.entries.items c.args.texts.now
          c.loop-text.text-index c.loop-text-test.false) ∙ c.loop-text.invariant;
    }
