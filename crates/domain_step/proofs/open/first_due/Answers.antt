use Rattle.std.proofs.Common.{◌∙◌, ap₂, sym, refl, length, List}
use Rattle.std.proofs.lemmas.Option.{slice_get_read}
use Rattle.kernel_call.specs.declared.domain.Domain.{Domain}
use Rattle.world_view.specs.Machine.{first_of}
use Rattle.domain_step.specs.OpenSlot.{first_among}
use Rattle.domain_step.proofs.Moments.{first_more}
use Rattle.domain_step.proofs.open.first_due.Goals as goal

pub loop-owner-init : goal.loop-owner-init
unfolding first_among
loop-owner-init c = record { so_far = refl }

pub loop-owner-preserved : goal.loop-owner-preserved
loop-owner-preserved c =
    let domains : List Domain = c.args.domains.now in
    let x : Domain = c.index-domains-owner.result in
    record {
      so_far =
          c.sooner-first.ensures.first
          ∙ ap₂ first_of c.loop-owner.invariant.so_far c.due_of.ensures.due
          ∙ sym (first_more c.args.now domains c.loop-owner.owner x
          (slice_get_read domains (length domains) c.loop-owner.owner x refl c.loop-owner-test.true
          c.index-domains-owner.is));
    }
