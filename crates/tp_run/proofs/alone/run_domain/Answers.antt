use Rattle.std.proofs.Common.{◌≡◌, ◌∙◌, List, ℕ, ap, ap₂, sym, arith, subst}
use Rattle.image_check.specs.Image.{image_from, own_of}
use Rattle.world_view.specs.Harts.{view_alone_on}
use Rattle.image_check.specs.Own.{Own}
use Rattle.tp_io.specs.Sink.{state}
use Rattle.tp_io.specs.Sends.{Sends}
use Rattle.tp_answer.specs.Runs.{section_alone}
use Rattle.tp_answer.specs.declared.status.Status.TheVariants.{Done}
use Rattle.tp_answer.proofs.Answers.{delivered, nothing_held}
use Rattle.tp_answer.proofs.Reports.{section_alone_is}
use Rattle.tp_run.proofs.alone.run_domain.Goals as goal

pub load-requires : goal.load-requires
load-requires g c = record {
  image = record {
    image = image_from c.args.image.now;
    runnable = c.runnable.ensures.runnable;
    domain = c.requires.domain;
    public = c.public.ensures.value;
    own = rw c.from.ensures at c.own-own.ensures.value;
  };
}

pub returns-in-Err : goal.returns-in-Err
returns-in-Err g c = record { delivers = nothing_held _ _ }

pub returns : goal.returns
returns g c =
    let i = image_from c.args.image.now in
    let over : c.loop-slot.slot ≡ c.args.slots = omega arith in
    let at = c.loop-slot.invariant in
    let name = c.as_str-name.ensures.value ∙ ap (λ (o : Own). o.name) at.own in
    let seen =
    c.view.ensures.image i at.public (at.own ∙ ap (own_of i) (sym at.number))
    ∙ ap₂ (λ (d n : ℕ). view_alone_on i d n) at.number (at.slots ∙ over) in
    let old = state g.K.Sink c.args.out.now in
    let new = state g.K.Sink c.write_section.new.out in
    let sends =
    subst (λ (text : List ℕ). Sends old new c.write_section.result text)
    (section_alone_is i c.args.d c.args.slots _ _ name seen) c.write_section.ensures.sends in
    record {
      delivers =
          delivered Done c.status_unless_failed-status.result (section_alone i c.args.d c.args.slots) old new
          c.write_section.result tt sends c.status_unless_failed-status.ensures.ok
          c.status_unless_failed-status.ensures.err;
    }
