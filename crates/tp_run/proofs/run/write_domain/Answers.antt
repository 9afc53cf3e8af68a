use Rattle.std.proofs.Common.{List, ℕ, ap, ◌∙◌, subst}
use Rattle.image_check.specs.Own.{Own}
use Rattle.image_check.specs.Image.{Image, own_of}
use Rattle.world_view.specs.View.{view_in}
use Rattle.tp_io.specs.Sends.{Sends}
use Rattle.tp_io.specs.Sink.{state}
use Rattle.tp_answer.proofs.Reports.{section_of_is}
use Rattle.tp_run.proofs.run.write_domain.Goals as goal

pub returns : goal.returns
returns g c =
    let m = c.args.machine.now in
    let i = g.M.Reported.image m in
    let d = c.args.d in
    let own = rw c.from.ensures at c.own-own.ensures.value in
    let name = c.as_str.ensures.value ∙ ap (λ (o : Own). o.name) (own ∙ ap (λ (j : Image). own_of j d) c.checked.ensures.image) in
    let text = section_of_is i (λ e. view_in i e (g.M.Reported.world m)) d c.as_str.result.now _ name c.seen.ensures.view in
    record {
      sends =
          subst (λ (xs : List ℕ). Sends (state g.K.Sink c.args.out.now)
          (state g.K.Sink c.write_section.new.out) c.write_section.result xs) text
          c.write_section.ensures.sends;
    }
