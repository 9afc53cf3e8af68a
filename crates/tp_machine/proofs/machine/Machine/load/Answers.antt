use Rattle.std.proofs.Common.{[], None, refl, sym, subst}
use Rattle.std.proofs.lemmas.Result.{IfOk-from_err}
use Rattle.image_record.specs.Record.{Raw}
use Rattle.image_check.specs.Image.{image_from}
use Rattle.image_check.specs.Laws.{Runnable}
use Rattle.world_view.specs.Harts.{IsOnOneHart, harts}
use Rattle.hart_set.specs.Standing.{StandsFor}
use Rattle.tp_machine.proofs.OneHart.{none_run}
use Rattle.tp_machine.proofs.machine.Machine.load.Goals as goal

pub invariant_of-result : goal.invariant_of-result
invariant_of-result c =
    let v = c.in_ok-harts.harts in
    let same = sym c.in_ok-harts.ensures.image in
    none_run None v (subst (λ (x : Raw). Runnable (image_from x)) same c.runnable.ensures.runnable)
    (subst (λ (x : Raw). IsOnOneHart (image_from x)) same c.requires.one) c.in_ok-harts.ensures.off
    (subst (λ (x : Raw). StandsFor (image_from x) (harts (image_from x) []) v.1) same c.in_ok-harts.ensures.stands)

pub returns : goal.returns
returns c = record { slots = refl; image = c.in_ok-harts.ensures.image }

pub returns-in_err-harts : goal.returns-in_err-harts
returns-in_err-harts c = record {
  slots = IfOk-from_err c.from_residual.result _ c.from_residual.ensures.0;
  image = IfOk-from_err c.from_residual.result _ c.from_residual.ensures.0;
}
