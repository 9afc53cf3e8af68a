use Rattle.std.proofs.Common.{◌∙◌, [], refl, sym, subst}
use Rattle.std.proofs.lemmas.Result.{IfOk-from_err}
use Rattle.image_record.specs.Record.{Raw}
use Rattle.image_check.specs.Image.{image_from}
use Rattle.world_view.specs.Harts.{harts}
use Rattle.hart_set.specs.Standing.{StandsFor}
use Rattle.hart_set.proofs.run.HartRun.new.Goals as goal

pub run_all-requires : goal.run_all-requires
run_all-requires c = record {
  few = c.requires.few;
  all = c.in_ok-harts.ensures.off;
  first =
      subst (λ (x : Raw). StandsFor (image_from x) (harts (image_from x) []) c.in_ok-harts.harts.1) (sym c.in_ok-harts.ensures.image)
      c.in_ok-harts.ensures.stands;
}

pub invariant_of-result : goal.invariant_of-result
invariant_of-result c = c.run_all.ensures.run

pub returns : goal.returns
returns c = record {
  image = c.run_all.ensures.image ∙ c.in_ok-harts.ensures.image;
  choice = refl;
  slots = refl;
}

-- where memory ran out

pub returns-in_err-harts : goal.returns-in_err-harts
returns-in_err-harts c = record {
  image = IfOk-from_err c.from_residual.result _ c.from_residual.ensures.0;
  choice = IfOk-from_err c.from_residual.result _ c.from_residual.ensures.0;
  slots = IfOk-from_err c.from_residual.result _ c.from_residual.ensures.0;
}
