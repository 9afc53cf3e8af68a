use Rattle.std.proofs.Common.{length, ap, ◌∙◌, sym}
use Rattle.image_check.specs.Public.{Public}
use Rattle.image_check.specs.Image.{Image}
use Rattle.tp_answer.proofs.Reports.{kept_ending}
use Rattle.tp_run.proofs.run.write_ending.Goals as goal

pub write_switches-requires : goal.write_switches-requires
write_switches-requires g c =
    let own = c.public-public.ensures.value ∙ ap (λ (i : Image). i.all) c.checked.ensures.image in
    record { paired = c.switches.ensures.all ∙ ap (λ (p : Public). length p.schedule) (sym own) }

pub returns : goal.returns
returns g c =
    let m = c.args.machine.now in
    let own = c.public-public.ensures.value ∙ ap (λ (i : Image). i.all) c.checked.ensures.image in
    let text = kept_ending (g.M.Reported.image m) (g.M.Reported.world m) _ _ (ap (λ (p : Public). p.schedule) own)
    c.switches.ensures.all c.switches.ensures.each in
    record { sends = rw text at c.write_switches.ensures.sends }
