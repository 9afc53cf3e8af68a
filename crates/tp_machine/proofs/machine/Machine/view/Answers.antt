use Rattle.std.proofs.Common.{◌≡◌, ◌<◌, ◌∙◌, length, None, sym, subst}
use Rattle.image_check.specs.Image.{own_of}
use Rattle.world_view.specs.Machine.{arrivals}
use Rattle.world_view.specs.View.{view_whole, view_mailed, view_alone}
use Rattle.world_view.specs.Relations.{HasNoMail}
use Rattle.domain_view.specs.Models.{view_model}
use Rattle.tp_machine.specs.Models.{Ran, image_of, world_of}
use Rattle.tp_machine.proofs.OneHart.{seen, mailed, alone}
use Rattle.tp_machine.proofs.machine.Machine.view.Goals as goal

pub returns-clause-view : goal.returns-clause-view
unfolding view_whole
returns-clause-view c =
    let m = c.self.inside in
    subst (λ (v : Ran). view_model c.view.result ≡ view_whole (image_of v) c.args.d v.slots) c.self.view_is
    (seen None m.harts m.slots c.self.invariant c.args.d (view_model c.view.result) c.view.ensures.view)

pub returns-clause-mailed : goal.returns-clause-mailed
returns-clause-mailed c =
    let m = c.self.inside in
    let named = subst (λ (v : Ran). c.args.d < length (image_of v).owns) (sym c.self.view_is) c.requires.domain in
    returns-clause-view c
    ∙ subst
    (λ (v : Ran). view_whole (image_of v) c.args.d v.slots
    ≡ view_mailed (image_of v).all (own_of (image_of v) c.args.d) c.args.d (arrivals c.args.d (world_of v)) v.slots)
    c.self.view_is (mailed m.harts m.slots c.self.invariant c.args.d named)

pub returns-clause-alone : goal.returns-clause-alone
returns-clause-alone c none =
    let m = c.self.inside in
    let named = subst (λ (v : Ran). c.args.d < length (image_of v).owns) (sym c.self.view_is) c.requires.domain in
    returns-clause-view c
    ∙ subst
    (λ (v : Ran). HasNoMail (image_of v) c.args.d → view_whole (image_of v) c.args.d v.slots
    ≡ view_alone (image_of v).all (own_of (image_of v) c.args.d) c.args.d v.slots)
    c.self.view_is (alone m.harts m.slots c.self.invariant c.args.d named) none
