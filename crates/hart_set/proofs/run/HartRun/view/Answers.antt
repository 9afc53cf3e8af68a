use Rattle.std.proofs.Common.{◌≡◌, ◌∙◌, ◌<◌, length, sym, subst}
use Rattle.world_view.specs.Machine.{arrivals}
use Rattle.world_view.specs.Relations.{HasNoMail}
use Rattle.world_view.specs.Harts.{view_mailed_on, view_alone_on}
use Rattle.world_view.specs.View.{view_in}
use Rattle.domain_view.specs.Models.{view_model}
use Rattle.hart_set.specs.Run.{Run, image_of, world_of}
use Rattle.hart_set.specs.Models as set
use Rattle.hart_orders.proofs.ChoiceLaws.{choice_mail, choice_law}
use Rattle.hart_set.proofs.RunSeen.{seen_of_run}
use Rattle.hart_set.proofs.run.HartRun.view.Goals as goal

named : (c : goal.After-view) → c.args.d < length (set.image_of c.self.inside.harts).owns
named c = subst (λ (v : Run). c.args.d < length (image_of v).owns) (sym c.self.view_is) c.requires.domain

pub returns-clause-view : goal.returns-clause-view
returns-clause-view c =
    let r = c.self.inside in
    subst (λ (v : Run). view_model c.view.result ≡ view_in (image_of v) c.args.d (world_of v)) c.self.view_is
    (seen_of_run r.harts r.choice r.slots c.self.invariant c.args.d (view_model c.view.result) (named c) c.view.ensures.view)

pub returns-clause-mailed : goal.returns-clause-mailed
returns-clause-mailed c =
    let r = c.self.inside in
    subst (λ (v : Run). view_model c.view.result ≡ view_mailed_on (image_of v) c.args.d (arrivals c.args.d (world_of v)) v.slots)
    c.self.view_is
    (seen_of_run r.harts r.choice r.slots c.self.invariant c.args.d (view_model c.view.result) (named c) c.view.ensures.view
    ∙ choice_mail (set.image_of r.harts) r.choice r.slots c.args.d c.self.invariant.accepted (named c))

pub returns-clause-alone : goal.returns-clause-alone
returns-clause-alone c =
    let r = c.self.inside in
    subst (λ (v : Run). HasNoMail (image_of v) c.args.d → view_model c.view.result ≡ view_alone_on (image_of v) c.args.d v.slots)
    c.self.view_is
    (λ none.
    seen_of_run r.harts r.choice r.slots c.self.invariant c.args.d (view_model c.view.result) (named c) c.view.ensures.view
    ∙ choice_law (set.image_of r.harts) r.choice r.slots c.args.d c.self.invariant.accepted (named c) none)
