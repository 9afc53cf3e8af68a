use Rattle.std.proofs.Common.{◌≡◌, ◌∙◌, ℕ, ◌<◌, List, Some, None, subst, arith}
use Rattle.std.specs.Prelude.{slice_get}
use Rattle.image_record.specs.Record.{Raw}
use Rattle.image_check.specs.Image.{Image, image_from, own_of}
use Rattle.kernel_call.proofs.Logs.{kept_of}
use Rattle.domain_open.proofs.Seen.{pool_in_memory}
use Rattle.world_view.specs.Machine.{dom_of, arrivals}
use Rattle.domain_view.specs.Models.{view_model}
use Rattle.world_view.specs.Relations.{IsDomain, HasNoMail}
use Rattle.world_view.specs.Harts.{Harts, harts, harts_by, start_on, hart_of_domain, view_on, view_mailed_on, view_alone_on}
use Rattle.world_view.specs.HartLaws.{AreHartsOf}
use Rattle.hart_set.specs.declared.set.State.{State}
use Rattle.hart_set.specs.Standing.{StandsFor, AtHart}
use Rattle.hart_set.specs.Models.{image_of}
use Rattle.hart_set.proofs.Called.{of_image, domain_read}
use Rattle.hart_set.proofs.Seen.{frames_are, seen, seen_mailed, seen_alone}
use Rattle.hart_set.proofs.set.HartSet.view.Goals as goal

got : (c : goal.After-index) → slice_get c.self.inside.state.domains.items c.args.d ≡ Some c.index.result.now
got c =
    let named =
    of_image c.self.inside.image.now c.self.inside.state c.args.self.now c.self.view_is
    (λ (i : Image). IsDomain i c.args.d) c.requires.domain in
    domain_read (image_from c.self.inside.image.now) c.self.inside.state c.self.invariant c.args.d named
    c.from.result c.index.result.now c.from.ensures
    c.index.ensures

pub new-requires-clause-in_memory : goal.new-requires-clause-in_memory
new-requires-clause-in_memory c =
    let i = image_from c.self.inside.image.now in
    let t = c.self.inside.state in
    let is = c.self.invariant.stands.each_domain c.args.d c.index.result.now (got c) in
    pool_in_memory i.all.hardware (own_of i c.args.d) c.index.result.now is.has t.memory (frames_are i t c.self.invariant)

pub new-requires-clause-readings : goal.new-requires-clause-readings
new-requires-clause-readings c =
    let i = image_from c.self.inside.image.now in
    let is = c.self.invariant.stands.each_domain c.args.d c.index.result.now (got c) in
    rw is.dom.readings (kept_of (dom_of (harts_by c.self.inside.state.off i c.self.invariant.order).world c.args.d).readings)

pub new-requires-clause-replies : goal.new-requires-clause-replies
new-requires-clause-replies c =
    let i = image_from c.self.inside.image.now in
    let is = c.self.invariant.stands.each_domain c.args.d c.index.result.now (got c) in
    rw is.dom.replies (kept_of (dom_of (harts_by c.self.inside.state.off i c.self.invariant.order).world c.args.d).replies)

named : (c : goal.After-new) → IsDomain (image_from c.self.inside.image.now) c.args.d
named c =
    of_image c.self.inside.image.now c.self.inside.state c.args.self.now c.self.view_is
    (λ (i : Image). IsDomain i c.args.d) c.requires.domain

got_after : (c : goal.After-new)
    → slice_get c.self.inside.state.domains.items c.args.d ≡ Some c.index.result.now
got_after c =
    domain_read (image_from c.self.inside.image.now) c.self.inside.state c.self.invariant c.args.d (named c)
    c.from.result c.index.result.now c.from.ensures
    c.index.ensures

pub returns-clause-view : goal.returns-clause-view
returns-clause-view c =
    subst
    (λ (v : Raw × State). (s : Harts) → StandsFor (image_of v) s v.1
    → view_model c.new.result ≡ view_on (image_of v) c.args.d s)
    c.self.view_is
    (λ s stands. c.new.ensures.view
    ∙ seen (image_from c.self.inside.image.now) c.self.inside.state c.self.invariant c.args.d c.index.result.now (got_after c) s stands)

pub returns-clause-mailed : goal.returns-clause-mailed
returns-clause-mailed c =
    subst
    (λ (v : Raw × State). v.1.off ≡ None → (order : List ℕ) → AreHartsOf (image_of v) order
    → StandsFor (image_of v) (harts (image_of v) order) v.1 → AtHart v.1 (hart_of_domain (image_of v) c.args.d)
    (λ x. x.clock < start_on (image_of v) (hart_of_domain (image_of v) c.args.d) x.slots
    → view_model c.new.result ≡ view_mailed_on (image_of v) c.args.d (arrivals c.args.d (harts (image_of v) order).world) x.slots))
    c.self.view_is
    (λ all order of_harts stands x at early. c.new.ensures.view
    ∙ seen_mailed (image_from c.self.inside.image.now) c.self.inside.state c.self.invariant c.args.d
    c.index.result.now (got_after c) (named c) order of_harts stands x at early)

pub returns-clause-alone : goal.returns-clause-alone
returns-clause-alone c =
    subst
    (λ (v : Raw × State). v.1.off ≡ None → HasNoMail (image_of v) c.args.d → AtHart v.1 (hart_of_domain (image_of v) c.args.d)
    (λ x. x.clock < start_on (image_of v) (hart_of_domain (image_of v) c.args.d) x.slots
    → view_model c.new.result ≡ view_alone_on (image_of v) c.args.d x.slots))
    c.self.view_is
    (λ all none x at early. c.new.ensures.view
    ∙ seen_alone (image_from c.self.inside.image.now) c.self.inside.state c.self.invariant c.args.d
    c.index.result.now (got_after c) (named c) all none x at early)

pub index-requires : goal.index-requires
index-requires c =
    let named =
    of_image c.self.inside.image.now c.self.inside.state c.args.self.now c.self.view_is
    (λ (i : Image). IsDomain i c.args.d) c.requires.domain in
    omega (arith, named, c.from.ensures, c.self.invariant.stands.all_domains)
