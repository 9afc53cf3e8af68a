-- The first domain of the image runs.
use Rattle.std.proofs.Common.{◌≡◌, ◌<◌, ◌∙◌, length, refl, sym, ap, subst, arith}
use Rattle.std.proofs.lemmas.Option.{slice_get_read}
use Rattle.phys_mem.specs.Contents.{Contents}
use Rattle.repl_policy.specs.Orders.{lru_rule}
use Rattle.repl_policy.specs.Packed.{Packs}
use Rattle.mem_system.specs.Cost.{cold}
use Rattle.mem_system.specs.Contents.{system, SystemStands}
use Rattle.hardware_check.specs.Hardware.{Hardware}
use Rattle.hardware_check.specs.Models.{hardware_model}
use Rattle.image_check.specs.Public as spec
use Rattle.image_check.specs.Image.{image_from}
use Rattle.world_view.specs.Cost.{hierarchy}
use Rattle.machine_tests.proofs.Opened.{opened_runs}
use Rattle.step_tests.proofs.steps.costs.Goals as goal

pub four_steps-costs-requires-clause-runs : goal.four_steps-costs-requires-clause-runs
four_steps-costs-requires-clause-runs c =
    let i = image_from c.in-Some.image in
    let r = c.runnable.ensures.runnable in
    let items = c.in_ok-domains.domains.items in
    let some : 0 < length items = omega (arith, r.some_domain, c.in_ok-domains.ensures.opened.all) in
    let x = c.index_mut.result.now in
    let got = slice_get_read items (length items) 0 x refl some c.index_mut.ensures.value in
    let hardware : hardware_model c.public-public.result.now.hardware ≡ i.all.hardware =
    ap (λ (q : spec.Public). q.hardware) c.public-public.ensures.value in
    let frames =
    c.load_pages.ensures.size ∙ c.in_ok-domains.ensures.size
    ∙ ap (λ (x : Contents). x.frames) c.in_ok-memory.ensures.zero
    ∙ ap (λ (h : Hardware). h.frames) hardware in
    let made = c.in_ok-core.ensures in
    let levels = rw c.in-Some-2.is at made.levels in
    let pinned = rw c.in-Some-2.is at made.pinned in
    let caches = rw c.in-Some-2.is at made.cold in
    let leaves = rw c.in-Some-2.is at made.kept in
    opened_runs i r c.load_pages.new.memory x (c.in_ok-domains.ensures.opened.each 0 x got) frames
    c.load_pages.ensures.holds (λ _. lru_rule) (λ _ ways state list. Packs ways state list) c.in_ok-mail.mail
    (system c.in-Some-2.core c.in-Some-2.l2) (ap hierarchy (sym hardware) ∙ levels) pinned
    (subst (λ (h : Hardware). SystemStands (λ _ ways state list. Packs ways state list)
    (system c.in-Some-2.core c.in-Some-2.l2) (cold (hierarchy h))) hardware caches) leaves

pub four_steps-costs-requires-clause-few : goal.four_steps-costs-requires-clause-few
four_steps-costs-requires-clause-few c =
    let i = image_from c.in-Some.image in
    let r = c.runnable.ensures.runnable in
    let items = c.in_ok-domains.domains.items in
    let some : 0 < length items = omega (arith, r.some_domain, c.in_ok-domains.ensures.opened.all) in
    let x = c.index_mut.result.now in
    let got = slice_get_read items (length items) 0 x refl some c.index_mut.ensures.value in
    (c.in_ok-domains.ensures.opened.each 0 x got).few
