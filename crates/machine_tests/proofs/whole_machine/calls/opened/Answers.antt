-- The first domain of the image has its facts.
use Rattle.std.proofs.Common.{◌<◌, ◌∙◌, length, refl, ap, arith}
use Rattle.std.proofs.lemmas.Option.{slice_get_read}
use Rattle.phys_mem.specs.Contents.{Contents}
use Rattle.image_check.specs.Public as spec
use Rattle.image_check.specs.Image.{image_from, own_of}
use Rattle.world_view.specs.Kernel.{estate}
use Rattle.world_view.specs.Machine.{opening}
use Rattle.machine_tests.proofs.Opened.{facts_at_first}
use Rattle.machine_tests.proofs.whole_machine.calls.opened.Goals as goal

pub returns-clause-valid : goal.returns-clause-valid
returns-clause-valid c =
    let i = image_from c.args.image.now in
    let r = c.runnable.ensures.runnable in
    let items = c.in_ok-domains.domains.items in
    let some : 0 < length items = omega (arith, r.some_domain, c.in_ok-domains.ensures.opened.all) in
    let x = c.remove.result in
    let got = slice_get_read items (length items) 0 x refl some c.remove.ensures.value in
    let frames =
    c.load_pages.ensures.size ∙ c.in_ok-domains.ensures.size
    ∙ ap (λ (x : Contents). x.frames) c.in_ok-memory.ensures.zero
    ∙ ap (λ (q : spec.Public). q.hardware.frames) c.public.ensures.value in
    record {
      estate = estate i.all.hardware (own_of i 0);
      mem = (opening i).storage.mem;
      facts = facts_at_first i r c.load_pages.new.memory x (c.in_ok-domains.ensures.opened.each 0 x got) frames c.load_pages.ensures.holds;
    }

pub returns-clause-replies : goal.returns-clause-replies
returns-clause-replies c =
    let r = c.runnable.ensures.runnable in
    let items = c.in_ok-domains.domains.items in
    let some : 0 < length items = omega (arith, r.some_domain, c.in_ok-domains.ensures.opened.all) in
    let x = c.remove.result in
    let got = slice_get_read items (length items) 0 x refl some c.remove.ensures.value in
    omega (arith, (c.in_ok-domains.ensures.opened.each 0 x got).few.replies)
