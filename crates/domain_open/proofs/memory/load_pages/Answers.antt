use Rattle.std.proofs.Common.{◌≡◌, ℕ, ◌<◌, ◌+◌, ◌-◌, List, length, get_or, drop, Some, sym, subst, subst₂, ◌∙◌, ap, arith}
use Rattle.std.proofs.lemmas.Option.{slice_get-get_or}
use Rattle.phys_mem.specs.Holds.{Holds}
use Rattle.kernel_call.specs.Facts.{Has}
use Rattle.image_check.specs.Own.{Own, owns_of}
use Rattle.hardware_check.specs.Hardware.{Hardware}
use Rattle.image_check.specs.Public.{Public}
use Rattle.hardware_check.specs.Models.{hardware_model}
use Rattle.image_check.specs.Image.{image_from}
use Rattle.world_view.specs.Kernel.{estate}
use Rattle.world_view.specs.Opening.{placed, all_placed}
use Rattle.world_view.proofs.opening.Separate.{all_domains}
use Rattle.domain_open.proofs.Loading.{owns_none, owns_more}
use Rattle.domain_open.proofs.Pages.{has_pool}
use Rattle.domain_open.proofs.memory.load_pages.Goals as goal

pub loop-left-init : goal.loop-left-init
loop-left-init c =
    let i = image_from c.args.image.now in
    let owns = owns_of c.args.image.now in
    let all : c.public-public.result.now.domains ≡ length owns =
    ap (λ (p : Public). p.domains) c.public-public.ensures.value ∙ c.runnable.ensures.runnable.counted in
    record {
      within = omega arith;
      frames = c.requires.size;
      holds =
          subst (Holds c.args.memory.now)
          (sym (owns_none i.all.hardware owns c.public-public.result.now.domains (omega arith)))
          c.requires.blank;
    }

pub load_domain-requires-clause-has_pool : goal.load_domain-requires-clause-has_pool
load_domain-requires-clause-has_pool c =
    let i = image_from c.args.image.now in
    let below : c.loop-left.left - 1 < length (owns_of c.args.image.now) = omega (arith, c.loop-left.invariant.within) in
    has_pool i c.runnable.ensures.runnable (c.loop-left.left - 1) below c.own.result.now
    (hardware_model c.public-public.result.now.hardware) c.own.ensures.value
    (ap (λ (p : Public). p.hardware) c.public-public.ensures.value)

pub load_domain-requires-clause-has : goal.load_domain-requires-clause-has
load_domain-requires-clause-has c =
    let i = image_from c.args.image.now in
    let k : ℕ = c.loop-left.left - 1 in
    let domains = c.args.domains.now in
    let below : k < length domains = omega (arith, c.loop-left.invariant.within, c.requires.opened.all) in
    let x = c.index-domains-left.result in
    let is : x ≡ get_or domains k x = c.index-domains-left.is in
    let opened = c.requires.opened.each k x (slice_get-get_or domains k x below ∙ ap Some (sym is)) in
    subst₂ (λ (h : Hardware) (o : Own). Has (estate h o) x)
    (sym (ap (λ (p : Public). p.hardware) c.public-public.ensures.value)) (sym c.own.ensures.value)
    opened.has

pub loop-left-preserved : goal.loop-left-preserved
loop-left-preserved c =
    let i = image_from c.args.image.now in
    let owns = owns_of c.args.image.now in
    let k : ℕ = c.loop-left.left - 1 in
    let below : k < length owns = omega (arith, c.loop-left.invariant.within) in
    let next : k + 1 ≡ c.loop-left.left = omega arith in
    let before : Holds c.loop-left.memory (all_placed i.all.hardware (drop (k + 1) owns)) = rw next c.loop-left.invariant.holds in
    record {
      within = omega (arith, c.loop-left.invariant.within);
      frames = c.load_domain.ensures.size ∙ c.loop-left.invariant.frames;
      holds = subst (Holds c.load_domain.new.memory) (owns_more i.all.hardware owns k below)
          (subst₂ (λ (h : Hardware) (o : Own).
          Holds c.load_domain.new.memory (placed h o (all_placed i.all.hardware (drop (k + 1) owns))))
          (ap (λ (p : Public). p.hardware) c.public-public.ensures.value) c.own.ensures.value
          (c.load_domain.ensures.placed (all_placed i.all.hardware (drop (k + 1) owns)) before));
    }

pub own-requires : goal.own-requires
own-requires c = record { domain = omega (arith, c.loop-left.invariant.within) }

pub load_domain-requires-clause-size : goal.load_domain-requires-clause-size
load_domain-requires-clause-size c =
    c.loop-left.invariant.frames ∙ sym (ap (λ (p : Public). p.hardware.frames) c.public-public.ensures.value)

pub returns : goal.returns
returns c =
    let i = image_from c.args.image.now in
    let end : c.loop-left.left ≡ 0 = omega arith in
    record {
      size = c.loop-left.invariant.frames ∙ sym c.requires.size;
      holds =
          subst (λ (os : List Own). Holds c.loop-left.memory (all_placed i.all.hardware os))
          (sym (all_domains i c.runnable.ensures.runnable.counted))
          (subst (λ (k : ℕ).
          Holds c.loop-left.memory (all_placed i.all.hardware (drop k (owns_of c.args.image.now)))) end
          c.loop-left.invariant.holds);
    }
