use Rattle.std.proofs.Common.{ap, ap₂, sym, subst₂, IfOk, ◌∙◌}
use Rattle.hardware_check.specs.Hardware.{Hardware}
use Rattle.hardware_check.specs.Models.{hardware_model}
use Rattle.image_check.specs.Own.{Own}
use Rattle.image_check.specs.Pages.{share_of}
use Rattle.image_check.specs.Public.{Public}
use Rattle.image_check.specs.Image.{image_from}
use Rattle.domain_open.specs.Placing.{IsOpened}
use Rattle.domain_open.proofs.Pages.{has_pool}
use Rattle.domain_open.proofs.open.open_one.Goals as goal

pub open_domain-requires : goal.open_domain-requires
open_domain-requires c =
    let hardware = ap (λ (p : Public). p.hardware) c.public.ensures.value in
    let pool =
    has_pool (image_from c.args.image.now) c.runnable.ensures.runnable c.args.d c.requires.domain
    c.own.result.now (hardware_model c.public.result.now.hardware) c.own.ensures.value hardware in
    record {
      has_pool = pool;
      apart = record { once = pool.sound.apart };
      share = c.requires.share ∙ sym (ap₂ share_of hardware c.own.ensures.value);
      size = c.requires.size ∙ sym (ap (λ (p : Public). p.hardware.frames) c.public.ensures.value);
    }

pub returns : goal.returns
returns c = record {
  opened =
      subst₂ (λ (h : Hardware) (o : Own). IfOk c.open_domain.result (IsOpened h o))
      (ap (λ (p : Public). p.hardware) c.public.ensures.value) c.own.ensures.value
      c.open_domain.ensures.opened;
  blank = c.open_domain.ensures.blank;
  size = c.open_domain.ensures.size;
}
