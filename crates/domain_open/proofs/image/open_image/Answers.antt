use Rattle.std.proofs.Common.{◌∙◌, ap, arith}
use Rattle.phys_mem.specs.Contents.{Contents}
use Rattle.image_check.specs.Public.{Public}
use Rattle.domain_open.proofs.Errors.{no_value}
use Rattle.domain_open.proofs.image.open_image.Goals as goal

pub open_all-requires : goal.open_all-requires
open_all-requires c = record {
  size =
      ap (λ (x : Contents). x.frames) c.in_ok-memory.ensures.zero
      ∙ ap (λ (p : Public). p.hardware.frames) c.public.ensures.value;
}

pub load_pages-requires : goal.load_pages-requires
load_pages-requires c = record {
  opened = rw c.as_slice.ensures.value c.in_ok-domains.ensures.opened;
  size =
      c.in_ok-domains.ensures.size ∙ ap (λ (x : Contents). x.frames) c.in_ok-memory.ensures.zero
      ∙ ap (λ (p : Public). p.hardware.frames) c.public.ensures.value;
  blank = c.in_ok-domains.ensures.blank c.in_ok-memory.ensures.holds;
}

pub returns : goal.returns
returns c = record {
  size =
      c.load_pages.ensures.size ∙ c.in_ok-domains.ensures.size
      ∙ ap (λ (x : Contents). x.frames) c.in_ok-memory.ensures.zero
      ∙ ap (λ (p : Public). p.hardware.frames) c.public.ensures.value;
  holds = c.load_pages.ensures.holds;
  opened = c.in_ok-domains.ensures.opened;
}

pub returns-in_err-memory : goal.returns-in_err-memory
returns-in_err-memory c = record {
  size = no_value _ c.from_residual.result _ c.from_residual.ensures.1;
  holds = no_value _ c.from_residual.result _ c.from_residual.ensures.1;
  opened = no_value _ c.from_residual.result _ c.from_residual.ensures.1;
}

pub returns-in_err-domains : goal.returns-in_err-domains
returns-in_err-domains c = record {
  size = no_value _ c.from_residual-in_err-domains.result _ c.from_residual-in_err-domains.ensures.1;
  holds = no_value _ c.from_residual-in_err-domains.result _ c.from_residual-in_err-domains.ensures.1;
  opened = no_value _ c.from_residual-in_err-domains.result _ c.from_residual-in_err-domains.ensures.1;
}

pub new-requires : goal.new-requires
new-requires c =
    let frames = ap (λ (p : Public). p.hardware.frames) c.public.ensures.value in
    let most = c.runnable.ensures.runnable.hardware.most_frames in
    record { few = omega (arith, frames, most) }
