use Rattle.std.proofs.Common.{◌≡◌, List, map, IfOk, ap, sym, subst, subst₂, ◌∙◌, ℕ, arith}
use Rattle.frame_colours.specs.Colours.{Share, AreDisjoint, whole_of, colours_in}
use Rattle.hardware_check.specs.Hardware.{Hardware, colours_of}
use Rattle.image_check.specs.Public.{Public}
use Rattle.image_check.specs.Image.{image_from}
use Rattle.image_check.specs.Own.{Own}
use Rattle.domain_open.proofs.Errors.{no_value}
use Rattle.domain_open.proofs.Taking.{shares_are}
use Rattle.domain_open.proofs.frames.shares_of.Goals as goal

pub returns-in_err-lists : goal.returns-in_err-lists
returns-in_err-lists c = record { shares = no_value _ c.from_residual.result _ c.from_residual.ensures.1 }

pub new-requires : goal.new-requires
new-requires c =
    let is = c.runnable.ensures.runnable.hardware in
    let frames = ap (λ (q : Public). q.hardware.frames) c.public.ensures.value in
    let colours = c.colours.ensures.value ∙ ap (λ (q : Public). colours_of q.hardware) c.public.ensures.value in
    record {
      frames = omega (arith, frames, is.most_frames);
      some = omega (arith, colours, is.some_colours);
      few = c.colours.ensures.few;
    }

pub split-requires : goal.split-requires
split-requires c =
    let i = image_from c.args.image.now in
    let colours : c.new.result.colours ≡ colours_of i.all.hardware =
    ap (λ w. w.colours) c.new.ensures.whole ∙ c.colours.ensures.value ∙ ap (λ (q : Public). colours_of q.hardware) c.public.ensures.value in
    let named : colours_in c.deref.result.now ≡ map (λ (o : Own). o.colours) i.owns =
    ap colours_in c.deref.ensures.value ∙ c.in_ok-lists.ensures.colours in
    record {
      disjoint =
          subst₂ (λ (n : ℕ) (lists : List (List ℕ)). AreDisjoint n lists) (sym colours) (sym named)
          c.runnable.ensures.runnable.disjoint;
    }

pub returns : goal.returns
returns c =
    let i = image_from c.args.image.now in
    let p : Hardware = i.all.hardware in
    let public = c.public.ensures.value in
    let whole : c.new.result ≡ whole_of p.frames (colours_of p) =
    c.new.ensures.whole ∙ ap (whole_of c.public.result.now.hardware.frames) c.colours.ensures.value
    ∙ ap (λ (q : Public). whole_of q.hardware.frames (colours_of q.hardware)) public in
    let named : colours_in c.deref.result.now ≡ map (λ (o : Own). o.colours) i.owns =
    ap colours_in c.deref.ensures.value ∙ c.in_ok-lists.ensures.colours in
    record {
      shares = subst (λ (due : List Share). IfOk c.split.result (λ shares. shares.items ≡ due))
          (shares_are p c.new.result (colours_in c.deref.result.now) i.owns whole named) c.split.ensures.shares;
    }
