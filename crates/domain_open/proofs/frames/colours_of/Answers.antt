use Rattle.std.proofs.Common.{◌≡◌, ℕ, ◌≤◌, List, Vec, Global, ◌∷◌, [], length, map, ap, ◌∙◌, arith}
use Rattle.std.proofs.lemmas.List.{take_all, length-append}
use Rattle.frame_colours.specs.Colours.{colours_in}
use Rattle.image_check.specs.Own.{Own}
use Rattle.image_check.specs.Public.{Public}
use Rattle.image_check.specs.Image.{image_from}
use Rattle.domain_open.proofs.Errors.{no_value}
use Rattle.domain_open.proofs.Taking.{named_more}
use Rattle.domain_open.proofs.frames.colours_of.Goals as goal

pub returns-in_err-lists : goal.returns-in_err-lists
returns-in_err-lists c = record { colours = no_value _ c.from_residual.result _ c.from_residual.ensures.1 }

pub loop-d-init : goal.loop-d-init
loop-d-init c =
    let all : c.public.result.now.domains ≡ length (image_from c.args.image.now).owns =
    ap (λ (q : Public). q.domains) c.public.ensures.value ∙ c.runnable.ensures.runnable.counted in
    record {
      named = ap colours_in c.in_ok-lists.ensures.items;
      long = ap (λ (ls : List (Vec ℕ Global)). length ls) c.in_ok-lists.ensures.items;
      room = omega (arith, all, c.in_ok-lists.ensures.capacity);
    }

pub own-requires : goal.own-requires
own-requires c =
    let all : c.public.result.now.domains ≡ length (image_from c.args.image.now).owns =
    ap (λ (q : Public). q.domains) c.public.ensures.value ∙ c.runnable.ensures.runnable.counted in
    record { domain = omega (arith, all) }

pub returns-in_err-from_slice : goal.returns-in_err-from_slice
returns-in_err-from_slice c = record {
  colours =
      no_value _ c.from_residual-in_err-from_slice.result _ c.from_residual-in_err-from_slice.ensures.1;
}

pub push_reserved-requires : goal.push_reserved-requires
push_reserved-requires c =
    let all : c.public.result.now.domains ≡ length (image_from c.args.image.now).owns =
    ap (λ (q : Public). q.domains) c.public.ensures.value ∙ c.runnable.ensures.runnable.counted in
    omega (arith, all, c.loop-d.invariant.long, c.loop-d.invariant.room)

pub loop-d-preserved : goal.loop-d-preserved
loop-d-preserved c =
    let owns = (image_from c.args.image.now).owns in
    let all : c.public.result.now.domains ≡ length owns =
    ap (λ (q : Public). q.domains) c.public.ensures.value ∙ c.runnable.ensures.runnable.counted in
    let named = c.in_ok-from_slice.ensures.items ∙ c.as_slice.ensures.value ∙ ap (λ (o : Own). o.colours) c.own.ensures.value in
    record {
      named =
          ap colours_in c.push_reserved.ensures.items
          ∙ named_more c.loop-d.lists.items c.in_ok-from_slice.field-0 owns c.loop-d.d (omega (arith, all)) c.loop-d.invariant.named named;
      long =
          omega (
            arith,
            ap (λ (ls : List (Vec ℕ Global)). length ls) c.push_reserved.ensures.items,
            length-append c.loop-d.lists.items (c.in_ok-from_slice.field-0 ∷ []),
            c.loop-d.invariant.long,
          );
      room = omega (arith, c.push_reserved.ensures.capacity, c.loop-d.invariant.room);
    }

pub returns : goal.returns
returns c =
    let i = image_from c.args.image.now in
    let all : c.public.result.now.domains ≡ length i.owns =
    ap (λ (q : Public). q.domains) c.public.ensures.value ∙ c.runnable.ensures.runnable.counted in
    let past : length i.owns ≤ c.loop-d.d = omega (arith, all) in
    record { colours = c.loop-d.invariant.named ∙ ap (map (λ (o : Own). o.colours)) (take_all c.loop-d.d i.owns past) }
