use Rattle.std.proofs.Common.{◌≡◌, ℕ, ◌<◌, ◌+◌, List, length, ap, refl, sym, subst, ◌∙◌, arith}
use Rattle.std.proofs.lemmas.List.{drop_more, length-drop, length-map}
use Rattle.std.specs.List.{remove}
use Rattle.frame_colours.specs.Colours.{Share}
use Rattle.image_check.specs.Public.{Public}
use Rattle.image_check.specs.Pages.{share_of}
use Rattle.image_check.specs.Image.{image_from}
use Rattle.domain_open.specs.Placing.{AreOpened, all_shares}
use Rattle.domain_open.proofs.Errors.{no_value}
use Rattle.domain_open.proofs.Openings.{opened_none, opened_more, first_share}
use Rattle.domain_open.proofs.open.open_all.Goals as goal

pub loop-d-preserved : goal.loop-d-preserved
loop-d-preserved c =
    let i = image_from c.args.image.now in
    let d : ℕ = c.loop-d.d in
    let all : c.public.result.now.domains ≡ length i.owns =
    ap (λ (q : Public). q.domains) c.public.ensures.value ∙ c.runnable.ensures.runnable.counted in
    let below : d < length (all_shares i) = omega (arith, all, length-map i.owns (share_of i.all.hardware)) in
    record {
      opened = subst (AreOpened i.all.hardware i.owns (d + 1)) (sym c.push_reserved.ensures.items)
          (opened_more i.all.hardware c.loop-d.domains.items i.owns d c.in-Ok.domain c.loop-d.invariant.opened c.in-Ok.ensures.opened);
      shares =
          c.remove-share.ensures.items
          ∙ ap (λ ss. remove ss 0)
          (c.loop-d.invariant.shares ∙ drop_more (all_shares i) d c.remove-share.result below);
      blank = λ h. c.in-Ok.ensures.blank (c.loop-d.invariant.blank h);
      room = omega (arith, c.push_reserved.ensures.capacity, c.loop-d.invariant.room);
      size = c.in-Ok.ensures.size ∙ c.loop-d.invariant.size;
    }

pub remove-share-requires : goal.remove-share-requires
remove-share-requires c =
    let i = image_from c.args.image.now in
    let all : c.public.result.now.domains ≡ length i.owns =
    ap (λ (q : Public). q.domains) c.public.ensures.value ∙ c.runnable.ensures.runnable.counted in
    let left = ap (λ (ss : List Share). length ss) c.loop-d.invariant.shares in
    omega (arith, all, left, length-drop c.loop-d.d (all_shares i), length-map i.owns (share_of i.all.hardware))

pub open_one-requires-clause-share : goal.open_one-requires-clause-share
open_one-requires-clause-share c =
    let i = image_from c.args.image.now in
    let all : c.public.result.now.domains ≡ length i.owns =
    ap (λ (q : Public). q.domains) c.public.ensures.value ∙ c.runnable.ensures.runnable.counted in
    first_share i c.loop-d.d c.loop-d.shares.items c.remove-share.result (omega (arith, all))
    c.loop-d.invariant.shares c.remove-share.ensures.value

pub destroy_empty-requires : goal.destroy_empty-requires
destroy_empty-requires c =
    let i = image_from c.args.image.now in
    let all : c.public.result.now.domains ≡ length i.owns =
    ap (λ (q : Public). q.domains) c.public.ensures.value ∙ c.runnable.ensures.runnable.counted in
    let left = ap (λ (ss : List Share). length ss) c.loop-d.invariant.shares in
    omega (arith, all, left, length-drop c.loop-d.d (all_shares i), length-map i.owns (share_of i.all.hardware))

pub returns-clause-opened : goal.returns-clause-opened
returns-clause-opened c =
    let i = image_from c.args.image.now in
    let all : c.public.result.now.domains ≡ length i.owns =
    ap (λ (q : Public). q.domains) c.public.ensures.value ∙ c.runnable.ensures.runnable.counted in
    let past : c.loop-d.d ≡ length i.owns = omega (arith, all) in
    subst (λ (n : ℕ). AreOpened i.all.hardware i.owns n c.loop-d.domains.items) past c.loop-d.invariant.opened

pub returns-clause-blank : goal.returns-clause-blank
returns-clause-blank c = c.loop-d.invariant.blank

pub returns-clause-size : goal.returns-clause-size
returns-clause-size c = c.loop-d.invariant.size

pub returns-in_err-domains : goal.returns-in_err-domains
returns-in_err-domains c = record {
  opened = no_value _ c.from_residual.result _ c.from_residual.ensures.1;
  blank = λ h. h;
  size = refl;
}

pub returns-in_err-shares : goal.returns-in_err-shares
returns-in_err-shares c = record {
  opened = no_value _ c.from_residual-in_err-shares.result _ c.from_residual-in_err-shares.ensures.1;
  blank = λ h. h;
  size = refl;
}

pub returns-in-Err : goal.returns-in-Err
returns-in-Err c = record {
  opened = tt;
  blank = λ h. c.in-Err.ensures.blank (c.loop-d.invariant.blank h);
  size = c.in-Err.ensures.size ∙ c.loop-d.invariant.size;
}

pub loop-d-init : goal.loop-d-init
loop-d-init c =
    let i = image_from c.args.image.now in
    let all : c.public.result.now.domains ≡ length i.owns =
    ap (λ (q : Public). q.domains) c.public.ensures.value ∙ c.runnable.ensures.runnable.counted in
    record {
      room = omega (arith, all, c.in_ok-domains.ensures.capacity);
      opened = subst (AreOpened i.all.hardware i.owns 0) (sym c.in_ok-domains.ensures.items) (opened_none i.all.hardware i.owns);
      shares = c.in_ok-shares.ensures.shares;
      blank = λ h. h;
      size = refl;
    }

pub loop-d-smaller : goal.loop-d-smaller
loop-d-smaller c = omega (arith, c.loop-d-test.true)

pub open_one-requires-clause-domain : goal.open_one-requires-clause-domain
open_one-requires-clause-domain c =
    let all : c.public.result.now.domains ≡ length (image_from c.args.image.now).owns =
    ap (λ (q : Public). q.domains) c.public.ensures.value ∙ c.runnable.ensures.runnable.counted in
    omega (arith, all, c.loop-d-test.true)

pub open_one-requires-clause-size : goal.open_one-requires-clause-size
open_one-requires-clause-size c = c.loop-d.invariant.size ∙ c.requires.size

pub push_reserved-requires : goal.push_reserved-requires
push_reserved-requires c =
    let all : c.public.result.now.domains ≡ length (image_from c.args.image.now).owns =
    ap (λ (q : Public). q.domains) c.public.ensures.value ∙ c.runnable.ensures.runnable.counted in
    omega (arith, all, c.loop-d.invariant.opened.all, c.loop-d.invariant.room, c.loop-d-test.true)
