use Rattle.std.proofs.Common.{◌≡◌, ◌≤◌, [], ◌∷◌, ◌++◌, length, get_or, map, sym, ap, ap₂, ◌∙◌, arith}
use Rattle.std.proofs.lemmas.List.{take_all, map_more}
use Rattle.image_record.proofs.Loops.{no_value}
use Rattle.image_check.specs.Own.{Own, no_own}
use Rattle.image_check.specs.Public.{Public}
use Rattle.image_check.specs.Image.{image_from}
use Rattle.tp_answer.proofs.bounds.calls_of.Goals as goal

pub own-requires : goal.own-requires
own-requires c =
    let i = image_from c.args.image.now in
    let all : c.public.result.now.domains ≡ length i.owns =
    ap (λ (q : Public). q.domains) c.public.ensures.value ∙ c.kept.ensures.named.counted in
    record { domain = omega (arith, all, c.loop-d-test.true) }

pub loop-d-preserved : goal.loop-d-preserved
loop-d-preserved c =
    let owns = (image_from c.args.image.now).owns in
    let d = c.loop-d.d in
    let all : c.public.result.now.domains ≡ length owns =
    ap (λ (q : Public). q.domains) c.public.ensures.value ∙ c.kept.ensures.named.counted in
    let same : c.own.result.now.calls ≡ (get_or owns d no_own).calls = ap (λ (o : Own). o.calls) c.own.ensures.value in
    c.in_ok-push.ensures.items ∙ ap₂ (λ ns n. ns ++ n ∷ []) c.loop-d.invariant same
    ∙ sym (map_more (λ (o : Own). o.calls) owns d no_own (omega (arith, all, c.loop-d-test.true)))

pub returns-in_err-push : goal.returns-in_err-push
returns-in_err-push c = record { calls = no_value c.from_residual-in_err-push.result _ c.from_residual-in_err-push.ensures.0 }

pub returns : goal.returns
returns c =
    let i = image_from c.args.image.now in
    let all : c.public.result.now.domains ≡ length i.owns =
    ap (λ (q : Public). q.domains) c.public.ensures.value ∙ c.kept.ensures.named.counted in
    let past : length i.owns ≤ c.loop-d.d = omega (arith, all) in
    record { calls = c.loop-d.invariant ∙ ap (map (λ (o : Own). o.calls)) (take_all c.loop-d.d i.owns past) }
