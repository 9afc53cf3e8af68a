use Rattle.std.proofs.Common.{◌≡◌, ℕ, ◌+◌, List, ◌∷◌, [], ◌++◌, drop, map, ap, sym, subst, ◌∙◌}
use Rattle.std.proofs.lemmas.List.{append-nil, drop_more, drop_all}
use Rattle.image_record.specs.declared.raw.RawDomain.{RawDomain}
use Rattle.image_record.specs.Parts.{domain_model}
use Rattle.image_check.specs.Own.{IsSmallOwn, own_from, owns_from}
use Rattle.image_check.specs.Parts.{ArePartsOf}
use Rattle.image_check.specs.Models.{own_model}
use Rattle.image_check.proofs.FirstParts.{has_first, is_first, are_left, made_more}
use Rattle.image_check.specs.declared.own.Own.{Own}
use Rattle.image_record.proofs.Loops.{unmade}
use Rattle.image_check.proofs.Kept.{made_handed}
use Rattle.image_check.proofs.own.owns_in.Goals as goal

pub own_from-requires-clause-small : goal.own_from-requires-clause-small
own_from-requires-clause-small c =
    let here = c.requires.small c.loop-number.number c.index-domains-number.result c.loop-number-test.true in
    subst (λ o. IsSmallOwn (domain_model o)) (sym c.index-domains-number.is) here

pub take_first-requires : goal.take_first-requires
take_first-requires c =
    let ds = c.args.domains.now in
    let k = c.loop-number.number in
    let d = c.index-domains-number.result in
    let left : drop k ds ≡ d ∷ drop (k + 1) ds =
    drop_more ds k d c.loop-number-test.true
    ∙ ap (λ (x : RawDomain). x ∷ drop (k + 1) ds) (sym c.index-domains-number.is) in
    let parts = subst (λ (os : List RawDomain). ArePartsOf c.loop-number.parts (map domain_model os)) left c.loop-number.invariant.1 in
    record { first = has_first c.loop-number.parts (domain_model d) (map domain_model (drop (k + 1) ds)) parts }

pub own_from-requires-clause-part : goal.own_from-requires-clause-part
own_from-requires-clause-part c =
    let ds = c.args.domains.now in
    let k = c.loop-number.number in
    let d = c.index-domains-number.result in
    let left : drop k ds ≡ d ∷ drop (k + 1) ds =
    drop_more ds k d c.loop-number-test.true
    ∙ ap (λ (x : RawDomain). x ∷ drop (k + 1) ds) (sym c.index-domains-number.is) in
    let parts = subst (λ (os : List RawDomain). ArePartsOf c.loop-number.parts (map domain_model os)) left c.loop-number.invariant.1 in
    is_first c.loop-number.parts c.take_first.new.self c.take_first.result (domain_model d)
    (map domain_model (drop (k + 1) ds)) parts c.take_first.ensures.taken

pub loop-number-preserved : goal.loop-number-preserved
loop-number-preserved c =
    let ds = c.args.domains.now in
    let k = c.loop-number.number in
    let mail = c.args.mail in
    let d = c.index-domains-number.result in
    let rest = drop (k + 1) ds in
    let left : drop k ds ≡ d ∷ drop (k + 1) ds =
    drop_more ds k d c.loop-number-test.true
    ∙ ap (λ (x : RawDomain). x ∷ drop (k + 1) ds) (sym c.index-domains-number.is) in
    let parts = subst (λ (os : List RawDomain). ArePartsOf c.loop-number.parts (map domain_model os)) left c.loop-number.invariant.1 in (
      made_more own_model c.loop-number.owns.items c.push.new.self.items c.in_ok-own_from.field-0
          (owns_from k mail (map domain_model (drop k ds))) (owns_from (k + 1) mail (map domain_model rest))
          (owns_from 0 mail (map domain_model ds)) (own_from k mail (domain_model d))
          (ap (λ (os : List RawDomain). owns_from k mail (map domain_model os)) left) c.loop-number.invariant.0
          c.in_ok-push.ensures.items
          (c.in_ok-own_from.ensures.value ∙ ap (λ (n : ℕ). own_from n mail (domain_model d)) c.new.ensures.value),
      are_left c.loop-number.parts c.take_first.new.self c.take_first.result (domain_model d)
          (map domain_model rest) parts c.take_first.ensures.taken,
    )

pub returns : goal.returns
returns c =
    let ds = c.args.domains.now in
    let made = map own_model c.loop-number.owns.items in
    let none : drop c.loop-number.number ds ≡ [] = drop_all c.loop-number.number ds c.loop-number-test.false in
    record {
      value =
          sym (append-nil made)
          ∙ ap (λ (os : List RawDomain). made ++ owns_from c.loop-number.number c.args.mail (map domain_model os)) (sym none)
          ∙ c.loop-number.invariant.0;
    }

pub loop-number-init : goal.loop-number-init
loop-number-init c =
    let all = owns_from 0 c.args.mail (map domain_model c.args.domains.now) in
    (ap (λ (owns : List Own). map own_model owns ++ all) c.new-owns.ensures.items, c.requires.parts)

pub bounds-domains-number : goal.bounds-domains-number
bounds-domains-number c = c.loop-number-test.true

pub returns-in_err-own_from : goal.returns-in_err-own_from
returns-in_err-own_from c =
    record {
      value =
          made_handed own_model _ c.from_residual.result c.in_err-own_from.field-0.0 _ _
          c.from_residual.ensures.1 c.in_err-own_from.ensures.value;
    }

pub returns-in_err-push : goal.returns-in_err-push
returns-in_err-push c = record { value = unmade _ c.from_residual-in_err-push.result _ c.from_residual-in_err-push.ensures.1 }
