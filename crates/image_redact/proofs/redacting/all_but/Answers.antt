use Rattle.std.proofs.Common.{◌≡◌, ◌∙◌, ◌+◌, ◌<◌, ◌≤◌, List, length, map, string_bytes, sym, ap, subst, get_or, rules, arith}
use Rattle.std.proofs.lemmas.List.{length-map, get_or-map, map-set}
use Rattle.image_record.specs.Record.{RawDomain, no_raw_domain}
use Rattle.image_record.specs.Parts.{domain_model}
use Rattle.image_redact.specs.Redacted.{emptied}
use Rattle.image_redact.proofs.Emptying.{AreDone, kept_done, other_done, all_done}
use Rattle.image_redact.proofs.redacting.all_but.Goals as goal

pub loop-n-preserved-then-kept-n : goal.loop-n-preserved-then-kept-n
loop-n-preserved-then-kept-n c =
    let n = c.loop-n.n in
    kept_done c.args.version c.args.kept.now (map (λ s. string_bytes s) c.args.taken.now) n
    (map domain_model c.args.domains.items) (map domain_model c.loop-n.domains.items)
    c.if-kept-n.true c.loop-n.invariant

pub loop-n-preserved : goal.loop-n-preserved
loop-n-preserved c =
    let v = c.args.version in
    let kept = c.args.kept.now in
    let taken = map (λ s. string_bytes s) c.args.taken.now in
    let old = map domain_model c.args.domains.items in
    let domains = c.loop-n.domains.items in
    let n = c.loop-n.n in
    let domain = c.index_mut.result.now in
    let below : n < length domains = search rules in
    let within : n < length (map domain_model domains) = omega (arith, below, length-map domains domain_model) in
    let read : domain_model domain ≡ domain_model (get_or domains n domain) = ap domain_model c.index_mut.ensures.value in
    let own = read ∙ sym (get_or-map domain_model domains n domain no_raw_domain below) in
    let is = c.in_ok-empty.ensures.emptied ∙ ap (emptied v taken n) own in
    subst (λ (os : List RawDomain). AreDone v kept taken (n + 1) old os) (sym (map-set domain_model domains n c.empty.new.domain))
    (other_done v kept taken n old (map domain_model domains) (domain_model c.empty.new.domain) within c.if-kept-n.false
    is c.loop-n.invariant)

pub returns : goal.returns
returns c =
    let end : length (map domain_model c.loop-n.domains.items) ≤ c.loop-n.n = omega (arith, c.loop-n-test.false, c.len-n-end.ensures, c.loop-n.invariant.same, length-map c.args.domains.items domain_model) in
    record {
      made =
          all_done c.args.version c.args.kept.now (map (λ s. string_bytes s) c.args.taken.now) c.loop-n.n (map domain_model c.args.domains.items)
          (map domain_model c.loop-n.domains.items) end c.loop-n.invariant;
    }
