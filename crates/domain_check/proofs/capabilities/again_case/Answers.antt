use Rattle.std.proofs.Common.{◌≡◌, rules, true, false, Bool, None, length, map, sym, ap, ◌∙◌}
use Rattle.std.specs.Str.{bytes_eq}
use Rattle.std.specs.Prelude.{if◌then◌else◌, string_bytes}
use Rattle.std.proofs.lemmas.List.{length-map}
use Rattle.domain_check.specs.Capabilities.{k13_refusal}
use Rattle.image_record.proofs.Loops.{any_more, any_found, any_ended}
use Rattle.domain_check.proofs.capabilities.again_case.Goals as goal

pub returns-then-eq : goal.returns-then-eq
returns-then-eq c =
    let earlier = c.args.earlier.now in
    let x = c.other-item.result in
    let same : bytes_eq c.args.text.now (string_bytes x) ≡ true = search rules in
    let any =
    sym c.loop-other.invariant
    ∙ any_found (bytes_eq c.args.text.now) (λ s. string_bytes s) earlier c.loop-other.other-index x x
    c.loop-other-test.true c.other-item.is same in
    let d = c.args.d in
    record {
      verdict =
          ap (λ (b : Bool). if b then k13_refusal d (length (map (λ s. string_bytes s) earlier)) 5 else None) any
          ∙ ap (λ n. k13_refusal d n 5) (length-map earlier (λ s. string_bytes s)) ∙ sym c.k13_refusal.ensures.value;
    }

pub loop-other-preserved : goal.loop-other-preserved
loop-other-preserved c =
    let x = c.other-item.result in
    let other : bytes_eq c.args.text.now (string_bytes x) ≡ false = search rules in
    any_more (bytes_eq c.args.text.now) (λ s. string_bytes s) c.args.earlier.now c.loop-other.other-index x x
    c.loop-other-test.true c.other-item.is other
    ∙ c.loop-other.invariant

pub returns : goal.returns
returns c =
    let earlier = c.args.earlier.now in
    let none =
    sym c.loop-other.invariant
    ∙ any_ended (bytes_eq c.args.text.now) (λ s. string_bytes s) earlier c.loop-other.other-index
    c.loop-other-test.false in
    record { verdict = ap (λ (b : Bool). if b then k13_refusal c.args.d (length (map (λ s. string_bytes s) earlier)) 5 else None) none }
