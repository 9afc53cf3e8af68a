use Rattle.std.proofs.Common.{◌≡◌, rules, true, false, Bool, Some, None, length, map, take, sym, ap, ◌∙◌}
use Rattle.std.specs.Str.{bytes_eq}
use Rattle.std.specs.Prelude.{if◌then◌else◌, string_bytes}
use Rattle.image_record.specs.Parts.{domain_model}
use Rattle.domain_check.specs.Names.{named_so}
use Rattle.image_record.proofs.Loops.{passed_of, found_of, ended_of, count_of}
use Rattle.domain_check.proofs.names.named_so.Goals as goal

pub returns-then-eq-clause-value : goal.returns-then-eq-clause-value
returns-then-eq-clause-value c =
    let domains = c.args.domains.now in
    let e = c.loop-e.e in
    let x = c.index-domains-e.result in
    let is : bytes_eq (string_bytes x.name) c.args.name.now ≡ true = search rules in
    let here =
    ap (λ (b : Bool). if b then Some (length (map domain_model (take e domains))) else None) is
    ∙ ap Some (count_of domain_model domains e c.loop-e-test.true) in
    sym (found_of (named_so c.args.name.now) domain_model domains e x x e c.loop-e-test.true c.index-domains-e.is here) ∙ c.loop-e.invariant

pub loop-e-preserved : goal.loop-e-preserved
loop-e-preserved c =
    let domains = c.args.domains.now in
    let e = c.loop-e.e in
    let x = c.index-domains-e.result in
    let other : bytes_eq (string_bytes x.name) c.args.name.now ≡ false = search rules in
    let here = ap (λ (b : Bool). if b then Some (length (map domain_model (take e domains))) else None) other in
    passed_of (named_so c.args.name.now) domain_model domains e x x c.loop-e-test.true c.index-domains-e.is here ∙ c.loop-e.invariant

pub returns-clause-value : goal.returns-clause-value
returns-clause-value c =
    sym (ended_of (named_so c.args.name.now) domain_model _ c.args.domains.now c.loop-e.e c.loop-e-test.false) ∙ c.loop-e.invariant
