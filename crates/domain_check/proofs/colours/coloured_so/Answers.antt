use Rattle.std.proofs.Common.{◌≡◌, rules, Bool, to_z, of_z, w64, Some, None, length, map, take, sym, ap, ◌∙◌}
use Rattle.std.specs.Prelude.{if◌then◌else◌}
use Rattle.image_record.specs.Parts.{domain_model}
use Rattle.image_record.specs.Cases.{first_in}
use Rattle.image_record.specs.Numbers.{names}
use Rattle.domain_check.specs.Colours.{coloured_so}
use Rattle.image_record.proofs.Loops.{passed_of, found_of, ended_of, count_of}
use Rattle.domain_check.proofs.colours.coloured_so.Goals as goal

pub returns-then-names-clause-value : goal.returns-then-names-clause-value
returns-then-names-clause-value c =
    let z = to_z w64 (of_z w64 c.args.colour) in
    let domains = c.args.domains.now in
    let e = c.loop-e.e in
    let x = c.index-domains-e.result in
    let same : z ≡ c.args.colour = search rules in
    let is = ap (λ xs. names xs z) (sym c.as_slice.ensures.value) ∙ sym c.names.ensures.value ∙ c.if-names.true in
    let here =
    ap (λ (b : Bool). if b then Some (length (map domain_model (take e domains))) else None) is
    ∙ ap Some (count_of domain_model domains e c.loop-e-test.true) in
    sym (found_of (coloured_so z) domain_model domains e x x e c.loop-e-test.true c.index-domains-e.is here) ∙ c.loop-e.invariant
    ∙ ap (λ y. first_in (coloured_so y) (map domain_model domains)) same

pub loop-e-preserved : goal.loop-e-preserved
loop-e-preserved c =
    let z = to_z w64 (of_z w64 c.args.colour) in
    let domains = c.args.domains.now in
    let e = c.loop-e.e in
    let x = c.index-domains-e.result in
    let other = ap (λ xs. names xs z) (sym c.as_slice.ensures.value) ∙ sym c.names.ensures.value ∙ c.if-names.false in
    let here = ap (λ (b : Bool). if b then Some (length (map domain_model (take e domains))) else None) other in
    passed_of (coloured_so z) domain_model domains e x x c.loop-e-test.true c.index-domains-e.is here ∙ c.loop-e.invariant

pub returns-clause-value : goal.returns-clause-value
returns-clause-value c =
    let z = to_z w64 (of_z w64 c.args.colour) in
    let domains = c.args.domains.now in
    let same : z ≡ c.args.colour = search rules in
    sym (ended_of (coloured_so z) domain_model _ domains c.loop-e.e c.loop-e-test.false) ∙ c.loop-e.invariant
    ∙ ap (λ y. first_in (coloured_so y) (map domain_model domains)) same
