use Rattle.std.proofs.Common.{◌≡◌, rules, true, false, Bool, Some, pos, length, map, sym, ap, ◌∙◌}
use Rattle.std.specs.Prelude.{if◌then◌else◌, string_bytes}
use Rattle.std.proofs.lemmas.List.{length-map}
use Rattle.image_record.specs.Parts.{domain_model}
use Rattle.image_record.specs.Cases.{first_in, refusal}
use Rattle.domain_check.specs.Names.{is_name, named_so, same_name, k7_domain}
use Rattle.domain_check.proofs.names.k7_domain.Goals as goal

pub returns-then-not-is_name : goal.returns-then-not-is_name
unfolding k7_domain
returns-then-not-is_name c =
    let domains = map domain_model c.args.earlier.now in
    let name = string_bytes c.args.domain.now.name in
    let d = length domains in
    let other : is_name name ≡ false = ap is_name (sym c.as_str-name.ensures.value) ∙ sym c.if-not-is_name.ensures.value in
    let numbers : Some (refusal 7 (pos (length c.args.earlier.now))
    (pos (length c.as_str-name.result.now)) (pos 16)) ≡ Some c.refusal.result =
    search rules in
    let told =
    ap (λ n. Some (refusal 7 (pos n) (pos (length name)) (pos 16))) (length-map c.args.earlier.now domain_model)
    ∙ ap (λ s. Some (refusal 7 (pos (length c.args.earlier.now)) (pos (length s)) (pos 16))) (sym c.as_str-name.ensures.value) ∙ numbers in
    record {
      verdict = ap (λ (b : Bool). if b then same_name d (first_in (named_so name) domains) else Some (refusal 7 (pos d) (pos (length name)) (pos 16))) other ∙ told;
    }

pub returns-in-Some : goal.returns-in-Some
unfolding k7_domain
returns-in-Some c =
    let domains = map domain_model c.args.earlier.now in
    let name = string_bytes c.args.domain.now.name in
    let d = length domains in
    let is : is_name name ≡ true = ap is_name (sym c.as_str-name.ensures.value) ∙ sym c.if-not-is_name.ensures.value in
    let at = ap (λ n. first_in (named_so n) domains) (sym c.as_str-name.ensures.value) ∙ sym c.named_so.ensures.value ∙ c.in-Some.is in
    let numbers : Some (refusal 7 (pos (length c.args.earlier.now)) (pos c.in-Some.e) (pos 0))
    ≡ Some c.refusal-in-Some.result =
    search rules in
    let told = ap (λ n. Some (refusal 7 (pos n) (pos c.in-Some.e) (pos 0))) (length-map c.args.earlier.now domain_model) ∙ numbers in
    record {
      verdict =
          ap (λ (b : Bool). if b then same_name d (first_in (named_so name) domains) else Some (refusal 7 (pos d) (pos (length name)) (pos 16))) is
          ∙ ap (same_name d) at ∙ told;
    }

pub returns-in-None : goal.returns-in-None
unfolding k7_domain
returns-in-None c =
    let domains = map domain_model c.args.earlier.now in
    let name = string_bytes c.args.domain.now.name in
    let d = length domains in
    let is : is_name name ≡ true = ap is_name (sym c.as_str-name.ensures.value) ∙ sym c.if-not-is_name.ensures.value in
    let at = ap (λ n. first_in (named_so n) domains) (sym c.as_str-name.ensures.value) ∙ sym c.named_so.ensures.value ∙ c.in-None.is in
    record {
      verdict =
          ap (λ (b : Bool). if b then same_name d (first_in (named_so name) domains) else Some (refusal 7 (pos d) (pos (length name)) (pos 16))) is
          ∙ ap (same_name d) at;
    }
