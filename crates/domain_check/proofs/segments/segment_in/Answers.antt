use Rattle.std.proofs.Common.{◌≡◌, ◌<◌, ◌≤◌, ◌+◌, true, false, None, Some, map, option_map, sym, ap, ◌∙◌, arith}
use Rattle.std.proofs.lemmas.List.{length-map}
use Rattle.image_record.specs.Parts.{segment_model}
use Rattle.domain_check.specs.Segments.{k12_refusal, is_rights, rights_of, bytes_in, bytes_case}
use Rattle.image_record.proofs.Loops.{broken}
use Rattle.domain_check.proofs.SegmentCases.{past_case, rights_case, rest_case, segment_is}
use Rattle.domain_check.proofs.segments.segment_in.Goals as goal

pub returns-then-from-clause-verdict : goal.returns-then-from-clause-verdict
returns-then-from-clause-verdict c =
    let d = c.args.d in
    let earlier = c.args.earlier.now in
    let s = segment_model c.args.segment.now in
    let past : 1048576 < s.page + s.pages = omega arith in
    past_case d (map segment_model earlier) s past
    ∙ ap (λ n. k12_refusal d n 1) (length-map earlier segment_model) ∙ sym c.k12_refusal.ensures.value

pub returns-then-not-is_rights-clause-verdict : goal.returns-then-not-is_rights-clause-verdict
returns-then-not-is_rights-clause-verdict c =
    let d = c.args.d in
    let earlier = c.args.earlier.now in
    let s = segment_model c.args.segment.now in
    let within : s.page + s.pages ≤ 1048576 = omega arith in
    let none : is_rights s.rights ≡ false = ap is_rights (sym c.as_str.ensures.value) ∙ sym c.if-not-is_rights.ensures.value in
    rights_case d (map segment_model earlier) s within none
    ∙ ap (λ n. k12_refusal d n 2) (length-map earlier segment_model)
    ∙ sym c.k12_refusal-then-not-is_rights.ensures.value

pub returns-in_default-clause-verdict : goal.returns-in_default-clause-verdict
returns-in_default-clause-verdict c =
    let d = c.args.d in
    let earlier = c.args.earlier.now in
    let s = segment_model c.args.segment.now in
    let within : s.page + s.pages ≤ 1048576 = omega arith in
    let some : is_rights s.rights ≡ true = ap is_rights (sym c.as_str.ensures.value) ∙ sym c.if-not-is_rights.ensures.value in
    let none : bytes_in s.hex ≡ None =
    ap bytes_in (sym c.as_str-2.ensures.value) ∙ sym c.in_ok-bytes.ensures.value
    ∙ ap (option_map (λ v. v.items)) c.in_default.is in
    rest_case d (map segment_model earlier) s within some ∙ ap (bytes_case d (map segment_model earlier) s) none
    ∙ ap (λ n. k12_refusal d n 3) (length-map earlier segment_model) ∙ sym c.k12_refusal-in_default.ensures.value

pub returns-in_err-bytes_case-clause-verdict : goal.returns-in_err-bytes_case-clause-verdict
returns-in_err-bytes_case-clause-verdict c =
    let d = c.args.d in
    let earlier = map segment_model c.args.earlier.now in
    let s = segment_model c.args.segment.now in
    let within : s.page + s.pages ≤ 1048576 = omega arith in
    let some : is_rights s.rights ≡ true = ap is_rights (sym c.as_str.ensures.value) ∙ sym c.if-not-is_rights.ensures.value in
    let made : bytes_in s.hex ≡ Some c.in-Some.bytes.items =
    ap bytes_in (sym c.as_str-2.ensures.value) ∙ sym c.in_ok-bytes.ensures.value
    ∙ ap (option_map (λ v. v.items)) c.in-Some.is in
    let given = made ∙ ap Some (sym c.deref.ensures.value) in
    broken c.from_residual-in_err-bytes_case.result _ _ c.from_residual-in_err-bytes_case.ensures.1
    (rest_case d earlier s within some ∙ ap (bytes_case d earlier s) given ∙ c.in_err-bytes_case.ensures.verdict)

pub returns-clause-verdict : goal.returns-clause-verdict
returns-clause-verdict c =
    let d = c.args.d in
    let earlier = map segment_model c.args.earlier.now in
    let s = segment_model c.args.segment.now in
    let within : s.page + s.pages ≤ 1048576 = omega arith in
    let some : is_rights s.rights ≡ true = ap is_rights (sym c.as_str.ensures.value) ∙ sym c.if-not-is_rights.ensures.value in
    let made : bytes_in s.hex ≡ Some c.in-Some.bytes.items =
    ap bytes_in (sym c.as_str-2.ensures.value) ∙ sym c.in_ok-bytes.ensures.value
    ∙ ap (option_map (λ v. v.items)) c.in-Some.is in
    let given = made ∙ ap Some (sym c.deref.ensures.value) in
    rest_case d earlier s within some ∙ ap (bytes_case d earlier s) given ∙ c.in_ok-bytes_case.ensures.verdict

pub returns-clause-value : goal.returns-clause-value
returns-clause-value c =
    let s = segment_model c.args.segment.now in
    let made : bytes_in s.hex ≡ Some c.in-Some.bytes.items =
    ap bytes_in (sym c.as_str-2.ensures.value) ∙ sym c.in_ok-bytes.ensures.value
    ∙ ap (option_map (λ v. v.items)) c.in-Some.is in
    segment_is s c.rights_of.result c.in-Some.bytes.items (c.rights_of.ensures.value ∙ ap rights_of c.as_str-3.ensures.value) made
