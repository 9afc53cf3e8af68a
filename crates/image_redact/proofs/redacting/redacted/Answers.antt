use Rattle.std.proofs.Common.{◌∙◌, map, string_bytes, length, ap, arith}
use Rattle.std.proofs.lemmas.List.{length-map}
use Rattle.image_record.specs.Models.{raw_model}
use Rattle.image_record.specs.Parts.{domain_model}
use Rattle.image_redact.specs.Redacted.{kept_domains}
use Rattle.image_redact.proofs.Leading.{kept_long}
use Rattle.image_redact.proofs.Made.{in_ranges, record_made}
use Rattle.image_redact.proofs.redacting.redacted.Goals as goal

pub names_of-requires : goal.names_of-requires
names_of-requires c =
    let many = kept_long (raw_model c.args.raw) c.from.result in
    let kept = ap length c.in_ok-kept.ensures.kept in
    record { each = omega (arith, kept, many, length-map c.args.raw.domains.items domain_model) }

pub all_but-requires : goal.all_but-requires
all_but-requires c =
    let many = kept_long (raw_model c.args.raw) c.from.result in
    let kept = ap length c.in_ok-kept.ensures.kept in
    record { each = omega (arith, kept, many, length-map c.args.raw.domains.items domain_model) }

pub invariant_of-raw : goal.invariant_of-raw
invariant_of-raw c = record {
  in_ranges =
      in_ranges c.args.raw c.args.d c.in_ok-kept.kept.items c.as_slice.result.now c.as_slice-3.result.now
      c.as_slice-2.result.now (map (λ s. string_bytes s) c.as_slice-4.result.now) c.in_ok-domains.domains.items
      (c.in_ok-kept.ensures.kept ∙ ap (kept_domains (raw_model c.args.raw)) c.from.ensures) c.as_slice.ensures.value
      c.as_slice-2.ensures.value (ap (map (λ s. string_bytes s)) c.as_slice-4.ensures.value ∙ c.in_ok-taken.ensures.names)
      c.as_slice-3.ensures.value c.in_ok-domains.ensures.made;
}

pub returns : goal.returns
returns c = record {
  made =
      record_made c.args.raw c.args.d c.in_ok-kept.kept.items c.as_slice.result.now c.as_slice-3.result.now
      c.as_slice-2.result.now (map (λ s. string_bytes s) c.as_slice-4.result.now) c.in_ok-domains.domains.items
      (c.in_ok-kept.ensures.kept ∙ ap (kept_domains (raw_model c.args.raw)) c.from.ensures) c.as_slice.ensures.value
      c.as_slice-2.ensures.value (ap (map (λ s. string_bytes s)) c.as_slice-4.ensures.value ∙ c.in_ok-taken.ensures.names)
      c.as_slice-3.ensures.value c.in_ok-domains.ensures.made;
}
