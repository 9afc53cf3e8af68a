use Rattle.std.proofs.Common.{string_bytes, arith}
use Rattle.std.proofs.lemmas.List.{length-map}
use Rattle.image_record.specs.Models.{raw_model}
use Rattle.image_record.specs.Parts.{domain_model}
use Rattle.tp_answer.proofs.Kept.{kept_written, kept_back}
use Rattle.tp_answer.proofs.redact.kept_text.Goals as goal

pub write_redacted-requires : goal.write_redacted-requires
write_redacted-requires c =
    let has = c.requires.domain (raw_model c.in-Ok.raw) c.in-Ok.ensures.found in
    record { domain = omega (arith, has, length-map c.in-Ok.raw.domains.items domain_model) }

pub returns-in-Ok : goal.returns-in-Ok
returns-in-Ok c =
    let i = raw_model c.in-Ok.raw in
    let w = c.write_redacted.result in
    record {
      text =
          λ j own. kept_written (λ s. string_bytes s) c.args.bytes.now i c.args.domain c.in-Ok.ensures.found w
          c.write_redacted.ensures.text j own;
      reads_back =
          kept_back (λ s. string_bytes s) c.args.bytes.now i c.args.domain c.in-Ok.ensures.found w
          c.write_redacted.ensures.text c.write_redacted.ensures.reads;
    }
