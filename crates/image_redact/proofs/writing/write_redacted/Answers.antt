use Rattle.std.proofs.Common.{◌≡◌, subst}
use Rattle.std.specs.Prelude.{IfOk, string_bytes}
use Rattle.image_record.specs.Record.{Raw}
use Rattle.image_record.specs.Models.{raw_model}
use Rattle.image_writing.specs.Text.{text_of}
use Rattle.image_redact.proofs.Writable.{kept_reads}
use Rattle.image_redact.proofs.writing.write_redacted.Goals as goal

pub returns-in-Ok : goal.returns-in-Ok
returns-in-Ok c =
    let made = c.in-Ok.ensures.made in
    let w = c.write_image-written.result in
    record {
      text = subst (λ (r : Raw). IfOk w (λ s. string_bytes s ≡ text_of r)) made c.write_image-written.ensures.written;
      reads = kept_reads (λ s. string_bytes s) w (raw_model c.args.raw) (raw_model c.in-Ok.kept) c.args.d made
          c.write_image-written.ensures.reads;
    }
