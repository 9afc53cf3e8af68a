use Rattle.std.proofs.Common.{Some, string_bytes, ap, ◌∙◌, ◌≤◌, false, sym, subst}
use Rattle.std.proofs.lemmas.Str.{IsUtf8-string_bytes}
use Rattle.toml.specs.Data.{Members, members_depth}
use Rattle.toml.specs.Text.{IsDocumentText}
use Rattle.image_record.specs.Models.{raw_model}
use Rattle.image_writing.proofs.Depth.{record_depth}
use Rattle.image_writing.proofs.OneText.{written}
use Rattle.image_writing.proofs.ReadBack.{read_back}
use Rattle.image_writing.proofs.writing.write_image.Goals as goal

pub returns-in-Ok-written-clause-reads : goal.returns-in-Ok-written-clause-reads
returns-in-Ok-written-clause-reads c w =
    let r = raw_model c.args.raw.now in
    let made = c.in-Ok.ensures.made in
    let shallow = subst (λ (ms : Members). members_depth ms ≤ 80) (sym made) (record_depth r) in
    let parsed = c.in-Ok-written.ensures.reads_back shallow ∙ ap (λ (ms : Members). Some ms) made in
    read_back r (string_bytes c.in-Ok-written.text) (IsUtf8-string_bytes c.in-Ok-written.text) parsed w

pub returns-in-Ok-written-clause-written : goal.returns-in-Ok-written-clause-written
returns-in-Ok-written-clause-written c =
    let bytes = string_bytes c.in-Ok-written.text in
    written (raw_model c.args.raw.now) bytes
    (subst (λ (ms : Members). IsDocumentText false ms bytes) c.in-Ok.ensures.made c.in-Ok-written.ensures.text)
