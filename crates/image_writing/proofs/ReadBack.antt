-- The text that is written reads as the record.
use Rattle.std.proofs.Common.{◌≡◌, List, ℕ, Some, Ok, IsUtf8}
use Rattle.std.proofs.lemmas.Str.{is_utf8-from_IsUtf8}
use Rattle.toml.specs.Parse.{parse_document}
use Rattle.image_record.specs.Record.{Raw}
use Rattle.image_text.specs.Record.{document, image_of}
use Rattle.image_writing.specs.Data.{record_members}
use Rattle.image_writing.specs.Writing.{IsWritable}
use Rattle.image_writing.proofs.Recorded.{recorded}
use Rattle.image_writing.proofs.Whole.{whole}

pub read_back : (r : Raw) (bytes : List ℕ) → IsUtf8 bytes → parse_document bytes ≡ Some (record_members r) → IsWritable r
    → image_of bytes ≡ Ok r
unfolding image_of document
read_back r bytes utf8 parsed w =
    let valid = is_utf8-from_IsUtf8 bytes utf8 in
    rw (valid, parsed, whole r w, recorded r w)
