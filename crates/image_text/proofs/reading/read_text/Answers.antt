-- Bytes that are refused for another cause than memory are no UTF-8, or no TOML.
use Rattle.std.proofs.Common.{inl, inr, refl, rules}
use Rattle.std.specs.Str.{is_utf8}
use Rattle.std.proofs.lemmas.Bool.{cases_Bool}
use Rattle.std.proofs.lemmas.Str.{is_utf8-from_IsUtf8, IsUtf8-from_is_utf8}
use Rattle.image_text.specs.Record.{image_of, document}
use Rattle.image_text.proofs.reading.read_text.Goals as goal

pub returns-in-Ok : goal.returns-in-Ok
unfolding image_of document
returns-in-Ok c = record { found = rw (is_utf8-from_IsUtf8 _ c.in-Ok.ensures.ok.0, c.in-Ok.ensures.ok.1) c.read_table.ensures.found }

pub returns-else-is_memory : goal.returns-else-is_memory
unfolding image_of document
returns-else-is_memory c =
    elim (cases_Bool (is_utf8 c.args.bytes.now)) [
      | inl text ↦ rw (text, c.in-Err.ensures.refused (search rules) (IsUtf8-from_is_utf8 _ text)) (record { found = refl })
      | inr not_text ↦ rw not_text (record { found = refl })
    ]
