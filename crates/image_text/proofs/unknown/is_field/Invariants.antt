-- The loop: what is left of it decides as the whole does.
use Rattle.std.proofs.Common.{◌≡◌, drop, map}
use Rattle.image_text.specs.Unknown as spec
use Rattle.image_text.specs.Models.{field_model}
use Rattle.image_text.proofs.unknown.is_field.Given as goal

abbrev pub invariant-loop-field : goal.invariant-loop-field
invariant-loop-field l =
    spec.is_field (map field_model (drop l.field-index l.fields)) l.key
    ≡ spec.is_field (map field_model l.fields) l.key
