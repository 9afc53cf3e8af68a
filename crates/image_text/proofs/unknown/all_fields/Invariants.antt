-- The keys that are left decide as all of them do.
use Rattle.std.proofs.Common.{◌≡◌, map}
use Rattle.toml.specs.View.{members_view}
use Rattle.image_text.specs.Unknown as spec
use Rattle.image_text.specs.Models.{field_model}
use Rattle.image_text.proofs.unknown.all_fields.Given as goal

abbrev pub invariant-loop-key : goal.invariant-loop-key
invariant-loop-key l =
    spec.all_fields (map field_model l.fields) (members_view l.key-iterator)
    ≡ spec.all_fields (map field_model l.fields) (members_view l.fn.table.entries)
