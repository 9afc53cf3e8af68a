-- The loop: what is left of it decides as the whole does.
use Rattle.std.proofs.Common.{◌≡◌, map}
use Rattle.toml.specs.View.{members_view}
use Rattle.image_text.specs.Unknown as spec
use Rattle.image_text.specs.Models.{row_model}
use Rattle.image_text.proofs.unknown.all_keys_known.Given as goal

abbrev pub invariant-loop-key : goal.invariant-loop-key
invariant-loop-key l =
    spec.all_keys (spec.is_known l.version l.place (map row_model l.rows)) (members_view l.key-iterator)
    ≡ spec.all_keys (spec.is_known l.version l.place (map row_model l.rows))
    (members_view l.fn.table.entries)
