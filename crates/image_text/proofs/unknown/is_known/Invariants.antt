-- The loop: what is left of it decides as the whole does.
use Rattle.std.proofs.Common.{◌≡◌, drop, map}
use Rattle.image_text.specs.Unknown as spec
use Rattle.image_text.specs.Models.{row_model}
use Rattle.image_text.proofs.unknown.is_known.Given as goal

abbrev pub invariant-loop-row : goal.invariant-loop-row
invariant-loop-row l =
    spec.is_known l.version l.place (map row_model (drop l.row-index l.rows)) l.key
    ≡ spec.is_known l.version l.place (map row_model l.rows) l.key
