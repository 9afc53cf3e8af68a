use Rattle.std.proofs.Common.{◌≡◌, take, drop, map}
use Rattle.image_record.specs.Parts.{entry_model}
use Rattle.pad_bound.specs.Models.{shape_model}
use Rattle.image_record.specs.Cases.{first_case, first_in}
use Rattle.image_check.specs.Pads as spec
use Rattle.image_check.proofs.pads.k17_entries.Given as goal

abbrev pub invariant-loop-place : goal.invariant-loop-place
invariant-loop-place l =
    first_case (spec.k17_by (shape_model l.shape) l.calls) (map entry_model (take l.place l.entries))
    (map entry_model (drop l.place l.entries))
    ≡ first_in (spec.k17_by (shape_model l.shape) l.calls) (map entry_model l.entries)
