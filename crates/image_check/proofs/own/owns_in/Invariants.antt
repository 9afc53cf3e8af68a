use Rattle.std.proofs.Common.{◌≡◌, ◌++◌, drop, map}
use Rattle.image_record.specs.Parts.{domain_model}
use Rattle.image_check.specs.Own.{owns_from}
use Rattle.image_check.specs.Parts.{ArePartsOf}
use Rattle.image_check.specs.Models.{own_model}
use Rattle.image_check.proofs.own.owns_in.Given as goal

abbrev pub invariant-loop-number : goal.invariant-loop-number
invariant-loop-number l =
    (map own_model l.owns.items ++ owns_from l.number l.mail (map domain_model (drop l.number l.domains))
    ≡ owns_from 0 l.mail (map domain_model l.domains))
    × ArePartsOf l.parts (map domain_model (drop l.number l.domains))
