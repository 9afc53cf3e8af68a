use Rattle.std.proofs.Common.{◌≡◌, take, drop, map}
use Rattle.image_record.specs.Cases.{first_case, first_in}
use Rattle.lend_check.specs.Models.{domain_model, entry_model}
use Rattle.lend_check.specs.Rule as spec
use Rattle.lend_check.proofs.rule.k21_entries.Given as goal

abbrev pub invariant-loop-place : goal.invariant-loop-place
invariant-loop-place l =
    first_case (spec.k21_entry (map domain_model l.domains)) (map entry_model (take l.place l.entries))
    (map entry_model (drop l.place l.entries))
    ≡ first_in (spec.k21_entry (map domain_model l.domains)) (map entry_model l.entries)
