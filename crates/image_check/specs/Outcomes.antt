-- How a call ends that tests the rules.
use Rattle.std.specs.Prelude.{◌≡◌, List, slice_get, Some}
use Rattle.image_record.specs.declared.refusal.Refusal.{Refusal}
use Rattle.image_record.specs.declared.refusal.ReadRefusal.{ReadRefusal}
use Rattle.image_record.specs.declared.refusal.ReadRefusal.TheVariants.{Broken, Memory}

-- the refusal is the first of those that are due, unless memory ran out
abbrev pub IsFirst : List Refusal → ReadRefusal → Type 0
IsFirst due Memory = Unit {0}
IsFirst due (Broken r) = slice_get due 0 ≡ Some r
